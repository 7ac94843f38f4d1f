use borrow.Author.Rules.{rules}
use Rattle.playing.proofs.Walks.{text_length, text_fits, text_put}
use Rattle.playing.proofs.stop.Statement.{statement}
use Rattle.playing.proofs.stop.Tie as tie

pub stop_spec : {M : Type 1} → statement M
stop_spec =
    tie.close
    (tie.spec (λ c κs. search rules) (λ c κs. search (rules, text_length, text_fits)) (λ c. search rules) (λ c κs. search rules)
    (λ c. search rules) (λ c. search (rules, text_put)))
