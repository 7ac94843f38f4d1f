use borrow.Author.Rules.{rules}
use Rattle.playing.proofs.Walks.{text_length, text_fits, text_put, to_head, to_bad_head, to_no_room}
use Rattle.playing.proofs.begin.Statement.{statement}
use Rattle.playing.proofs.begin.Tie as tie

pub begin_spec : {M : Type 1} → statement M
begin_spec =
    tie.close
    (tie.spec (λ c κs. search rules) (λ c κs. search rules) (λ c κs. search rules) (λ c. search (rules, to_head)) (λ c κs. search rules)
    (λ c κs. search (rules, text_length, text_fits)) (λ c κs. search rules) (λ c. search rules)
    (λ c. search (rules, text_put, to_bad_head)) (λ c κs. search rules) (λ c. search (rules, to_no_room)))
