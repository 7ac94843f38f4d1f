use borrow.Author.Rules.{rules}
use Rattle.playing.proofs.Walks.{to_small, to_smaller, to_play}
use Rattle.playing.proofs.play.Statement.{statement}
use Rattle.playing.proofs.play.Tie as tie

pub play_spec : {M : Type 1} → statement M
play_spec =
    tie.close
    (tie.spec (λ c κs. search rules) (λ c. search (rules, to_small)) (λ c. search rules) (λ c κs. search rules)
    (λ c. search (rules, to_smaller)) (λ c κs. search rules) (λ c. search rules) (λ c. search rules)
    (λ c. search rules) (λ c. search (rules, to_play)))
