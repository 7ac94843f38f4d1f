-- `night_parts::moving::answered` meets its contract.
use borrow.Author.Rules.{rules}
use Rattle.night_parts.specs.Moving.{word_move}
use Rattle.night_parts.proofs.Moves.{to_answered}
use Rattle.night_parts.proofs.moving.answered.Statement.{statement}
use Rattle.night_parts.proofs.moving.answered.Tie as tie

pub answered_spec : {M : Type 1} → statement M
unfolding word_move
answered_spec =
    tie.close
    (tie.spec (λ c. search rules) (λ c κs. search rules) (λ c. search rules) (λ c κs. search rules) (λ c. search rules) (λ c κs. search rules)
    (λ c. search rules) (λ c κs. search rules) (λ c. search (rules, to_answered)) (λ c. search (rules, to_answered))
    (λ c. search (rules, to_answered)) (λ c. search (rules, to_answered)))
