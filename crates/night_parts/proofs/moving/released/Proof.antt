-- `night_parts::moving::released` meets its contract.
use borrow.Author.Rules.{rules}
use Rattle.night_parts.specs.Moving.{release_move}
use Rattle.night_parts.proofs.Moves.{to_released}
use Rattle.night_parts.proofs.moving.released.Statement.{statement}
use Rattle.night_parts.proofs.moving.released.Tie as tie

pub released_spec : {M : Type 1} → statement M
unfolding release_move
released_spec =
    tie.close
    (tie.spec (λ c. search rules) (λ c κs. search rules) (λ c. search rules) (λ c κs. search rules) (λ c. search rules) (λ c κs. search rules)
    (λ c. search rules) (λ c κs. search rules) (λ c. search (rules, to_released)) (λ c. search (rules, to_released))
    (λ c. search (rules, to_released)) (λ c. search (rules, to_released)))
