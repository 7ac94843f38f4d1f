-- `night_parts::moving::replied` meets its contract.
use borrow.Author.Rules.{rules}
use Rattle.night_parts.specs.Moving.{reply_move}
use Rattle.night_parts.proofs.Moves.{to_status, to_replied}
use Rattle.night_parts.proofs.moving.replied.Statement.{statement}
use Rattle.night_parts.proofs.moving.replied.Tie as tie

pub replied_spec : {M : Type 1} → statement M
unfolding reply_move
replied_spec =
    tie.close
    (tie.spec (λ c. search rules) (λ c κs. search rules) (λ c. search rules) (λ c κs. search rules) (λ c. search rules) (λ c κs. search rules)
    (λ c. search rules) (λ c. search (rules, to_status)) (λ c. search (rules, to_replied)) (λ c. search (rules, to_replied))
    (λ c. search (rules, to_replied)))
