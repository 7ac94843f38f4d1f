-- `night_parts::bytes::value_at` meets its contract.
use borrow.Author.Rules.{rules}
use Rattle.night_parts.proofs.bytes.value_at.Statement.{statement}
use Rattle.night_parts.proofs.bytes.value_at.Tie as tie

pub value_at_spec : {M : Type 1} → statement M
value_at_spec =
    tie.close
    (tie.spec (λ c. search rules) (λ c. search rules) (λ c. search rules) (λ c. search rules) (λ c. search rules) (λ c κs. search rules) (λ c. search rules))
