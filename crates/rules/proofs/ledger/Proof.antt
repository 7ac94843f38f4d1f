use borrow.Author.Rules.{rules}
use Rattle.rules.proofs.ledger.Statement.{statement}
use Rattle.rules.proofs.ledger.Tie as tie

pub ledger_spec : {M : Type 1} → statement M
ledger_spec =
    tie.close
    (tie.spec (λ c κs. search rules) (λ c. search rules) (λ c. search rules) (λ c. search rules) (λ c. search rules) (λ c. search rules)
    (λ c κs. search rules) (λ c. search rules) (λ c. search rules) (λ c κs. search rules) (λ c. cc))
