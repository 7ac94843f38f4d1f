-- `lent` meets its contract.
use borrow.Author.Rules.{rules}
use Rattle.cells.proofs.Laws.{to_lent, to_refused}
use Rattle.cells.proofs.lent.Statement.{statement}
use Rattle.cells.proofs.lent.Tie as tie

pub lent_spec : {M : Type 1} → statement M
lent_spec =
    tie.close
    (tie.spec (λ c κs. search rules) (λ c κs. search rules) (λ c κs. search rules) (λ c. search (rules, to_lent)) (λ c κs. search rules)
    (λ c. search (rules, to_refused)))
