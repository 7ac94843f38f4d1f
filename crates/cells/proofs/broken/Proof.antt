-- `broken` meets its contract.
use borrow.Author.Rules.{rules}
use Rattle.cells.proofs.Laws.{to_broken}
use Rattle.cells.proofs.broken.Statement.{statement}
use Rattle.cells.proofs.broken.Tie as tie

pub broken_spec : {M : Type 1} → statement M
broken_spec = tie.close (tie.spec (λ c κs. search rules) (λ c. search (rules, to_broken)))
