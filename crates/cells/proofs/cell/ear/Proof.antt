-- `cell::ear` meets its contract.
use borrow.Author.Rules.{rules}
use Rattle.cells.proofs.Laws.{four_parts}
use Rattle.cells.proofs.cell.ear.Statement.{statement}
use Rattle.cells.proofs.cell.ear.Tie as tie

pub ear_spec : {M : Type 1} → statement M
ear_spec = tie.close (tie.spec (λ c κs. search rules) (λ c κs. search rules) (λ c. search (rules, four_parts)))
