-- `cell::clock` meets its contract.
use borrow.Author.Rules.{rules}
use Rattle.cells.proofs.Laws.{four_last}
use Rattle.cells.proofs.cell.clock.Statement.{statement}
use Rattle.cells.proofs.cell.clock.Tie as tie

pub clock_spec : {M : Type 1} → statement M
clock_spec = tie.close (tie.spec (λ c κs. search rules) (λ c κs. search rules) (λ c. search (rules, four_last)))
