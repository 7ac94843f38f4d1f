-- `cell::phase` meets its contract.
use borrow.Author.Rules.{rules}
use Rattle.cells.proofs.Laws.{four_parts}
use Rattle.cells.proofs.cell.phase.Statement.{statement}
use Rattle.cells.proofs.cell.phase.Tie as tie

pub phase_spec : {M : Type 1} → statement M
phase_spec = tie.close (tie.spec (λ c κs. search rules) (λ c κs. search rules) (λ c. search (rules, four_parts)))
