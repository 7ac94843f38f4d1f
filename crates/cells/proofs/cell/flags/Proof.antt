-- `cell::flags` meets its contract.
use borrow.Author.Rules.{rules}
use Rattle.cells.proofs.Laws.{four_by}
use Rattle.cells.proofs.cell.flags.Statement.{statement}
use Rattle.cells.proofs.cell.flags.Tie as tie

pub flags_spec : {M : Type 1} → statement M
flags_spec = tie.close (tie.spec (λ c κs. search rules) (λ c κs. search rules) (λ c κs. search rules) (λ c. search (rules, four_by)))
