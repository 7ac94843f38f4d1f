-- `cell::open` meets its contract.
use borrow.Author.Rules.{rules}
use Rattle.cells.proofs.Laws.{four_open}
use Rattle.cells.proofs.cell.open.Statement.{statement}
use Rattle.cells.proofs.cell.open.Tie as tie

pub open_spec : {M : Type 1} → statement M
open_spec =
    tie.close
    (tie.spec (λ c κs. search rules) (λ c κs. search rules) (λ c κs. search rules) (λ c κs. search rules) (λ c. search (rules, four_open)))
