-- `cell::state` meets its contract.
use borrow.Author.Rules.{rules}
use Rattle.cells.proofs.Laws.{four_by}
use Rattle.cells.proofs.cell.state.Statement.{statement}
use Rattle.cells.proofs.cell.state.Tie as tie

pub state_spec : {M : Type 1} → statement M
state_spec =
    tie.close
    (tie.spec (λ c κs. search rules) (λ c κs. search rules) (λ c κs. search rules) (λ c κs. search rules) (λ c. search (rules, four_by)))
