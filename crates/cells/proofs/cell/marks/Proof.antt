-- `cell::marks` meets its contract.
use borrow.Author.Rules.{rules}
use Rattle.cells.proofs.Laws.{four_by}
use Rattle.cells.proofs.cell.marks.Statement.{statement}
use Rattle.cells.proofs.cell.marks.Tie as tie

pub marks_spec : {M : Type 1} → statement M
marks_spec =
    tie.close
    (tie.spec (λ c κs. search rules) (λ c κs. search rules) (λ c κs. search rules) (λ c κs. search rules) (λ c κs. search rules)
    (λ c. search (rules, four_by)))
