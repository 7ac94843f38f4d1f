-- `cell::piece` meets its contract.
use borrow.Author.Rules.{rules}
use Rattle.cells.proofs.Laws.{four_piece}
use Rattle.cells.proofs.cell.piece.Statement.{statement}
use Rattle.cells.proofs.cell.piece.Tie as tie

pub piece_spec : {M : Type 1} → statement M
piece_spec = tie.close (tie.spec (λ c κs. search rules) (λ c κs. search rules) (λ c κs. search rules) (λ c. search (rules, four_piece)))
