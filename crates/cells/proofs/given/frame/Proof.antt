-- `given::frame` meets its contract.
use borrow.Author.Rules.{rules}
use Rattle.cells.specs.Cells.{frame_of}
use Rattle.cells.proofs.given.frame.Statement.{statement}
use Rattle.cells.proofs.given.frame.Tie as tie

pub frame_spec : {M : Type 1} → statement M
unfolding frame_of
frame_spec = tie.close (tie.spec (λ c κs. search rules) (λ c κs. search rules) (λ c κs. search rules) (λ c κs. search rules) (λ c. cc))
