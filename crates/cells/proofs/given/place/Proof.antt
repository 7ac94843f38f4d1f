-- `given::place` meets its contract.
use borrow.Author.Rules.{rules}
use Rattle.cells.specs.Cells.{place_of}
use Rattle.cells.proofs.given.place.Statement.{statement}
use Rattle.cells.proofs.given.place.Tie as tie

pub place_spec : {M : Type 1} → statement M
unfolding place_of
place_spec =
    tie.close
    (tie.spec (λ c κs. search rules) (λ c κs. search rules) (λ c κs. search rules) (λ c κs. search rules) (λ c κs. search rules)
    (λ c κs. search rules) (λ c κs. search rules) (λ c κs. search rules) (λ c κs. search rules) (λ c. cc))
