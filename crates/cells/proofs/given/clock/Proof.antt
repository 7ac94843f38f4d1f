-- `given::clock` meets its contract.
use borrow.Author.Rules.{rules}
use Rattle.cells.specs.Cells.{clock_of}
use Rattle.cells.proofs.given.clock.Statement.{statement}
use Rattle.cells.proofs.given.clock.Tie as tie

pub clock_spec : {M : Type 1} → statement M
unfolding clock_of
clock_spec =
    tie.close
    (tie.spec (λ c κs. search rules) (λ c κs. search rules) (λ c κs. search rules) (λ c κs. search rules) (λ c κs. search rules)
    (λ c κs. search rules) (λ c. cc))
