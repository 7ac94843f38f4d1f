-- `given::held` meets its contract.
use borrow.Author.Rules.{rules}
use Rattle.cells.specs.Cells.{held_of}
use Rattle.cells.proofs.given.held.Statement.{statement}
use Rattle.cells.proofs.given.held.Tie as tie

pub held_spec : {M : Type 1} → statement M
unfolding held_of
held_spec =
    tie.close
    (tie.spec (λ c κs. search rules) (λ c κs. search rules) (λ c κs. search rules) (λ c κs. search rules) (λ c κs. search rules)
    (λ c κs. search rules) (λ c κs. search rules) (λ c κs. search rules) (λ c κs. search rules) (λ c κs. search rules) (λ c κs. search rules)
    (λ c κs. search rules) (λ c. cc))
