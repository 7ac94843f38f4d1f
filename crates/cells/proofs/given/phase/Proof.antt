-- `given::phase` meets its contract.
use borrow.Author.Rules.{rules}
use Rattle.cells.specs.Cells.{phase_at}
use Rattle.cells.proofs.given.phase.Statement.{statement}
use Rattle.cells.proofs.given.phase.Tie as tie

pub phase_spec : {M : Type 1} → statement M
unfolding phase_at
phase_spec =
    tie.close
    (tie.spec (λ c κs. search rules) (λ c κs. search rules) (λ c κs. search rules) (λ c κs. search rules) (λ c κs. search rules)
    (λ c κs. search rules) (λ c κs. search rules) (λ c κs. search rules) (λ c κs. search rules) (λ c κs. search rules) (λ c κs. search rules)
    (λ c κs. search rules) (λ c κs. search rules) (λ c. cc))
