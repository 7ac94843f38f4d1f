-- `given::control` meets its contract.
use borrow.Author.Rules.{rules}
use Rattle.cells.specs.Cells.{control_of}
use Rattle.cells.proofs.given.control.Statement.{statement}
use Rattle.cells.proofs.given.control.Tie as tie

pub control_spec : {M : Type 1} → statement M
unfolding control_of
control_spec =
    tie.close
    (tie.spec (λ c κs. search rules) (λ c κs. search rules) (λ c κs. search rules) (λ c κs. search rules) (λ c κs. search rules)
    (λ c κs. search rules) (λ c κs. search rules) (λ c κs. search rules) (λ c κs. search rules) (λ c κs. search rules) (λ c κs. search rules)
    (λ c κs. search rules) (λ c. cc))
