-- `bridge::step` meets its contract.
use borrow.Author.Rules.{rules}
use Rattle.bridge.specs.Step.{step}
use Rattle.base.specs.Pick.{picks}
use Rattle.bridge.proofs.Keeping.{is_ready_lem}
use Rattle.bridge.proofs.Laws.{to_refused}
use Rattle.bridge.proofs.step.Statement.{statement}
use Rattle.bridge.proofs.step.Tie as tie

pub step_spec : {M : Type 1} → statement M
unfolding step
step_spec =
    tie.close
    (tie.spec (λ c κs. search rules) (λ c. search (rules, picks, to_refused, is_ready_lem)) (λ c κs. search rules)
    (λ c. search (rules, picks, to_refused, is_ready_lem)) (λ c κs. search rules) (λ c κs. search (rules, picks, to_refused, is_ready_lem))
    (λ c. search rules) (λ c. search rules) (λ c. search (rules, picks, to_refused, is_ready_lem)) (λ c κs. search rules)
    (λ c. search (rules, picks, to_refused, is_ready_lem)))
