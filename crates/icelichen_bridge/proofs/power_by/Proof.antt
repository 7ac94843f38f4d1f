-- `power_by` meets its contract.
use borrow.Author.Rules.{rules}
use Rattle.base.specs.Pick.{picks}
use Rattle.icelichen_bridge.specs.Calls.{power_by}
use Rattle.icelichen_bridge.proofs.power_by.Statement.{statement}
use Rattle.icelichen_bridge.proofs.power_by.Tie as tie

pub power_by_spec : {M : Type 1} → statement M
unfolding power_by
power_by_spec =
    tie.close
    (tie.spec (λ c κs. search rules) (λ c. search (rules, picks)) (λ c κs. search rules) (λ c. search (rules, picks)) (λ c κs. search rules)
    (λ c. search (rules, picks)) (λ c κs. search rules) (λ c. search (rules, picks)))
