-- `event_by` meets its contract.
use borrow.Author.Rules.{rules}
use Rattle.base.specs.Pick.{picks}
use Rattle.icelichen_bridge.specs.Calls.{event_by}
use Rattle.icelichen_bridge.proofs.event_by.Statement.{statement}
use Rattle.icelichen_bridge.proofs.event_by.Tie as tie

pub event_by_spec : {M : Type 1} → statement M
unfolding event_by
event_by_spec =
    tie.close
    (tie.spec (λ c. search (rules, picks)) (λ c. search (rules, picks)) (λ c. search rules) (λ c. search rules) (λ c κs. search rules)
    (λ c. search (rules, picks)))
