-- `icelichen_event` meets its contract.
use borrow.Author.Rules.{rules}
use Rattle.icelichen_bridge.proofs.Laws.{to_event, to_event_leaves, to_no_event, to_event_as_was}
use Rattle.icelichen_bridge.proofs.icelichen_event.Statement.{statement}
use Rattle.icelichen_bridge.proofs.icelichen_event.Tie as tie

pub icelichen_event_spec : {M : Type 1} → statement M
icelichen_event_spec =
    tie.close
    (tie.spec (λ c κs. search rules) (λ c. search rules) (λ c κs. search rules) (λ c. search rules) (λ c. search rules) (λ c. search rules)
    (λ c. search (rules, to_event, to_event_leaves)) (λ c. search (rules, to_no_event, to_event_as_was)))
