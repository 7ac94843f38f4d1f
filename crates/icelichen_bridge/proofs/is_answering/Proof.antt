-- `is_answering` meets its contract: an arm knows its phase.
use borrow.Author.Rules.{rules}
use Rattle.icelichen_bridge.proofs.Laws.{to_phase}
use Rattle.icelichen_bridge.specs.Calls.{is_answering}
use Rattle.icelichen_bridge.proofs.is_answering.Statement.{statement}
use Rattle.icelichen_bridge.proofs.is_answering.Tie as tie

pub is_answering_spec : {M : Type 1} → statement M
unfolding is_answering
is_answering_spec =
    tie.close
    (tie.spec (λ c. search rules) (λ c. search rules) (λ c. search rules) (λ c. search rules) (λ c. search (rules, to_phase))
    (λ c. search (rules, to_phase)) (λ c. search (rules, to_phase)) (λ c. search (rules, to_phase)))
