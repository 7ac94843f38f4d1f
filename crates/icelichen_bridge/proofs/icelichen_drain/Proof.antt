-- `icelichen_drain` meets its contract.
use borrow.Author.Rules.{rules}
use Rattle.icelichen_bridge.proofs.Laws.{to_drain, to_drain_leaves}
use Rattle.icelichen_bridge.proofs.icelichen_drain.Statement.{statement}
use Rattle.icelichen_bridge.proofs.icelichen_drain.Tie as tie

pub icelichen_drain_spec : {M : Type 1} → statement M
icelichen_drain_spec =
    tie.close
    (tie.spec (λ c κs. search rules) (λ c κs. search rules) (λ c κs. search rules) (λ c κs. search rules) (λ c κs. search rules) (λ c. search rules)
    (λ c. search rules) (λ c. search (rules, to_drain, to_drain_leaves)))
