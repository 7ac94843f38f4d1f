-- `icelichen_power_up` meets its contract.
use borrow.Author.Rules.{rules}
use Rattle.icelichen_bridge.proofs.Laws.{to_powered, to_power_leaves, to_no_power, to_power_as_was}
use Rattle.icelichen_bridge.proofs.icelichen_power_up.Statement.{statement}
use Rattle.icelichen_bridge.proofs.icelichen_power_up.Tie as tie

pub icelichen_power_up_spec : {M : Type 1} → statement M
icelichen_power_up_spec =
    tie.close
    (tie.spec (λ c κs. search rules) (λ c κs. search rules) (λ c. search (rules, to_powered, to_power_leaves))
    (λ c. search (rules, to_no_power, to_power_as_was)))
