-- `drain_number` meets its contract.
use borrow.Author.Rules.{rules}
use Rattle.icelichen_bridge.proofs.Laws.{to_drained}
use Rattle.icelichen_bridge.proofs.drain_number.Statement.{statement}
use Rattle.icelichen_bridge.proofs.drain_number.Tie as tie

pub drain_number_spec : {M : Type 1} → statement M
drain_number_spec =
    tie.close
    (tie.spec (λ c κs. search rules) (λ c. search rules) (λ c. search rules) (λ c. search rules) (λ c. search (rules, to_drained)))
