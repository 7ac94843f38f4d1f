-- `is_refusal` meets its contract.
use borrow.Author.Rules.{rules}
use Rattle.icelichen_bridge.proofs.Laws.{to_refusal}
use Rattle.icelichen_bridge.proofs.is_refusal.Statement.{statement}
use Rattle.icelichen_bridge.proofs.is_refusal.Tie as tie

pub is_refusal_spec : {M : Type 1} → statement M
is_refusal_spec = tie.close (tie.spec (λ c κs. search rules) (λ c. search (rules, to_refusal)))
