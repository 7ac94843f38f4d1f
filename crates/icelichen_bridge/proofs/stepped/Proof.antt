-- `stepped` meets its contract.
use borrow.Author.Rules.{rules}
use Rattle.icelichen_bridge.proofs.Laws.{to_stepped, to_step_leaves}
use Rattle.icelichen_bridge.proofs.stepped.Statement.{statement}
use Rattle.icelichen_bridge.proofs.stepped.Tie as tie

pub stepped_spec : {M : Type 1} → statement M
stepped_spec =
    tie.close
    (tie.spec (λ c κs. search rules) (λ c κs. search rules) (λ c κs. search rules) (λ c κs. search rules) (λ c κs. search rules) (λ c. search rules)
    (λ c. search rules) (λ c. search (rules, to_stepped, to_step_leaves)))
