-- `lay` meets its contract.
use borrow.Author.Rules.{rules}
use Rattle.icelichen_bridge.proofs.Laws.{as_they_were, cells_anew, record_anew}
use Rattle.icelichen_bridge.proofs.lay.Statement.{statement}
use Rattle.icelichen_bridge.proofs.lay.Tie as tie

pub lay_spec : {M : Type 1} → statement M
lay_spec = tie.close (tie.spec (λ c. search (rules, as_they_were)) (λ c κs. search rules) (λ c. search (rules, cells_anew, record_anew)))
