-- `icelichen_answering` meets its contract.
use borrow.Author.Rules.{rules}
use Rattle.icelichen_bridge.proofs.Laws.{to_answering}
use Rattle.icelichen_bridge.proofs.icelichen_answering.Statement.{statement}
use Rattle.icelichen_bridge.proofs.icelichen_answering.Tie as tie

pub icelichen_answering_spec : {M : Type 1} → statement M
icelichen_answering_spec =
    tie.close
    (tie.spec (λ c κs. search rules) (λ c κs. search rules) (λ c κs. search rules) (λ c κs. search rules) (λ c. search (rules, to_answering)))
