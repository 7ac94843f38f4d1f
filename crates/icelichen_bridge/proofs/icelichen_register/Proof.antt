-- `icelichen_register` meets its contract.
use borrow.Author.Rules.{rules}
use Rattle.icelichen_bridge.proofs.Laws.{to_no_register, to_register, to_broken_register}
use Rattle.icelichen_bridge.proofs.icelichen_register.Statement.{statement}
use Rattle.icelichen_bridge.proofs.icelichen_register.Tie as tie

pub icelichen_register_spec : {M : Type 1} → statement M
icelichen_register_spec = tie.close (tie.spec (λ c. search (rules, to_no_register)) (λ c κs. search rules) (λ c κs. search rules) (λ c. search rules) (λ c κs. search rules) (λ c. search rules) (λ c. search (rules, to_register)) (λ c. search (rules, to_broken_register)))
