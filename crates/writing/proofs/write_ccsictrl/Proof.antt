use borrow.Author.Rules.{rules}
use Rattle.registers.specs.Raising.{raised}
use Rattle.registers.specs.Writing.{write_ccsictrl}
use Rattle.base.specs.Pick.{picks}
use Rattle.writing.proofs.write_ccsictrl.Statement.{statement}
use Rattle.writing.proofs.write_ccsictrl.Tie as tie

pub write_ccsictrl_spec : {M : Type 1} → statement M
write_ccsictrl_spec =
    tie.close
    (tie.spec (λ c. unfold write_ccsictrl raised in search (rules, picks)) (λ c κs. search rules)
    (λ c. unfold write_ccsictrl in search (rules, picks)))
