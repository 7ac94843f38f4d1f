use borrow.Author.Rules.{rules}
use Rattle.registers.specs.Spictrl.{dog_code}
use Rattle.registers.proofs.Arms.{to_code, to_off}
use Rattle.registers.proofs.spictrl.dog_code.Statement.{statement}
use Rattle.registers.proofs.spictrl.dog_code.Tie as tie

pub dog_code_spec : {M : Type 1} → statement M
unfolding dog_code
dog_code_spec =
    tie.close
    (tie.spec (λ c. search (rules, to_code, to_off))
    (λ c. search (rules, to_code, to_off))
    (λ c. search (rules, to_code, to_off))
    (λ c. search (rules, to_code, to_off)))
