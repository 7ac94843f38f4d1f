use borrow.Author.Rules.{rules}
use Rattle.registers.specs.Writing.{write_masked}
use Rattle.writing.proofs.Laws.{to_write, to_unwritten}
use Rattle.writing.proofs.write_masked.Statement.{statement}
use Rattle.writing.proofs.write_masked.Tie as tie

pub write_masked_spec : {M : Type 1} → statement M
unfolding write_masked
write_masked_spec =
    tie.close
    (tie.spec (λ c κs. search rules) (λ c κs. search rules) (λ c κs. search rules) (λ c κs. search rules) (λ c κs. search rules)
    (λ c κs. search rules) (λ c κs. search rules) (λ c κs. search rules) (λ c. search (rules, to_write)) (λ c. search (rules, to_write))
    (λ c. search (rules, to_write)) (λ c. search (rules, to_write)) (λ c. search (rules, to_write)) (λ c. search (rules, to_write))
    (λ c. search (rules, to_write)) (λ c. search (rules, to_unwritten)))
