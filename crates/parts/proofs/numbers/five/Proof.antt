-- `five` meets its contract.
use borrow.Author.Rules.{rules}
use Rattle.parts.specs.Numbers.{five}
use Rattle.parts.proofs.numbers.five.Statement.{statement}
use Rattle.parts.proofs.numbers.five.Tie as tie

pub five_spec : {M : Type 1} → statement M
unfolding five
five_spec =
    tie.close
    (tie.spec (λ c κs. search rules) (λ c κs. search rules) (λ c. search rules) (λ c. search rules) (λ c κs. search rules) (λ c. search rules)
    (λ c. search rules) (λ c κs. search rules) (λ c. search rules) (λ c. search rules) (λ c κs. search rules) (λ c. search rules) (λ c. search rules)
    (λ c. search rules))
