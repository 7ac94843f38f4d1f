-- `second` meets its contract.
use borrow.Author.Rules.{rules}
use Rattle.parts.specs.Numbers.{second}
use Rattle.parts.proofs.numbers.second.Statement.{statement}
use Rattle.parts.proofs.numbers.second.Tie as tie

pub second_spec : {M : Type 1} → statement M
unfolding second
second_spec = tie.close (tie.spec (λ c. search rules) (λ c. search rules))
