-- `first` meets its contract.
use borrow.Author.Rules.{rules}
use Rattle.parts.specs.Numbers.{first}
use Rattle.parts.proofs.numbers.first.Statement.{statement}
use Rattle.parts.proofs.numbers.first.Tie as tie

pub first_spec : {M : Type 1} → statement M
unfolding first
first_spec = tie.close (tie.spec (λ c. search rules) (λ c. search rules))
