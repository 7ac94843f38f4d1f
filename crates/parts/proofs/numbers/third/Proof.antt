-- `third` meets its contract.
use borrow.Author.Rules.{rules}
use Rattle.parts.specs.Numbers.{third}
use Rattle.parts.proofs.numbers.third.Statement.{statement}
use Rattle.parts.proofs.numbers.third.Tie as tie

pub third_spec : {M : Type 1} → statement M
unfolding third
third_spec = tie.close (tie.spec (λ c. search rules) (λ c. search rules))
