-- `fourth` meets its contract.
use borrow.Author.Rules.{rules}
use Rattle.parts.specs.Numbers.{fourth}
use Rattle.parts.proofs.numbers.fourth.Statement.{statement}
use Rattle.parts.proofs.numbers.fourth.Tie as tie

pub fourth_spec : {M : Type 1} → statement M
unfolding fourth
fourth_spec = tie.close (tie.spec (λ c. search rules) (λ c. search rules))
