-- `val` meets its contract.
use borrow.Author.Rules.{rules}
use Rattle.base.specs.Bits.{val}
use Rattle.parts.proofs.numbers.val.Statement.{statement}
use Rattle.parts.proofs.numbers.val.Tie as tie

pub val_spec : {M : Type 1} → statement M
unfolding val
val_spec = tie.close (tie.spec (λ c. search rules) (λ c. search rules))
