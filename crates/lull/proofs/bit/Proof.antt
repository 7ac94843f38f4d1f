-- `lull::bit` meets its contract.
use borrow.Author.Rules.{rules}
use Rattle.base.specs.Pick.{picks}
use Rattle.lull.specs.Lull.{quiet_bit}
use Rattle.lull.proofs.bit.Statement.{statement}
use Rattle.lull.proofs.bit.Tie as tie

pub bit_spec : {M : Type 1} → statement M
unfolding quiet_bit
bit_spec = tie.close (tie.spec (λ c. search (rules, picks)) (λ c κs. search rules) (λ c. search (rules, picks)))
