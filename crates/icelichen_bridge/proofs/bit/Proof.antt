-- `bit` meets its contract.
use borrow.Author.Rules.{rules}
use Rattle.listing.specs.Results.{bit_byte}
use Rattle.icelichen_bridge.proofs.bit.Statement.{statement}
use Rattle.icelichen_bridge.proofs.bit.Tie as tie

pub bit_spec : {M : Type 1} → statement M
unfolding bit_byte
bit_spec = tie.close (tie.spec (λ c. search rules) (λ c. search rules))
