use borrow.Author.Rules.{rules}
use Rattle.registers.specs.Registers.{blocking}
use Rattle.registers.proofs.blocking.Statement.{statement}
use Rattle.registers.proofs.blocking.Tie as tie

pub blocking_spec : {M : Type 1} → statement M
unfolding blocking
blocking_spec = tie.close (tie.spec (λ c. search rules))
