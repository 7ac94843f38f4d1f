-- Past the sixteen bits there is none (`beyond`).
use Rattle.std.proofs.Common.{rules}
use Rattle.base.specs.Bits.{bit, odd}
use Rattle.registers.proofs.Sixteen.{beyond}
use Rattle.registers.proofs.word.bit.Goals as goal

pub returns-then-k-lt16 : goal.returns-then-k-lt16
unfolding bit odd
returns-then-k-lt16 c = search rules

pub returns-else-k-lt16 : goal.returns-else-k-lt16
returns-else-k-lt16 c = search (rules, beyond)
