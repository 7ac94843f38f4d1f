use Rattle.std.proofs.Common.{rules}
use Rattle.registers.specs.Registers.{cleared}
use Rattle.registers.proofs.cleared_flags.Goals as goal

pub returns : goal.returns
unfolding cleared
returns c = search rules
