use Rattle.std.proofs.Common.{rules}
use Rattle.registers.specs.Registers.{ifst_of}
use Rattle.reading.proofs.ifst.Goals as goal

pub returns : goal.returns
unfolding ifst_of
returns c = search rules
