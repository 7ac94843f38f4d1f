use Rattle.std.proofs.Common.{rules}
use Rattle.registers.specs.Registers.{fifo_of}
use Rattle.reading.proofs.fifo.Goals as goal

pub returns : goal.returns
unfolding fifo_of
returns c = search rules
