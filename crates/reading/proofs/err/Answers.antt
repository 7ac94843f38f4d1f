use Rattle.registers.specs.Registers.{err}
use Rattle.reading.proofs.err.Goals as goal

pub returns : goal.returns
unfolding err
returns c = cc
