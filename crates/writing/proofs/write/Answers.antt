use Rattle.registers.specs.Writing.{write_of}
use Rattle.writing.proofs.write.Goals as goal

pub returns : goal.returns
unfolding write_of
returns c = cc
