use Rattle.registers.specs.Writing.{write_txfflvl}
use Rattle.writing.proofs.write_txfflvl.Goals as goal

pub returns : goal.returns
unfolding write_txfflvl
returns c = cc
