use Rattle.registers.specs.Writing.{write_rxfflvl}
use Rattle.writing.proofs.write_rxfflvl.Goals as goal

pub returns : goal.returns
unfolding write_rxfflvl
returns c = cc
