use Rattle.registers.specs.Raising.{went_bad}
use Rattle.registers.proofs.raising.went_bad.Goals as goal

pub returns : goal.returns
unfolding went_bad
returns c = cc
