use Rattle.registers.specs.Registers.{power_up_control, power_up_flags}
use Rattle.registers.proofs.power_up_control.Goals as goal

pub returns : goal.returns
unfolding power_up_control power_up_flags
returns c = cc
