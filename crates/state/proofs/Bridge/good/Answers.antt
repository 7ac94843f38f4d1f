-- `Bridge::good` is the named value, with every register at its row's reset.
use Rattle.std.proofs.Common.{refl}
use Rattle.registers.specs.Registers.{table_of, reset_regs, power_up_flags, power_up_control}
use Rattle.state.specs.Queue.{no_place}
use Rattle.state.specs.Power.{power_up_in}
use Rattle.state.proofs.Bridge.good.Goals as goal

pub returns : goal.returns
unfolding power_up_in power_up_control power_up_flags reset_regs table_of no_place
returns c = refl
