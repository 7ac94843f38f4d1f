use Rattle.state.specs.Queue.{no_place}
use Rattle.state.specs.Power.{power_up_in}
use Rattle.state.proofs.Bridge.good_in.Goals as goal

pub returns : goal.returns
unfolding power_up_in no_place
returns c = cc
