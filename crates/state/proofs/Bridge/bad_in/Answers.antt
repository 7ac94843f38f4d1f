use Rattle.state.specs.Power.{bad_control}
use Rattle.state.proofs.Laws.{to_bad}
use Rattle.state.proofs.Bridge.bad_in.Goals as goal

pub returns : goal.returns
unfolding bad_control
returns c = to_bad _ _ c.good_in-bridge.ensures
