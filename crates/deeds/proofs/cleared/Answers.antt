use Rattle.std.proofs.Common.{refl}
use Rattle.state.specs.Sending.{done}
use Rattle.deeds.proofs.cleared.Goals as goal

pub returns : goal.returns
unfolding done
returns c = refl
