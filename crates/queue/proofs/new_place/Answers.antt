use Rattle.std.proofs.Common.{refl}
use Rattle.state.specs.Queue.{new_place}
use Rattle.queue.proofs.new_place.Goals as goal

pub returns : goal.returns
unfolding new_place
returns c = refl
