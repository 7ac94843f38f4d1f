use Rattle.std.proofs.Common.{rules}
use Rattle.state.specs.Queue.{no_place}
use Rattle.queue.proofs.Laws.{past_all, unmapped}
use Rattle.queue.proofs.place_at.Goals as goal

pub returns-else-k-lt8 : goal.returns-else-k-lt8
unfolding no_place
returns-else-k-lt8 c = search (rules, past_all, unmapped)
