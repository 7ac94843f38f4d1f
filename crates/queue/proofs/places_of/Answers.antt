use Rattle.std.proofs.Common.{rules}
use Rattle.base.specs.Pick.{picks}
use Rattle.state.specs.Queue.{places_of}
use Rattle.queue.proofs.places_of.Goals as goal

pub returns-then-both : goal.returns-then-both
unfolding places_of
returns-then-both c = search (rules, picks)

pub returns-else-both : goal.returns-else-both
unfolding places_of
returns-else-both c = search (rules, picks)
