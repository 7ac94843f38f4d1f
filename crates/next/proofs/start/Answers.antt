use Rattle.std.proofs.Common.{rules}
use Rattle.base.specs.Pick.{picks}
use Rattle.state.specs.Queue.{no_place}
use Rattle.next.proofs.start.Goals as goal

pub returns-then-place-gt0 : goal.returns-then-place-gt0
unfolding no_place
returns-then-place-gt0 c = search (rules, picks)

pub returns-else-place-gt0 : goal.returns-else-place-gt0
unfolding no_place
returns-else-place-gt0 c = search (rules, picks)

pub returns : goal.returns
unfolding no_place
returns c = search (rules, picks)
