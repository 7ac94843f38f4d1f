use Rattle.std.proofs.Common.{rules}
use Rattle.state.specs.Queue.{no_place}
use Rattle.queue.proofs.Laws.{unmapped, at_first, at_last, found, passed, to_claimed, to_unclaimed}
use Rattle.queue.proofs.claimed.Goals as goal

pub loop-i-init : goal.loop-i-init
loop-i-init c = search (rules, at_first)

pub returns-then-place : goal.returns-then-place
unfolding no_place
returns-then-place c = search (rules, to_claimed, found, unmapped)

pub loop-i-preserved : goal.loop-i-preserved
unfolding no_place
loop-i-preserved c = search (rules, passed, unmapped)

pub returns : goal.returns
returns c = search (rules, to_unclaimed, at_last)
