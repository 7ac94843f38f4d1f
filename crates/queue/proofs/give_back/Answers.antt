use Rattle.std.proofs.Common.{rules}
use Rattle.base.specs.Pick.{picks}
use Rattle.state.specs.Queue.{returned}
use Rattle.queue.proofs.Laws.{to_freed}
use Rattle.queue.proofs.give_back.Goals as goal

pub returns-then-place : goal.returns-then-place
returns-then-place c = search (rules, to_freed)

pub returns : goal.returns
unfolding returned
returns c = search (rules, picks)
