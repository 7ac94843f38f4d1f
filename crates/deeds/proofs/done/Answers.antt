use Rattle.std.proofs.Common.{rules}
use Rattle.state.specs.Sending.{done, owing}
use Rattle.queue.proofs.Laws.{unmapped}
use Rattle.deeds.proofs.Laws.{to_done, to_clear, has_room, has_next}
use Rattle.deeds.proofs.done.Goals as goal

pub bounds-queue-queue : goal.bounds-queue-queue
bounds-queue-queue c = search (rules, has_room, unmapped)

pub overflow_add-queue : goal.overflow_add-queue
overflow_add-queue c = search (rules, has_next, unmapped)

pub returns-in-Leave : goal.returns-in-Leave
unfolding done
returns-in-Leave c = search (rules, to_done)

pub returns-in-Enqueue : goal.returns-in-Enqueue
unfolding done
returns-in-Enqueue c = search (rules, to_done)

pub returns-in-TakeBack : goal.returns-in-TakeBack
unfolding done
returns-in-TakeBack c = search (rules, to_done)

pub returns-in-ClearAll : goal.returns-in-ClearAll
unfolding done owing
returns-in-ClearAll c = search (rules, to_done, to_clear)
