use borrow.Author.Rules.{rules}
use Rattle.plan.specs.Plan.{received}
use Rattle.plan.proofs.Cases.{at_second}
use Rattle.plan.proofs.Laws.{to_popped}
use Rattle.plan.proofs.received.Goals as goal

pub returns-in-LeaveRx : goal.returns-in-LeaveRx
unfolding received
returns-in-LeaveRx c = search (rules, at_second received)

pub returns-in-PopRx : goal.returns-in-PopRx
unfolding received
returns-in-PopRx c = search (rules, to_popped)

pub returns-in-StopRx : goal.returns-in-StopRx
unfolding received
returns-in-StopRx c = search (rules, at_second received)

pub returns-in-EmptyRx : goal.returns-in-EmptyRx
unfolding received
returns-in-EmptyRx c = search (rules, at_second received)

pub returns-in-ResetRx : goal.returns-in-ResetRx
unfolding received
returns-in-ResetRx c = search (rules, at_second received)
