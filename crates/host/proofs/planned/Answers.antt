use borrow.Author.Rules.{rules}
use Rattle.host.proofs.Sound.{host_collects, host_mine, host_reply}
use Rattle.host.specs.Frames.{planned_in}
use Rattle.host.proofs.Words.{to_planned, to_begin}
use Rattle.host.proofs.planned.Goals as goal

pub collected-requires : goal.collected-requires
collected-requires c = search (rules, host_collects, host_mine)

pub answered-requires : goal.answered-requires
answered-requires c = search (rules, host_reply)

pub returns-in-Idle : goal.returns-in-Idle
returns-in-Idle c = search (rules, to_begin)

pub returns-in-Collecting : goal.returns-in-Collecting
unfolding planned_in
returns-in-Collecting c = search (rules, to_planned)

pub returns-in-Answering : goal.returns-in-Answering
unfolding planned_in
returns-in-Answering c = search (rules, to_planned)

pub returns-in-Discarding : goal.returns-in-Discarding
unfolding planned_in
returns-in-Discarding c = search (rules, to_planned)
