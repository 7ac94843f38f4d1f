use borrow.Author.Rules.{rules}
use Rattle.ticks.specs.Ticks.{blocked_in}
use Rattle.ticks.proofs.Laws.{to_blocked, to_collecting}
use Rattle.ticks.proofs.blocked.Goals as goal

pub returns-in-Collecting : goal.returns-in-Collecting
returns-in-Collecting c = search (rules, to_blocked, to_collecting)

pub returns-in-Idle : goal.returns-in-Idle
unfolding blocked_in
returns-in-Idle c = search (rules, to_blocked)
