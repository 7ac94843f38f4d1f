use borrow.Author.Rules.{rules}
use Rattle.ticks.specs.Ticks.{flags_sent}
use Rattle.base.specs.Pick.{picks}
use Rattle.ticks.proofs.Laws.{to_differs}
use Rattle.ticks.proofs.flags_sent.Goals as goal

pub returns-then-sent : goal.returns-then-sent
returns-then-sent c = search (rules, to_differs)

pub returns-else-sent : goal.returns-else-sent
unfolding flags_sent
returns-else-sent c = search (rules, picks)
