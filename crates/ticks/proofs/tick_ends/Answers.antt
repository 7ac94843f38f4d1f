use borrow.Author.Rules.{rules}
use Rattle.ticks.proofs.Laws.{to_ends}
use Rattle.ticks.proofs.tick_ends.Goals as goal

pub returns : goal.returns
returns c = search (rules, to_ends)
