use borrow.Author.Rules.{rules}
use Rattle.clock.proofs.Laws.{to_clocked_by}
use Rattle.clock.proofs.clocked_by.Goals as goal

pub returns : goal.returns
returns c = search (rules, to_clocked_by)
