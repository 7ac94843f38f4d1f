use borrow.Author.Rules.{rules}
use Rattle.ticks.proofs.Laws.{to_same}
use Rattle.ticks.proofs.same.Goals as goal

pub returns : goal.returns
returns c = search (rules, to_same)
