use borrow.Author.Rules.{rules}
use Rattle.forwards.proofs.Laws.{to_forwarded}
use Rattle.forwards.proofs.forwarded.Goals as goal

pub returns : goal.returns
returns c = search (rules, to_forwarded)
