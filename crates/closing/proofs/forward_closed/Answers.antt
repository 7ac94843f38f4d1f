use borrow.Author.Rules.{rules}
use Rattle.closing.proofs.Laws.{to_closed}
use Rattle.closing.proofs.forward_closed.Goals as goal

pub returns : goal.returns
returns c = search (rules, to_closed)
