use borrow.Author.Rules.{rules}
use Rattle.forwards.proofs.Laws.{to_asked}
use Rattle.forwards.proofs.asks_store.Goals as goal

pub returns : goal.returns
returns c = search (rules, to_asked)
