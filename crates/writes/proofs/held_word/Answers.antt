use borrow.Author.Rules.{rules}
use Rattle.writes.proofs.Laws.{to_held}
use Rattle.writes.proofs.held_word.Goals as goal

pub returns : goal.returns
returns c = search (rules, to_held)
