use borrow.Author.Rules.{rules}
use Rattle.forwards.proofs.Laws.{to_forward_word}
use Rattle.forwards.proofs.forward_word.Goals as goal

pub returns : goal.returns
returns c = search (rules, to_forward_word)
