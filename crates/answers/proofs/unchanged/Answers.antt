use borrow.Author.Rules.{rules}
use Rattle.answers.proofs.Laws.{to_unchanged}
use Rattle.answers.proofs.unchanged.Goals as goal

pub returns : goal.returns
returns c = search (rules, to_unchanged)
