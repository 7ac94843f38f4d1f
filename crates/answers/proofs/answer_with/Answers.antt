use borrow.Author.Rules.{rules}
use Rattle.answers.proofs.Laws.{to_answer_with}
use Rattle.answers.proofs.answer_with.Goals as goal

pub returns : goal.returns
returns c = search (rules, to_answer_with)
