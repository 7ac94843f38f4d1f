use borrow.Author.Rules.{rules}
use Rattle.base.specs.Pick.{picks}
use Rattle.answers.proofs.next_registers.Goals as goal

pub returns-then-left-le1 : goal.returns-then-left-le1
returns-then-left-le1 c = search (rules, picks)

pub returns : goal.returns
returns c = search (rules, picks)
