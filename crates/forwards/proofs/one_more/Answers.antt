use borrow.Author.Rules.{rules}
use Rattle.base.specs.Pick.{picks}
use Rattle.forwards.proofs.one_more.Goals as goal

pub returns-then-more : goal.returns-then-more
returns-then-more c = search (rules, picks)

pub returns-else-more : goal.returns-else-more
returns-else-more c = search (rules, picks)
