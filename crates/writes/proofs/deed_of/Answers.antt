use borrow.Author.Rules.{rules}
use Rattle.base.specs.Pick.{picks}
use Rattle.writes.proofs.deed_of.Goals as goal

pub returns-then-clears : goal.returns-then-clears
returns-then-clears c = search (rules, picks)

pub returns-else-clears : goal.returns-else-clears
returns-else-clears c = search (rules, picks)
