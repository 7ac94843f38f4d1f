use borrow.Author.Rules.{rules}
use Rattle.base.specs.Pick.{picks}
use Rattle.writes.proofs.note_of.Goals as goal

pub returns-then-refused : goal.returns-then-refused
returns-then-refused c = search (rules, picks)

pub returns-else-refused : goal.returns-else-refused
returns-else-refused c = search (rules, picks)
