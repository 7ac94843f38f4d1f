use borrow.Author.Rules.{rules}
use Rattle.base.specs.Pick.{picks}
use Rattle.closing.proofs.Laws.{to_answered, to_read}
use Rattle.closing.proofs.read_closed.Goals as goal

pub returns-then-right : goal.returns-then-right
returns-then-right c = search (rules, to_answered)

pub returns-then-crc : goal.returns-then-crc
returns-then-crc c = search (rules, picks, to_read)

pub returns : goal.returns
returns c = search (rules, picks, to_read)
