use borrow.Author.Rules.{rules}
use Rattle.base.specs.Pick.{picks}
use Rattle.closing.proofs.Laws.{to_wrong}
use Rattle.closing.proofs.wrong_crc.Goals as goal

pub returns-then-crc : goal.returns-then-crc
returns-then-crc c = search (rules, picks, to_wrong)

pub returns : goal.returns
returns c = search (rules, picks, to_wrong)
