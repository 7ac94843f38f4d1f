use borrow.Author.Rules.{rules}
use Rattle.closing.specs.Closing.{crc_due}
use Rattle.base.specs.Pick.{picks}
use Rattle.closing.proofs.Laws.{to_due, spanned}
use Rattle.closing.proofs.crc_due.Goals as goal

pub returns-in-Filler : goal.returns-in-Filler
unfolding crc_due
returns-in-Filler c = search (rules, picks, to_due)

pub returns-in-DataRead : goal.returns-in-DataRead
unfolding crc_due
returns-in-DataRead c = search (rules, picks, to_due)

pub returns-in-RegisterRead : goal.returns-in-RegisterRead
unfolding crc_due
returns-in-RegisterRead c = search (rules, picks, to_due)

pub returns-in-Forward : goal.returns-in-Forward
unfolding crc_due
returns-in-Forward c = search (rules, picks, to_due)

pub returns-in-Forward-2 : goal.returns-in-Forward-2
unfolding crc_due
returns-in-Forward-2 c = search (rules, picks, to_due)

pub returns-in-RegisterWrite : goal.returns-in-RegisterWrite
unfolding crc_due
returns-in-RegisterWrite c = search (rules, picks, to_due)

pub returns-in-RegisterWrite-2 : goal.returns-in-RegisterWrite-2
unfolding crc_due
returns-in-RegisterWrite-2 c = search (rules, picks, to_due)

pub returns-in-SoftReset : goal.returns-in-SoftReset
unfolding crc_due
returns-in-SoftReset c = search (rules, picks, to_due)

pub returns-in-SoftReset-2 : goal.returns-in-SoftReset-2
unfolding crc_due
returns-in-SoftReset-2 c = search (rules, picks, to_due)

pub registers_closed-requires : goal.registers_closed-requires
registers_closed-requires c = search (rules, spanned)
