use borrow.Author.Rules.{rules}
use Rattle.base.specs.Pick.{picks}
use Rattle.host.proofs.Sound.{told_due, register_span, summed_sound}
use Rattle.host.proofs.Words.{told_data}
use Rattle.host.proofs.collected.Goals as goal

pub data_word-requires : goal.data_word-requires
data_word-requires c = search (rules, told_due, summed_sound)

pub returns-then-is_due : goal.returns-then-is_due
returns-then-is_due c = search (rules, picks, told_data)

pub crc_due-requires : goal.crc_due-requires
crc_due-requires c = search (rules, register_span)

pub returns : goal.returns
returns c = search (rules, picks)
