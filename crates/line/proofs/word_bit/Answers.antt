use Rattle.std.proofs.Common.{rules}
use Rattle.base.specs.Pick.{picks}
use Rattle.base.specs.Bits.{odd, bit}
use Rattle.line.specs.Format.{word_bit}
use Rattle.line.proofs.Laws.{is_check}
use Rattle.line.proofs.word_bit.Goals as goal

pub returns-then-i-lt16 : goal.returns-then-i-lt16
unfolding word_bit odd bit
returns-then-i-lt16 c = search (rules, picks)

pub returns-else-i-lt16 : goal.returns-else-i-lt16
unfolding word_bit odd bit
returns-else-i-lt16 c = search (rules, picks, is_check)
