use Rattle.std.proofs.Common.{rules}
use Rattle.base.specs.Pick.{picks}
use Rattle.line.specs.Reader.{at_check}
use Rattle.line.proofs.Laws.{told_sum, denied_sum, to_numbered}
use Rattle.line.proofs.at_check.Goals as goal

pub returns-then-bits-gt16 : goal.returns-then-bits-gt16
unfolding at_check
returns-then-bits-gt16 c = search (rules, picks)

pub returns-then-from-value-eq1 : goal.returns-then-from-value-eq1
unfolding at_check
returns-then-from-value-eq1 c = search (rules, picks, told_sum, to_numbered)

pub returns-then-value-eq65535 : goal.returns-then-value-eq65535
unfolding at_check
returns-then-value-eq65535 c = search (rules, picks, denied_sum)

pub returns : goal.returns
unfolding at_check
returns c = search (rules, picks, denied_sum)
