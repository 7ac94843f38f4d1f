use Rattle.std.proofs.Common.{rules}
use Rattle.base.specs.Pick.{picks}
use Rattle.line.specs.Reader.{in_group}
use Rattle.line.proofs.Laws.{to_shifted}
use Rattle.line.proofs.in_group.Goals as goal

pub returns-then-ones-eq18 : goal.returns-then-ones-eq18
unfolding in_group
returns-then-ones-eq18 c = search (rules, picks)

pub returns-then-bits-lt16 : goal.returns-then-bits-lt16
unfolding in_group
returns-then-bits-lt16 c = search (rules, picks, to_shifted)

pub returns : goal.returns
unfolding in_group
returns c = search (rules, picks)
