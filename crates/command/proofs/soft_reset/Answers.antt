use Rattle.std.proofs.Common.{rules}
use Rattle.base.specs.Pick.{picks}
use Rattle.command.specs.Layout.{soft_reset}
use Rattle.command.proofs.soft_reset.Goals as goal

pub returns-then-f : goal.returns-then-f
unfolding soft_reset
returns-then-f c = search (rules, picks)

pub returns-else-f : goal.returns-else-f
unfolding soft_reset
returns-else-f c = search (rules, picks)
