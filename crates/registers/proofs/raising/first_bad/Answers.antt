use Rattle.std.proofs.Common.{rules}
use Rattle.base.specs.Pick.{picks}
use Rattle.registers.proofs.raising.first_bad.Goals as goal

pub returns-then-up : goal.returns-then-up
returns-then-up c = search (rules, picks)

pub returns-else-up : goal.returns-else-up
returns-else-up c = search (rules, picks)
