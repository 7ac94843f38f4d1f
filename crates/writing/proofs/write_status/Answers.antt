use Rattle.std.proofs.Common.{rules}
use Rattle.base.specs.Pick.{picks}
use Rattle.registers.specs.Writing.{write_status}
use Rattle.writing.proofs.Laws.{to_cleared}
use Rattle.writing.proofs.write_status.Goals as goal

pub returns-then-bit : goal.returns-then-bit
unfolding write_status
returns-then-bit c = search (rules, to_cleared)

pub returns : goal.returns
unfolding write_status
returns c = search (rules, picks)
