use Rattle.std.proofs.Common.{rules}
use Rattle.line.proofs.Laws.{to_run, to_break}
use Rattle.line.proofs.run_on.Goals as goal

pub returns-then-bit : goal.returns-then-bit
returns-then-bit c = search (rules, to_run)

pub returns-else-bit : goal.returns-else-bit
returns-else-bit c = search (rules, to_break)
