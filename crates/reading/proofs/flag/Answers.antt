use Rattle.std.proofs.Common.{rules, arith}
use Rattle.reading.proofs.Laws.{flag_up, flag_down}
use Rattle.reading.proofs.flag.Goals as goal

pub returns-then-on : goal.returns-then-on
returns-then-on c = (search (rules, flag_up), omega arith)

pub returns-else-on : goal.returns-else-on
returns-else-on c = (search (rules, flag_down), omega arith)
