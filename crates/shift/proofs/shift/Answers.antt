use Rattle.std.proofs.Common.{rules}
use Rattle.shift.proofs.Laws.{to_broken, to_run}
use Rattle.shift.proofs.shift.Goals as goal

pub returns-then-is_broken : goal.returns-then-is_broken
returns-then-is_broken c = search (rules, to_broken)

pub returns : goal.returns
returns c = search (rules, to_run)
