use Rattle.std.proofs.Common.{rules}
use Rattle.writing.proofs.Laws.{to_asked, to_unasked}
use Rattle.writing.proofs.write_level.Goals as goal

pub returns-then-bit : goal.returns-then-bit
returns-then-bit c = search (rules, to_asked)

pub returns-else-bit : goal.returns-else-bit
returns-else-bit c = search (rules, to_unasked)
