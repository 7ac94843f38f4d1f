use Rattle.std.proofs.Common.{rules}
use Rattle.command.proofs.Laws.{to_span, no_span}
use Rattle.command.proofs.spans.Goals as goal

pub returns-then-f : goal.returns-then-f
returns-then-f c = search (rules, to_span)

pub returns-else-f : goal.returns-else-f
returns-else-f c = search (rules, no_span)
