use Rattle.std.proofs.Common.{rules}
use Rattle.queue.proofs.Laws.{to_ends_left, to_all_freed}
use Rattle.queue.proofs.freed_of.Goals as goal

pub returns-then-place-gt0 : goal.returns-then-place-gt0
returns-then-place-gt0 c = search (rules, to_ends_left)

pub returns : goal.returns
returns c = search (rules, to_all_freed)
