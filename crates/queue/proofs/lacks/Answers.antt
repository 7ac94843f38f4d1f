use Rattle.std.proofs.Common.{rules}
use Rattle.queue.proofs.Laws.{places_fit, to_lacking}
use Rattle.queue.proofs.lacks.Goals as goal

pub overflow_add-result : goal.overflow_add-result
overflow_add-result c = search (rules, places_fit)

pub returns : goal.returns
returns c = search (rules, to_lacking)
