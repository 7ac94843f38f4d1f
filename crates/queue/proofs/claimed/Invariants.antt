use Rattle.queue.proofs.Laws.{Left}
use Rattle.queue.proofs.claimed.Given as goal

abbrev pub invariant-loop-i : goal.invariant-loop-i
invariant-loop-i l = Left l.queue l.i
