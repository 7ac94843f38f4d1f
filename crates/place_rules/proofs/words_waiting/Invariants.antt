use Rattle.place_rules.proofs.Laws.{Counted}
use Rattle.place_rules.proofs.words_waiting.Given as goal

abbrev pub invariant-loop-i : goal.invariant-loop-i
invariant-loop-i l = Counted l.queue l.words l.i
