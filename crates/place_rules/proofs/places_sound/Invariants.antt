use Rattle.place_rules.proofs.Laws.{Slotted}
use Rattle.place_rules.proofs.places_sound.Given as goal

abbrev pub invariant-loop-i : goal.invariant-loop-i
invariant-loop-i l = Slotted l.queue l.good l.i
