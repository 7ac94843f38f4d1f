use Rattle.std.proofs.Common.{◌≡◌}
use Rattle.cells.specs.Lent.{same_up_to}
use Rattle.cells.proofs.are_same.Given as goal

abbrev pub invariant-loop-i : goal.invariant-loop-i
invariant-loop-i l = l.same ≡ same_up_to l.i l.c l.d
