-- `print_line` has a line in hand that stands within the list, and goes over as many lines as are left.
use Rattle.std.proofs.Common.{◌≤◌, length}
use Rattle.frames_main.proofs.reasons.print_line.Given as goal

abbrev pub invariant-loop-left : goal.invariant-loop-left
invariant-loop-left g l = (l.«from» ≤ l.to) × (l.to ≤ length l.list)

abbrev pub decreases-loop-left : goal.decreases-loop-left
decreases-loop-left g l = l.left
