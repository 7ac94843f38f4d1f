-- `line_end` looks from `from` on, within the list.
use Rattle.std.proofs.Common.{◌-◌, ◌≤◌, length}
use Rattle.frames_main.proofs.reasons.line_end.Given as goal

abbrev pub invariant-loop-i : goal.invariant-loop-i
invariant-loop-i l = (l.«from» ≤ l.i) × (l.i ≤ length l.list)

abbrev pub decreases-loop-i : goal.decreases-loop-i
decreases-loop-i l = length l.list - l.i
