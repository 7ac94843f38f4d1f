-- `filled` has a part of the list in hand, up to its next sign, which comes later each turn.
use Rattle.std.proofs.Common.{◌-◌, ◌≤◌, length}
use Rattle.board_main.proofs.out.filled.Given as goal

abbrev pub invariant-loop-to : goal.invariant-loop-to
invariant-loop-to g l = (l.«from» ≤ l.to) × (l.to ≤ length l.list)

abbrev pub decreases-loop-to : goal.decreases-loop-to
decreases-loop-to g l = length l.list - l.to
