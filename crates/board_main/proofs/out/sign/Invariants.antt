-- `sign` looks from `from` on, within the list.
use Rattle.std.proofs.Common.{◌-◌, ◌≤◌, length}
use Rattle.board_main.proofs.out.sign.Given as goal

abbrev pub invariant-loop-i : goal.invariant-loop-i
invariant-loop-i l = (l.«from» ≤ l.i) × (l.i ≤ length l.list)

abbrev pub decreases-loop-i : goal.decreases-loop-i
decreases-loop-i l = length l.list - l.i
