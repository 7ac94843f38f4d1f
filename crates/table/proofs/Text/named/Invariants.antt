-- Each turn goes on behind a mark.
use Rattle.std.proofs.Common.{◌-◌, ◌≤◌}
use Rattle.table.proofs.Text.named.Given as goal

abbrev pub invariant-loop-at : goal.invariant-loop-at
invariant-loop-at l = (l.at ≤ 65535) × (l.stop ≤ 65535)

abbrev pub decreases-loop-at : goal.decreases-loop-at
decreases-loop-at l = l.stop - l.at
