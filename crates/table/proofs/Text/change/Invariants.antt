-- Each turn goes on behind a mark.
use Rattle.std.proofs.Common.{◌-◌}
use Rattle.table.proofs.Text.change.Given as goal

abbrev pub decreases-loop-at : goal.decreases-loop-at
decreases-loop-at l = l.to - l.at
