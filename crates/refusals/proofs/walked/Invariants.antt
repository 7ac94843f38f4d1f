-- `walked` ends: each turn begins behind the line before, and its group stands before it.
use Rattle.std.proofs.Common.{◌-◌, ◌≤◌}
use Rattle.refusals.proofs.walked.Given as goal

abbrev pub invariant-loop-at : goal.invariant-loop-at
invariant-loop-at g l = l.group ≤ l.at

abbrev pub decreases-loop-at : goal.decreases-loop-at
decreases-loop-at g l = 65535 - l.at
