-- `walked` ends: each turn begins behind the line before.
use Rattle.std.proofs.Common.{◌-◌}
use Rattle.frames_main.proofs.walked.Given as goal

abbrev pub decreases-loop-at : goal.decreases-loop-at
decreases-loop-at g l = l.length - l.at
