-- `rest` ends: each turn begins behind the word before.
use Rattle.std.proofs.Common.{◌-◌}
use Rattle.board_main.proofs.said.rest.Given as goal

abbrev pub decreases-loop-at : goal.decreases-loop-at
decreases-loop-at l = l.«end» - l.at
