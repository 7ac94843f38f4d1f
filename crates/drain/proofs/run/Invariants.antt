-- What is left of the run is the whole run.
use Rattle.std.proofs.Common.{◌-◌}
use Rattle.drain.proofs.Laws.{Inv}
use Rattle.drain.proofs.run.Given as goal

abbrev pub invariant-loop-ticks : goal.invariant-loop-ticks
invariant-loop-ticks l = Inv l.budget l.fn.bridge l.fn.tx l.fn.rx l.ticks l.b l.tx l.rx

abbrev pub decreases-loop-ticks : goal.decreases-loop-ticks
decreases-loop-ticks l = l.budget - l.ticks
