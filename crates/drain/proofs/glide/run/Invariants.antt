-- The ticks made so far were quiet.
use Rattle.drain.specs.Hush.{Hush}
use Rattle.drain.proofs.glide.run.Given as goal

abbrev pub invariant-loop-ticks : goal.invariant-loop-ticks
invariant-loop-ticks l = Hush l.budget l.fn.bridge l.from l.ticks l.hot
