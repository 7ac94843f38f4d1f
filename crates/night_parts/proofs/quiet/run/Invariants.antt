-- The ticks done so far were quiet.
use Rattle.night_parts.specs.Hush.{Hush}
use Rattle.night_parts.proofs.quiet.run.Given as goal

abbrev pub invariant-loop-k : goal.invariant-loop-k
invariant-loop-k l = Hush l.records l.many l.fn.bridge l.from l.fn.results l.k l.rests l.hot l.results
