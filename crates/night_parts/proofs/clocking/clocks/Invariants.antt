-- The readings done so far.
use Rattle.night_parts.specs.Parts.{Apart}
use Rattle.night_parts.proofs.clocking.clocks.Given as goal

abbrev pub invariant-loop-k : goal.invariant-loop-k
invariant-loop-k l = Apart l.records l.many l.from l.fn.bridge l.fn.results l.k l.b l.results
