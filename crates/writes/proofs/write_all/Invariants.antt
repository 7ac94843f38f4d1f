use Rattle.writes.proofs.Laws.{Writing}
use Rattle.writes.proofs.write_all.Given as goal

abbrev pub invariant-loop-i : goal.invariant-loop-i
invariant-loop-i l = Writing l.busy l.address l.count l.held l.initial.effects l.effects l.i
