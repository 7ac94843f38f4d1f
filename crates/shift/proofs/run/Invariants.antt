-- What is left of the shift is the whole shift.
use Rattle.std.proofs.Common.{ℕ, ◌-◌, length}
use Rattle.verdict.specs.Verdicts.{Taken}
use Rattle.chain.specs.Chain.{moment}
use Rattle.shift.specs.Shifts.{shifting}
use Rattle.shift.proofs.Laws.{Inv}
use Rattle.shift.proofs.run.Given as goal

abbrev pub invariant-loop-at : goal.invariant-loop-at
invariant-loop-at l =
    Inv l.fn.cells l.fn.budget (shifting l.fn.board (moment l.fn.bridge l.fn.tx l.fn.rx l.fn.chain l.fn.oldest) Taken 0 0) l.shown l.b l.tx l.rx l.chain
    l.place l.taken l.ticks l.at

abbrev pub decreases-loop-at : goal.decreases-loop-at
decreases-loop-at l = length l.fn.cells - l.at
