-- What is left of the wait is the whole wait.
use Rattle.std.proofs.Common.{◌≡◌, ◌-◌}
use Rattle.chain.specs.Chain.{moment}
use Rattle.chain.specs.Waits.{waiting, wait_of, wait_from}
use Rattle.chain.proofs.wait.Given as goal

abbrev pub invariant-loop-ticks : goal.invariant-loop-ticks
invariant-loop-ticks l =
    wait_of (l.fn.budget - l.ticks) l.fn.goal (waiting (moment l.b l.tx l.rx l.chain l.at) l.ticks l.sout)
    ≡ wait_from l.fn.budget l.fn.goal (moment l.fn.bridge l.fn.tx l.fn.rx l.fn.chain l.fn.oldest)
