-- `number` stays so low that one digit more fits.
use Rattle.std.proofs.Common.{◌≤◌}
use Rattle.speed.proofs.number.Given as goal

abbrev pub invariant-loop-byte : goal.invariant-loop-byte
invariant-loop-byte l = l.n ≤ 1000009
