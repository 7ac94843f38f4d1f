-- Of no order, nothing.
use Rattle.std.proofs.Common.{refl}
use Rattle.icelichen_frames.specs.Codes.{told_for}
use Rattle.icelichen_frames.proofs.told.Goals as goal

pub returns-in_err-named : goal.returns-in_err-named
unfolding told_for
returns-in_err-named c = rw (c.from_residual.ensures, c.in_err-named.was) refl

pub returns : goal.returns
unfolding told_for
returns c = rw c.in_ok-named.was c.read_answer.ensures
