-- In no words, nothing.
use Rattle.std.proofs.Common.{refl}
use Rattle.icelichen_frames.specs.Codes.{told_in}
use Rattle.icelichen_frames.proofs.told_in.Goals as goal

pub returns-in_err-spoken : goal.returns-in_err-spoken
unfolding told_in
returns-in_err-spoken c = rw (← c.spoken_by.ensures, c.in_err-spoken.was, c.from_residual.ensures) refl

pub returns : goal.returns
unfolding told_in
returns c = rw (← c.spoken_by.ensures, c.in_ok-spoken.was) c.told.ensures
