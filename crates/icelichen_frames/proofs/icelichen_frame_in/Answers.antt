-- In no words, no frame.
use Rattle.std.proofs.Common.{rules, refl}
use Rattle.icelichen_frames.specs.Codes.{frame_in}
use Rattle.icelichen_frames.proofs.Laws.{to_coded_in}
use Rattle.icelichen_frames.proofs.icelichen_frame_in.Goals as goal

pub returns-in-Some : goal.returns-in-Some
returns-in-Some c = search (rules, to_coded_in)

pub returns-in-None : goal.returns-in-None
unfolding frame_in
returns-in-None c = rw (← c.spoken_by.ensures, c.in-None.is) refl
