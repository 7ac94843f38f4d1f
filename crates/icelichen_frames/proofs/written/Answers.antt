-- Of no order, no frame.
use Rattle.std.proofs.Common.{rules, refl}
use Rattle.icelichen_frames.specs.Codes.{frame_for}
use Rattle.icelichen_frames.proofs.Laws.{to_known}
use Rattle.icelichen_frames.proofs.written.Goals as goal

pub returns-in-Some : goal.returns-in-Some
returns-in-Some c = search (rules, to_known)

pub returns-in-None : goal.returns-in-None
unfolding frame_for
returns-in-None c = rw c.in-None.is refl
