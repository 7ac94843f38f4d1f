-- An arm knows its number.
use Rattle.std.proofs.Common.{rules, refl}
use Rattle.icelichen_frames.specs.Codes.{spoken_of}
use Rattle.icelichen_frames.proofs.Laws.{to_nothing}
use Rattle.icelichen_frames.proofs.spoken_by.Goals as goal

pub returns-in-0 : goal.returns-in-0
unfolding spoken_of
returns-in-0 c = rw c.in-0.is refl

pub returns-in-1 : goal.returns-in-1
unfolding spoken_of
returns-in-1 c = rw c.in-1.is refl

pub returns-in-2 : goal.returns-in-2
unfolding spoken_of
returns-in-2 c = rw c.in-2.is refl

pub returns-in_default : goal.returns-in_default
returns-in_default c = search (rules, to_nothing)
