use Rattle.std.proofs.Common.{le-leb, refl, sym}
use Rattle.std.proofs.lemmas.Bool.{lt-leb}
use Rattle.verdict.specs.Verdicts.{has_room}
use Rattle.verdict.proofs.has_room.Goals as goal

pub returns-then-used-le8 : goal.returns-then-used-le8
unfolding has_room
returns-then-used-le8 c = rw (sym c.in_use-used.ensures.0, le-leb _ _ c.if-used-le8.true) refl

pub returns-else-used-le8 : goal.returns-else-used-le8
unfolding has_room
returns-else-used-le8 c = rw (sym c.in_use-used.ensures.0, lt-leb _ _ c.if-used-le8.false) refl
