use Rattle.std.proofs.Common.{rules}
use Rattle.base.specs.Pick.{picks}
use Rattle.verdict.specs.Verdicts.{room_verdict}
use Rattle.verdict.proofs.room_verdict.Goals as goal

pub returns-then-not-is_ready : goal.returns-then-not-is_ready
unfolding room_verdict
returns-then-not-is_ready c = search (rules, picks)

pub returns-then-not-has_room : goal.returns-then-not-has_room
unfolding room_verdict
returns-then-not-has_room c = search (rules, picks)

pub returns : goal.returns
unfolding room_verdict
returns c = search (rules, picks)
