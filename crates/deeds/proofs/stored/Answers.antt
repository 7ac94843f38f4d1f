use Rattle.std.proofs.Common.{rules}
use Rattle.state.specs.Rings.{ring_after}
use Rattle.state.specs.Sending.{stored}
use Rattle.deeds.proofs.Laws.{to_stored}
use Rattle.deeds.proofs.stored.Goals as goal

pub returns-in-Some : goal.returns-in-Some
unfolding stored ring_after
returns-in-Some c = search (rules, to_stored)

pub returns-in_default : goal.returns-in_default
unfolding stored ring_after
returns-in_default c = search (rules, to_stored)
