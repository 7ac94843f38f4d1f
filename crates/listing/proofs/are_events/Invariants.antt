-- The records looked at so far are events.
use Rattle.std.proofs.Common.{◌≡◌, true}
use Rattle.listing.specs.Records.{all_events}
use Rattle.listing.proofs.are_events.Given as goal

abbrev pub invariant-loop-k : goal.invariant-loop-k
invariant-loop-k l = all_events l.records l.k ≡ true
