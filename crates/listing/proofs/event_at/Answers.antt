-- What is left of `listing::event_at`: what was read is the event.
use Rattle.listing.proofs.Records.{to_event}
use Rattle.listing.proofs.event_at.Goals as goal

pub returns : goal.returns
returns c = to_event _ _ _ c.record_at.ensures c.unwrap_or.ensures
