-- What is left of `listing::is_event`: something was read.
use Rattle.listing.proofs.Records.{to_good}
use Rattle.listing.proofs.is_event.Goals as goal

pub returns : goal.returns
returns c = to_good _ _ _ c.record_at.ensures c.is_some.ensures
