-- What is left of `listing::are_events`.
use Rattle.std.proofs.Common.{rules}
use Rattle.listing.proofs.Records.{none_yet, one_more, one_bad, all_good}
use Rattle.listing.proofs.are_events.Goals as goal

pub loop-k-init : goal.loop-k-init
loop-k-init c = search (rules, none_yet)

pub loop-k-preserved : goal.loop-k-preserved
loop-k-preserved c = search (rules, one_more)

pub returns-then-not-is_event : goal.returns-then-not-is_event
returns-then-not-is_event c = search (rules, one_bad)

pub returns : goal.returns
returns c = search (rules, all_good)
