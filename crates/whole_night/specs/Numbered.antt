-- The events of a list by the numbers of their records, which is what a loop goes through, and the state with both stores that they are given
-- to. No rule. Assumes nothing.
use Rattle.std.specs.Prelude.{List, [], ◌∷◌, ℕ, zero, suc, ◌+◌}
use Rattle.state.specs.declared.Bridge.{Bridge}
use Rattle.events.specs.declared.Event.{Event}
use Rattle.bridge.specs.Runs.{Config}
use Rattle.listing.specs.Records.{event_at}

-- so many events, the first is number k
unfoldable pub events_from : List ℕ → ℕ → ℕ → List Event
events_from records zero k = []
events_from records (suc left) k = event_at records k ∷ events_from records left (k + 1)

abbrev pub config : Bridge → List ℕ → List ℕ → Config
config b tx rx = record { bridge = b; tx = tx; rx = rx }
