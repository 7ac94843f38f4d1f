-- The records of a list (02 item 6): the bench program's three bytes, with no head, by their number from 0. Assumes nothing.
use Rattle.std.specs.Prelude.{Bool, true, false, ◌&&◌, List, ℕ, zero, suc, ◌+◌, ◌*◌, get_or, Option, None, Some}
use Rattle.events.specs.declared.Event.{Event}
use Rattle.events.specs.declared.Event.TheVariants.{Release}
use Rattle.script.specs.Script.{value_of, record_of}

unfoldable pub is_good : Option Event → Bool
is_good (Some e) = true
is_good None = false

-- the event; a record that is none is refused before
unfoldable pub event_of : Option Event → Event
event_of (Some e) = e
event_of None = Release

abbrev pub record_at : List ℕ → ℕ → Option Event
record_at s k = record_of (get_or s (k * 3) 0) (value_of (get_or s (k * 3 + 1) 0) (get_or s (k * 3 + 2) 0))

abbrev pub is_event : List ℕ → ℕ → Bool
is_event s k = is_good (record_at s k)

abbrev pub event_at : List ℕ → ℕ → Event
event_at s k = event_of (record_at s k)

-- the first so many records are events
unfoldable pub all_events : List ℕ → ℕ → Bool
all_events s zero = true
all_events s (suc n) = all_events s n && is_event s n
