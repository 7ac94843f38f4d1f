-- The line of a night, read off its results (02 item 6, "four bytes for each ..: note, SDO high byte first, SOUT"; demand 3, whose line is the
-- SOUT bits): of each event's four bytes the last, where the event is a tick, for the line has a bit at a tick and at no other event. Nothing
-- is asked but the list of events and the results. Assumes nothing.
use Rattle.std.specs.Prelude.{Bool, List, [], ◌∷◌, ◌++◌, ℕ, eqb, get_or, drop}
use Rattle.events.specs.declared.Event.{Event}
use Rattle.bridge.specs.Runs.{line_bit}

unfoldable pub sout_in : List Event → List ℕ → List Bool
sout_in [] results = []
sout_in (e ∷ es) results = line_bit e (eqb (get_or results 3 0) 1) ++ sout_in es (drop 4 results)
