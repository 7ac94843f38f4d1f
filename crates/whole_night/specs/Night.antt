-- A night's events in one call (02 item 6): "The result, state and stores equal the events given one by one." Assumes nothing.
use Rattle.std.specs.Prelude.{true, List, [], ◌∷◌, ◌++◌, ℕ, ◌*◌, ltb, eqb, length, drop, Option, None, Some}
use Rattle.base.specs.Pick.{pick}
use Rattle.command.specs.Layouts.{Layouts}
use Rattle.state.specs.Notes.{note_number}
use Rattle.state.specs.Rings.{tx_size, rx_size}
use Rattle.rules.specs.Sound.{sound}
use Rattle.events.specs.declared.Event.{Event}
use Rattle.bridge.specs.Runs.{Config, out_of, next, end_of}
use Rattle.script.specs.Script.{value_of, record_of}
use Rattle.listing.specs.Results.{four_bytes}
use Rattle.whole_night.specs.declared.Listed.{Listed}
use Rattle.whole_night.specs.declared.Outcome.{Outcome}
use Rattle.whole_night.specs.declared.Outcome.TheVariants.{Done, NoEvent, ShortResults, WrongStores, BrokenRecord}

-- what a list says: events, or "a record that is no event or is cut"
pub data Told : Type 0 where
  events : List Event → Told
  wrong : Told

unfoldable pub before : Option Event → Told → Told
before (Some e) (events es) = events (e ∷ es)
before (Some e) wrong = wrong
before None told = wrong

-- "the bench program's three-byte records", with no head
unfoldable pub events_in : List ℕ → Told
events_in [] = events []
events_in (kind ∷ []) = wrong
events_in (kind ∷ high ∷ []) = wrong
events_in (kind ∷ high ∷ low ∷ rest) = before (record_of kind (value_of high low)) (events_in rest)

-- "four bytes for each": of a run, in which each event is `step` of what the one before left (demand 3)
unfoldable pub bytes_in : Layouts → Config → List Event → List ℕ
bytes_in l c [] = []
bytes_in l c (e ∷ es) =
    four_bytes (note_number (out_of l c e).answer.note) (out_of l c e).answer.sdo (out_of l c e).answer.sout ++ bytes_in l (next l c e) es

-- what the call returns, and the stores and the results as it leaves them
pub record End : Type 0 where
  pub listed : Listed
  pub tx : List ℕ
  pub rx : List ℕ
  pub results : List ℕ

abbrev pub end : Listed → List ℕ → List ℕ → List ℕ → End
end d tx rx s = record { listed = d; tx = tx; rx = rx; results = s }

-- "write nothing and count 0", "everything unchanged"
abbrev pub refused : Config → List ℕ → Outcome → End
refused c s o = end (record { state = c.bridge; done = 0; outcome = o }) c.tx c.rx s

-- "no other note stops the list"; the cells beyond its results are as lent
abbrev pub all_done : Layouts → Config → List Event → List ℕ → End
all_done l c es s =
    end (record { state = (end_of l c es).bridge; done = length es; outcome = Done }) (end_of l c es).tx (end_of l c es).rx
    (bytes_in l c es ++ drop (length es * 4) s)

-- 23 before notes 1 and 2
unfoldable pub tested : Layouts → Config → List ℕ → List Event → End
tested l c s es =
    pick (ltb (length s) (length es * 4)) (refused c s ShortResults)
    (pick (eqb (length c.tx) tx_size)
    (pick (eqb (length c.rx) rx_size)
    (pick (sound c.bridge) (all_done l c es s) (refused c s BrokenRecord))
    (refused c s WrongStores))
    (refused c s WrongStores))

-- 22 first, over the entire list
unfoldable pub judged : Layouts → Config → List ℕ → Told → End
judged l c s (events es) = tested l c s es
judged l c s wrong = refused c s NoEvent

abbrev pub night : Layouts → Config → List ℕ → List ℕ → End
night l c records s = judged l c s (events_in records)
