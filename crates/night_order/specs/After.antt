-- Nights one after the other (02 item 6): a list may be cut anywhere between records. What a second call gives that is lent state and stores as
-- the first left them, with what the first gave, is what one call gives for all. Assumes nothing.
use Rattle.std.specs.Prelude.{◌≡◌, List, ◌++◌, ℕ, ◌+◌, ◌*◌, ◌≤◌, length, take, drop}
use Rattle.command.specs.Layouts.{layouts}
use Rattle.events.specs.declared.Event.{Event}
use Rattle.bridge.specs.Runs.{Config, Whole}
use Rattle.whole_night.specs.Night.{events, events_in, End, night}
use Rattle.whole_night.specs.declared.Outcome.TheVariants.{Done}
use Rattle.night_order.specs.Line.{sout_in}

-- state and stores as a call left them
abbrev pub left : End → Config
left n = record { bridge = n.listed.state; tx = n.tx; rx = n.rx }

-- "four bytes for each" of those done
abbrev pub written : End → List ℕ
written n = take (n.listed.done * 4) n.results

-- a call for the events es, then one for more, and the one call for both
pub record AsOne (es more : List Event) (first second both : End) : Type 0 where
  pub state_and_stores : left both ≡ left second
  pub results : written both ≡ written first ++ written second
  pub line : sout_in (es ++ more) both.results ≡ sout_in es first.results ++ sout_in more second.results
  pub done : both.listed.done ≡ first.listed.done + second.listed.done
  pub first_done : first.listed.done ≡ length es
  pub second_done : second.listed.done ≡ length more
  pub first_outcome : first.listed.outcome ≡ Done
  pub second_outcome : second.listed.outcome ≡ Done
  pub outcome : both.listed.outcome ≡ Done

-- From any record that keeps its rules, with right stores: two lists whose records are events, and three results with room.
abbrev pub NightAfterNight : Type 0
NightAfterNight = (c : Config) → Whole c → (first second s t u : List ℕ) (es more : List Event) → events_in first ≡ events es
    → events_in second ≡ events more → length es * 4 ≤ length s → length more * 4 ≤ length t → length (es ++ more) * 4 ≤ length u
    → AsOne es more (night layouts c first s) (night layouts (left (night layouts c first s)) second t) (night layouts c (first ++ second) u)

-- And one list of events cut behind its record k, whatever k is.
abbrev pub CutAnywhere : Type 0
CutAnywhere = (c : Config) → Whole c → (records s t u : List ℕ) (es : List Event) (k : ℕ) → events_in records ≡ events es
    → length (take k es) * 4 ≤ length s → length (drop k es) * 4 ≤ length t → length es * 4 ≤ length u
    → AsOne (take k es) (drop k es) (night layouts c (take (k * 3) records) s)
    (night layouts (left (night layouts c (take (k * 3) records) s)) (drop (k * 3) records) t) (night layouts c records u)
