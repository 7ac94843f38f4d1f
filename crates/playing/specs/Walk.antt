-- The groups of a script's records, and their lines at a place of the output: what the inner functions do. Assumes nothing.
use Rattle.std.specs.Prelude.{◌≡◌, Bool, List, [], ◌∷◌, ℕ, zero, suc, ◌+◌, ◌≤◌, length}
use Rattle.std.proofs.lemmas.List.Edits.{sets}
use Rattle.base.specs.Pick.{pick}
use Rattle.state.specs.declared.Bridge.{Bridge}
use Rattle.events.specs.declared.Event.{Event}
use Rattle.script.specs.Script.{value_of, record_of}
use Rattle.listing.specs.Records.{is_good}
use Rattle.whole_night.specs.Night.{events, events_in}
use Rattle.playing.specs.declared.Part.{Part}
use Rattle.playing.specs.Playing.{Played, End, end}

abbrev pub part_of : Bridge → ℕ → Bool → Part
part_of b length on = record { bridge = b; length = length; on = on }

-- what a part prints, and the place after it
abbrev pub shown_at : Played → List ℕ → ℕ → End
shown_at p cells at = end (part_of p.bridge (at + length p.printed) p.on) p.tx p.rx (sets cells at p.printed)

-- how many records in front are events, so many at the most
unfoldable pub ahead : ℕ → List ℕ → ℕ
ahead zero records = 0
ahead (suc n) [] = 0
ahead (suc n) (kind ∷ []) = 0
ahead (suc n) (kind ∷ high ∷ []) = 0
ahead (suc n) (kind ∷ high ∷ low ∷ rest) = pick (is_good (record_of kind (value_of high low))) (suc (ahead n rest)) 0

-- what one call is given: events, 64 at the most
pub record Group (records : List ℕ) : Type 0 where
  pub es : List Event
  pub told : events_in records ≡ events es
  pub few : length es ≤ 64
