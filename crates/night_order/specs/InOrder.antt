-- Demand 3 of a night's events in one call (02 item 6): "the commands finished on the line .. are the first so many accepted commands that carry
-- words, in order, every word unchanged; one under way shows the first words of the next; once all are sent the line shows them all", the line
-- read off the call's own results and the end off the state that it returned. It is `Faithful` (`order` Demand) field by field. Assumes nothing.
use Rattle.std.specs.Prelude.{◌≡◌, Bool, true, List, ◌∷◌, ℕ, ◌*◌, ◌≤◌, length}
use Rattle.layout.specs.declared.Layout.{Layout}
use Rattle.layout.specs.declared.Layout.TheVariants.{Ours}
use Rattle.command.specs.Layouts.{layouts}
use Rattle.line.specs.Reader.{read_line, Sent}
use Rattle.events.specs.declared.Event.{Event}
use Rattle.events.specs.declared.Event.TheVariants.{Power}
use Rattle.bridge.specs.Runs.{Config, RightStores, power_on, AllSent}
use Rattle.order.specs.Accepted.{accepted_in}
use Rattle.order.specs.Exactly.{Exactly, Whole}
use Rattle.order.specs.Premises.{Premises, AskedPremises}
use Rattle.whole_night.specs.Night.{events, events_in, End, night}
use Rattle.whole_night.specs.declared.Outcome.TheVariants.{Done}
use Rattle.night_order.specs.Line.{sout_in}

-- the events es given to c, and what the call came to
pub record NightInOrder (c : Config) (es : List Event) (n : End) : Type 0 where
  -- all of them were done
  pub outcome : n.listed.outcome ≡ Done
  pub done : n.listed.done ≡ length es
  -- as a reader of the line sees it, and as the bits are
  pub in_order : Sent (read_line (sout_in es n.results)) (accepted_in layouts c es)
  pub exactly : Exactly (sout_in es n.results) n.listed.state.sending.sender (accepted_in layouts c es)
  -- "once all are sent"
  pub all_sent : AllSent n.listed.state.sending → (read_line (sout_in es n.results)).finished ≡ accepted_in layouts c es
  pub exactly_all : AllSent n.listed.state.sending → Whole (sout_in es n.results) (accepted_in layouts c es)

-- From power-up, good or bad OTP, in either layout, with any words in the stores: a list whose records are events, and results with room for them; whatever
-- stands behind that room, and in it before.
abbrev pub InOrderOfANight : Type 0
InOrderOfANight = (good : Bool) (layout : Layout) (tx rx : List ℕ) → RightStores tx rx → (records s : List ℕ) (es : List Event) → events_in records ≡ events es
    → length es * 4 ≤ length s → Premises layouts (power_on good layout tx rx) es
    → NightInOrder (power_on good layout tx rx) es (night layouts (power_on good layout tx rx) records s)

-- the same under the premises that demand 3 itself has
abbrev pub InOrderAsAsked : Type 0
InOrderAsAsked = (good : Bool) (layout : Layout) (tx rx : List ℕ) → RightStores tx rx → (records s : List ℕ) (es : List Event) → events_in records ≡ events es
    → length es * 4 ≤ length s → AskedPremises layouts (power_on good layout tx rx) es
    → NightInOrder (power_on good layout tx rx) es (night layouts (power_on good layout tx rx) records s)

-- and for a list whose first record is the power-up, as a script of the bench has it
abbrev pub InOrderOfAScript : Type 0
InOrderOfAScript = (good : Bool) (layout : Layout) (tx rx : List ℕ) → RightStores tx rx → (records s : List ℕ) (es : List Event)
    → events_in records ≡ events (Power good layout ∷ es) → length (Power good layout ∷ es) * 4 ≤ length s → AskedPremises layouts (power_on good layout tx rx) es
    → NightInOrder (power_on true Ours tx rx) (Power good layout ∷ es) (night layouts (power_on true Ours tx rx) records s)
