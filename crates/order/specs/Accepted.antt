-- The accepted commands that carry words, in order (demand 3; "whose accepted list is demand 2's"): a command is accepted by the event whose
-- plan queues its place, and is in the list from then on with the words of its frame that were stored. Assumes nothing.
use Rattle.std.specs.Prelude.{Bool, true, false, ◌||◌, List, [], ◌∷◌, ◌++◌, ℕ, ltb, Option, None, Some}
use Rattle.command.specs.Layouts.{Layouts}
use Rattle.state.specs.Rings.{oldest}
use Rattle.state.specs.declared.Deed.{Deed}
use Rattle.state.specs.declared.Deed.TheVariants.{Leave, Enqueue, TakeBack, ClearAll, ResetAll}
use Rattle.state.specs.declared.Note.TheVariants.{Done}
use Rattle.state.specs.declared.Phase.{Phase}
use Rattle.state.specs.declared.Phase.TheVariants.{Idle, Collecting, Answering, Discarding}
use Rattle.plan.specs.Plan.{plain}
use Rattle.host.specs.Frames.{planned}
use Rattle.release.specs.Release.{released_in}
use Rattle.plan.specs.declared.Plan.{Plan}
use Rattle.events.specs.declared.Event.{Event}
use Rattle.events.specs.declared.Event.TheVariants.{Power, Word, Release, Tick, Clock as ClockReading}
use Rattle.bridge.specs.Runs.{Config, next}

-- what the host's side does at an event: at a tick and at a clock reading, nothing
unfoldable pub plan_of : Layouts → Config → Event → Plan
plan_of l c (Power good layout) = plain c.bridge Idle Done
plan_of l c (Word w) = planned l c.bridge w (oldest c.rx c.bridge.receiving.rx)
plan_of l c Release = released_in c.bridge c.bridge.frame.phase
plan_of l c (Tick sin) = plain c.bridge c.bridge.frame.phase Done
plan_of l c (ClockReading reading) = plain c.bridge c.bridge.frame.phase Done

-- the commands accepted whose frames are over; the words stored of the open frame; whether its command is accepted
pub record Log : Type 0 where
  pub closed : List (List ℕ)
  pub words : List ℕ
  pub accepted : Bool

abbrev pub no_log : Log
no_log = record { closed = []; words = []; accepted = false }

unfoldable pub came : List ℕ → Option ℕ → List ℕ
came ws None = ws
came ws (Some w) = ws ++ (w ∷ [])

-- a place queued, with words
unfoldable pub accepts : Deed → Bool
accepts Leave = false
accepts (Enqueue p) = ltb 0 p.words
accepts (TakeBack n) = false
accepts ClearAll = false
accepts ResetAll = false

unfoldable pub collects : Phase → Bool
collects Idle = false
collects (Collecting command got crc mine released blocked) = true
collects (Answering reply crc) = false
collects Discarding = false

unfoldable pub joined : Bool → List (List ℕ) → List ℕ → List (List ℕ)
joined true closed ws = closed ++ (ws ∷ [])
joined false closed ws = closed

-- the frame goes on, or is over
unfoldable pub settle : Bool → List (List ℕ) → List ℕ → Bool → Log
settle true closed ws accepted = record { closed = closed; words = ws; accepted = accepted }
settle false closed ws accepted = record { closed = joined accepted closed ws; words = []; accepted = false }

unfoldable pub logged : Log → Plan → Log
logged g p = settle (collects p.phase) g.closed (came g.words p.store) (g.accepted || accepts p.deed)

unfoldable pub log_by : Layouts → Log → Config → List Event → Log
log_by l g c [] = g
log_by l g c (e ∷ es) = log_by l (logged g (plan_of l c e)) (next l c e) es

unfoldable pub listed : Log → List (List ℕ)
listed g = joined g.accepted g.closed g.words

unfoldable pub accepted_in : Layouts → Config → List Event → List (List ℕ)
accepted_in l c es = listed (log_by l no_log c es)
