-- What a wait, an offer and a shift give to the bridge, event by event. ours. Assumes nothing.
use Rattle.std.specs.Prelude.{Bool, List, [], ◌∷◌, ◌++◌, ℕ, zero, suc, ◌-◌, ◌%◌, length, take, drop}
use Rattle.base.specs.Pick.{pick}
use Rattle.command.specs.Layouts.{layouts}
use Rattle.events.specs.declared.Event.{Event}
use Rattle.events.specs.declared.Event.TheVariants.{Tick}
use Rattle.verdict.specs.Verdicts.{is_taken}
use Rattle.callup.specs.CallUp.{call_up_to}
use Rattle.chain.specs.Echo.{echo}
use Rattle.chain.specs.Chain.{Moment, back, ticked}
use Rattle.chain.specs.Waits.{met, wait_from}
use Rattle.chain.specs.declared.Goal.{Goal}
use Rattle.chain.specs.declared.Goal.TheVariants.{Room, Sent}
use Rattle.shift.specs.Shifts.{Due, Shifting, taken_after, next_offer}

-- the bits under way in a chain, oldest first
unfoldable pub under : List Bool → ℕ → List Bool
under [] oldest = []
under (x ∷ xs) oldest = drop (oldest % length (x ∷ xs)) (x ∷ xs) ++ take (oldest % length (x ∷ xs)) (x ∷ xs)

abbrev pub under_way : Moment → List Bool
under_way m = under m.chain m.oldest

-- the bit that the next tick reads
abbrev pub sin_at : Moment → Bool
sin_at m = back m.chain m.oldest (echo layouts m.at)

-- the ticks of a wait, each with the bit that comes back
unfoldable pub wait_events : ℕ → Goal → Moment → List Event
wait_events zero goal m = []
wait_events (suc budget) goal m =
    pick (met goal m.at) [] (Tick (sin_at m) ∷ wait_events budget goal (ticked m))

-- and the call-up where it is taken, for the bridge as the wait leaves it
unfoldable pub offer_events : Due → Shifting → ℕ → List Event
offer_events d s budget =
    wait_events (budget - s.ticks) (Room d.slot (length d.words)) s.moment
    ++ pick (is_taken (next_offer d s budget).verdict)
    (call_up_to (wait_from (budget - s.ticks) (Room d.slot (length d.words)) s.moment).moment.at d.words) []

unfoldable pub shift_events : List Due → Shifting → ℕ → List Event
shift_events [] s budget = wait_events (budget - s.ticks) Sent s.moment
shift_events (d ∷ ds) s budget =
    offer_events d s budget ++ pick (is_taken (next_offer d s budget).verdict) (shift_events ds (taken_after s (next_offer d s budget)) budget) []
