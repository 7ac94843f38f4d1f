-- Demand 3's own premises ask more than the theorems need: where no blocking flag comes up and nothing is cleared there is no fault, and that
-- no frame is cut short is not needed. Assumes nothing.
use mathlib.Core.Path.{◌≡◌, refl}
use mathlib.Core.Bool.{Bool, true, false}
use mathlib.Core.List.{List, [], ◌∷◌}
use Prim.Native.Nat.{ℕ}
use Rattle.command.specs.Layouts.{Layouts}
use Rattle.registers.specs.Registers.{blocking}
use Rattle.state.specs.Rings.{oldest}
use Rattle.state.specs.declared.Deed.{Deed}
use Rattle.state.specs.declared.Note.{Note}
use Rattle.forwards.specs.Forward.{clears}
use Rattle.kept.proofs.Fits.{LayoutFit}
use Rattle.clock.specs.Clock.{clocked}
use Rattle.events.specs.Events.{reacted}
use Rattle.events.specs.Turn.{turned, turn}
use Rattle.events.specs.declared.Event.{Event}
use Rattle.events.specs.declared.Event.TheVariants.{Power, Word, Release, Tick, Clock as ClockReading}
use Rattle.bridge.specs.Runs.{Config, faults, next}
use Rattle.bridge.proofs.Plans.{tame_word, tame_release}
use Rattle.bridge.proofs.Reached.{Obeys, obeyed_turn, step_obeys}
use Rattle.order.specs.Accepted.{plan_of}
use Rattle.order.specs.Premises.{clearing, losing, Fair, Premises, FairAsAsked, AskedPremises}
use Rattle.order.proofs.Faults.{fault_note}
use Rattle.base.specs.Truth.{never}

-- What leaves no blocking flag up and clears nothing is no fault.
loud_not : (n : Note) (d : Deed) → (faults n ≡ true → clears d ≡ true) → clears d ≡ false → faults n ≡ false
loud_not n d f k = go (faults n) refl
  where
    go : (t : Bool) → faults n ≡ t → t ≡ false
    go true e = never (clears d) (f e) k
    go false e = refl

event_fault : (l : Layouts) (c : Config) (e : Event) (w : ℕ) → clearing l c e ≡ false
    → blocking (reacted l c.bridge e w (oldest c.rx c.bridge.receiving.rx)).bridge.control.flags ≡ false
    → faults (reacted l c.bridge e w (oldest c.rx c.bridge.receiving.rx)).note ≡ false
unfolding reacted clocked plan_of
event_fault l c (Power good layout) w k f = unfold faults in refl
event_fault l c (Word word) w k f = loud_not _ _ (tame_word c.bridge l word _).loud k
event_fault l c Release w k f = loud_not _ _ (tame_release c.bridge c.bridge.frame.phase).loud k
event_fault l c (Tick sin) w k f = fault_note c.bridge sin w f
event_fault l c (ClockReading reading) w k f = unfold faults in refl

module _ (l : Layouts) (fits : LayoutFit l) where
  asked_fair : (c : Config) (e : Event) → Obeys c → FairAsAsked l c e → Fair l c e
  unfolding next turn turned
  asked_fair c e o a =
      record {
        typed = a.typed;
        no_fault =
            rw (obeyed_turn l fits c e o) (event_fault l c e _ a.no_clear (rw (obeyed_turn l fits c e o) at a.no_fault));
        no_loss = λ h. never (losing l c e) h (rw a.no_power a.no_clear);
      }

  pub asked_premises : (c : Config) (es : List Event) → Obeys c → AskedPremises l c es → Premises l c es
  asked_premises c [] o a = tt
  asked_premises c (e ∷ es) o a = (asked_fair c e o a.0, asked_premises (next l c e) es (step_obeys l fits c e o) a.1)
