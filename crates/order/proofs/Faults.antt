-- Blocking flags: a tick raises TXFFUVF alone, and only where it is starved, which is note 13; what it hears and a clock reading raise none
-- (01 Notes; "Blocking flags are TXFFOVF, TXFFUVF and QUEUE_OVF"). Assumes nothing.
use mathlib.Core.Path.{◌≡◌, refl, sym, ◌∙◌}
use mathlib.Core.Bool.{Bool, true, false, ◌||◌}
use Prim.Native.Nat.{ℕ}
use Rattle.base.specs.Pick.{pick, pick_keeps}
use Rattle.line.specs.declared.Ear.{Ear}
use Rattle.line.specs.declared.Found.{Found}
use Rattle.line.specs.declared.Found.TheVariants.{Nothing, Start, Word, End, CheckError, Over}
use Rattle.registers.specs.Registers.{blocking}
use Rattle.registers.specs.Raising.{raised, went_bad}
use Rattle.registers.specs.declared.Flag.TheVariants.{LineCrc, TxUvf}
use Rattle.registers.specs.declared.Flags.{Flags}
use Rattle.state.specs.declared.Bridge.{Bridge}
use Rattle.state.specs.declared.Queue.{Queue}
use Rattle.state.specs.declared.Receiving.{Receiving}
use Rattle.next.specs.Next.{may_start}
use Rattle.sender.specs.Sender.{tick_sender}
use Rattle.reader.specs.Reader.{word_taken, ended, taken_by, tick_reader}
use Rattle.reader.specs.declared.Taken.{Taken}
use Rattle.plan.specs.Plan.{settled}
use Rattle.ticks.specs.Ticks.{starved_flags, flags_sent, control_ticked, tick_note, tick_ends, tick_hears, ticked}
use Rattle.clock.specs.Clock.{flags_at, control_at, clocked}
use Rattle.bridge.specs.Runs.{faults}
use Rattle.base.specs.Truth.{or_l, or_r}

abbrev Same : Flags → Flags → Type 0
Same f g = blocking g ≡ blocking f

-- What a tick hears raises CHECK_BIT, the line's CRC flag or RXFFOVF.
module _ (f : Flags) where
  compared : (t : Bool) → Same f (pick t (raised f LineCrc) f)
  unfolding blocking raised
  compared t = pick_keeps (Same f) t _ _ (λ p. refl) (λ p. refl)

  module _ (r : Receiving) (q : Queue) (e : Ear) where
    same_word : (w : ℕ) → Same f (word_taken r q f e w).flags
    unfolding word_taken blocking raised
    same_word w =
        pick_keeps (λ (t : Taken). Same f t.flags) _ _ _
        (λ p. pick_keeps (λ (t : Taken). Same f t.flags) _ _ _ (λ c. refl) (λ c. refl)) (λ p. refl)

    same_taken : (found : Found) → Same f (taken_by found r q f e).flags
    unfolding taken_by ended blocking raised went_bad
    same_taken Nothing = refl
    same_taken Start = refl
    same_taken (Word w) = same_word w
    same_taken (CheckError n) = refl
    same_taken End = compared _
    same_taken Over = compared _

-- Note 13 is given where the tick is starved.
note_fed : (starved full : Bool) → faults (tick_note starved full) ≡ false → starved ≡ false
unfolding tick_note pick faults
note_fed true full k = k
note_fed false full k = refl

fed_noted : (starved full : Bool) → starved ≡ false → faults (tick_note starved full) ≡ false
unfolding tick_note pick faults
fed_noted true full h = h
fed_noted false true h = refl
fed_noted false false h = refl

module _ (b : Bridge) (sin : Bool) (w : ℕ) where
  abbrev starves : Bool
  starves = (tick_sender b.sending (may_start b.control) w).starved

  flags_ticked : blocking (ticked b sin w).bridge.control.flags ≡ blocking (starved_flags b.control.flags starves)
  unfolding ticked tick_hears tick_ends control_ticked settled tick_reader flags_sent
  flags_ticked = same_taken _ b.receiving _ _ _ ∙ compared (starved_flags b.control.flags starves) _

  pub not_starved : faults (ticked b sin w).note ≡ false → starves ≡ false
  unfolding ticked tick_hears tick_ends
  not_starved n = note_fed starves _ n

  fed_note : starves ≡ false → faults (ticked b sin w).note ≡ false
  unfolding ticked tick_hears tick_ends
  fed_note z = fed_noted starves _ z

  pub tick_calm : blocking b.control.flags ≡ false → starves ≡ false → blocking (ticked b sin w).bridge.control.flags ≡ false
  unfolding starved_flags pick
  tick_calm h z = flags_ticked ∙ rw z h

  -- A tick that leaves no blocking flag up had the word that it needed.
  pub fault_note : blocking (ticked b sin w).bridge.control.flags ≡ false → faults (ticked b sin w).note ≡ false
  unfolding starved_flags pick blocking raised
  fault_note h = fed_note (fed b.control.flags starves (sym flags_ticked ∙ h))
    where
      fed : (f : Flags) (s : Bool) → blocking (pick s (raised f TxUvf) f) ≡ false → s ≡ false
      fed f true k = or_l true f.txffuvf (or_r f.txffovf (true || f.txffuvf) (or_l (f.txffovf || (true || f.txffuvf)) f.queue_ovf k))
      fed f false k = refl

-- The SIN watch's flag blocks nothing.
pub clock_calm : (b : Bridge) (reading : ℕ) → blocking b.control.flags ≡ false → blocking (clocked b reading).bridge.control.flags ≡ false
unfolding clocked control_at settled flags_at blocking raised
clock_calm b reading h = pick_keeps (λ (f : Flags). blocking f ≡ false) _ _ _ (λ t. h) (λ t. h)
