-- What an event does to CHECK_BIT, its number and the reader (02 item 4): a tick notes the number that it hears, every other event that `Leaves` leaves
-- them as they are. Assumes nothing.
use mathlib.Core.Path.{◌≡◌, refl, ◌∙◌, ap}
use mathlib.Core.Bool.{Bool, true, false}
use Prim.Native.Nat.{ℕ}
use borrow.Author.Tests.{eqb-true}
use Rattle.base.specs.Pick.{pick, pick_keeps}
use Rattle.base.specs.Truth.{never}
use Rattle.command.specs.Layouts.{Layouts}
use Rattle.line.specs.Reader.{hear}
use Rattle.line.specs.declared.Ear.{Ear}
use Rattle.line.specs.declared.Found.{Found}
use Rattle.line.specs.declared.Found.TheVariants.{Nothing, Start, Word, End, CheckError, Over}
use Rattle.registers.specs.Raising.{raised, went_bad}
use Rattle.registers.specs.declared.Flags.{Flags}
use Rattle.state.specs.declared.Bridge.{Bridge}
use Rattle.state.specs.declared.Clock.{Clock}
use Rattle.state.specs.declared.Deed.{Deed}
use Rattle.state.specs.declared.Deed.TheVariants.{Leave, Enqueue, TakeBack, ClearAll, ResetAll}
use Rattle.state.specs.declared.Queue.{Queue}
use Rattle.state.specs.declared.Receiving.{Receiving}
use Rattle.frame_rules.specs.Frames.{bad_word_sound}
use Rattle.next.specs.Next.{may_start}
use Rattle.sender.specs.Sender.{tick_sender}
use Rattle.sender.specs.declared.Sent.{Sent}
use Rattle.reader.specs.Reader.{began, word_taken, at_end, ended, taken_by, tick_reader}
use Rattle.reader.specs.declared.Taken.{Taken}
use Rattle.plan.specs.Plan.{cleared_away, received, settled, performed}
use Rattle.plan.specs.declared.Plan.{Plan}
use Rattle.plan.specs.declared.Receive.{Receive}
use Rattle.plan.specs.declared.Receive.TheVariants.{LeaveRx, PopRx, StopRx, EmptyRx, ResetRx}
use Rattle.kept.proofs.Control.{Numbered, same_number, no_number, Rises}
use Rattle.ticks.specs.Ticks.{starved_flags, flags_sent, control_ticked, tick_ends, tick_hears, ticked}
use Rattle.clock.specs.Clock.{flags_at, control_at, clocked}
use Rattle.bad_word.specs.BadWord.{resets_reader}

-- CHECK_BIT and its number
pub record Shown : Type 0 where
  pub bit : Bool
  pub number : ℕ

abbrev pub shown_by : Flags → Shown
shown_by f = record { bit = f.check_bit; number = f.bad_word }

-- what they are after a bit: "the first such number"
abbrev pub noted : Shown → Found → Shown
noted s Nothing = s
noted s Start = s
noted s (Word w) = s
noted s End = s
noted s (CheckError n) = record { bit = true; number = pick s.bit s.number n }
noted s Over = s

-- flags and receiving side show this, with the reader there
pub record Shows (f : Flags) (r : Receiving) (s : Shown) (e : Ear) : Type 0 where
  pub shown : shown_by f ≡ s
  pub ear : r.reader.ear ≡ e

-- The register's rule: with CHECK_BIT down the number is 0.
pub down_none : (f : Flags) → bad_word_sound f ≡ true → f.check_bit ≡ false → f.bad_word ≡ 0
down_none f s d = eqb-true f.bad_word 0 (rw d at s)

-- 1. A tick.

module _ (f : Flags) where
  -- flags that show the same
  abbrev Same : Flags → Type 0
  Same g = shown_by g ≡ shown_by f

  -- the sender's half
  starved_shown : (starved : Bool) → Same (starved_flags f starved)
  unfolding starved_flags raised
  starved_shown starved = pick_keeps Same starved _ _ (λ t. refl) (λ t. refl)

  sent_shown : (s : Sent) → Same (flags_sent f s)
  unfolding flags_sent
  sent_shown s = pick_keeps Same s.differs _ _ (λ t. unfold raised in starved_shown s.starved) (λ t. starved_shown s.starved)

  -- the reader's half
  module _ (r : Receiving) (q : Queue) (e : Ear) where
    abbrev Takes : Shown → Taken → Type 0
    Takes s t = Shows t.flags t.receiving s e

    word_shown : (w : ℕ) → Takes (shown_by f) (word_taken r q f e w)
    unfolding word_taken raised
    word_shown w =
        pick_keeps (Takes (shown_by f)) _ _ _
        (λ s. pick_keeps (Takes (shown_by f)) _ _ _ (λ c. record { shown = refl; ear = refl }) (λ c. record { shown = refl; ear = refl }))
        (λ s. record { shown = refl; ear = refl })

    ended_shown : Takes (shown_by f) (ended r q f e)
    unfolding ended at_end raised
    ended_shown = record { shown = pick_keeps Same _ _ _ (λ d. refl) (λ d. refl); ear = refl }

    -- by what the bit completed: a check error's number is noted
    taken_shown : (found : Found) → Takes (noted (shown_by f) found) (taken_by found r q f e)
    unfolding taken_by began went_bad
    taken_shown Nothing = record { shown = refl; ear = refl }
    taken_shown Start = record { shown = refl; ear = refl }
    taken_shown (Word w) = word_shown w
    taken_shown End = ended_shown
    taken_shown (CheckError n) = record { shown = refl; ear = refl }
    taken_shown Over = ended_shown

-- a bridge shows this
abbrev pub ShowsIn : Bridge → Shown → Ear → Type 0
ShowsIn b s e = Shows b.control.flags b.receiving s e

abbrev pub ear_of : Bridge → Ear
ear_of b = b.receiving.reader.ear

-- A tick notes what it hears.
pub tick_shown : (b : Bridge) (sin : Bool) (w : ℕ)
    → ShowsIn (ticked b sin w).bridge (noted (shown_by b.control.flags) (hear (ear_of b) sin).found) (hear (ear_of b) sin).ear
unfolding ticked tick_hears tick_ends control_ticked settled tick_reader
tick_shown b sin w =
    let x : Found = (hear (ear_of b) sin).found in
    let s : Sent = tick_sender b.sending (may_start b.control) w in
    let t = taken_shown (flags_sent b.control.flags s) b.receiving s.sending.queue (hear (ear_of b) sin).ear x in
    record { shown = t.shown ∙ ap (λ (h : Shown). noted h x) (sent_shown b.control.flags s); ear = t.ear }

-- 2. A clock reading raises the SIN watch's flag at most.
pub clock_shown : (b : Bridge) (reading : ℕ) → ShowsIn (clocked b reading).bridge (shown_by b.control.flags) (ear_of b)
unfolding clocked control_at settled flags_at raised
clock_shown b reading = record { shown = pick_keeps (λ (g : Flags). shown_by g ≡ shown_by b.control.flags) _ _ _ (λ t. refl) (λ t. refl); ear = refl }

-- 3. A host's plan.

-- The reader stays where it is, but at a soft reset.
cleared_ear : (r : Receiving) (d : Deed) → (cleared_away r d).reader.ear ≡ r.reader.ear
unfolding cleared_away
cleared_ear r Leave = refl
cleared_ear r (Enqueue p) = refl
cleared_ear r (TakeBack n) = refl
cleared_ear r ClearAll = refl
cleared_ear r ResetAll = refl

received_ear : (r : Receiving) (v : Receive) → resets_reader v ≡ false → (received r v).reader.ear ≡ r.reader.ear
unfolding received resets_reader
received_ear r LeaveRx h = refl
received_ear r PopRx h = refl
received_ear r StopRx h = refl
received_ear r EmptyRx h = refl
received_ear r ResetRx h = never true refl h

-- Flags that are cleared showed nothing, unless CHECK_BIT was up.
plan_shown : (f g : Flags) → Numbered f g → bad_word_sound f ≡ true → (f.check_bit ≡ true → g.check_bit ≡ true) → shown_by g ≡ shown_by f
plan_shown f g (same_number a b) s u = cc
plan_shown f g (no_number a b) s u = go f.check_bit refl
  where
    go : (t : Bool) → f.check_bit ≡ t → shown_by g ≡ shown_by f
    go true e = never g.check_bit (u e) a
    go false e = cc (down_none f s e)

-- A plan that is no soft reset and clears no CHECK_BIT leaves all as it is.
pub host_shown : (l : Layouts) (b : Bridge) (clock : Clock) (p : Plan) → Rises b p → bad_word_sound b.control.flags ≡ true
    → resets_reader p.receive ≡ false → (b.control.flags.check_bit ≡ true → p.control.flags.check_bit ≡ true)
    → ShowsIn (performed l b clock p) (shown_by b.control.flags) (ear_of b)
unfolding performed settled
host_shown l b clock p r s n u = record {
  shown = plan_shown b.control.flags p.control.flags r.number s u;
  ear = received_ear _ p.receive n ∙ cleared_ear b.receiving p.deed;
}
