-- Power-up obeys the rules of registers, flags and frame, and a tick and a clock reading keep them (01 Notes, note 2; notes 13 and 14; The line).
-- Assumes nothing.
use mathlib.Core.Path.{◌≡◌, refl}
use mathlib.Core.Bool.{Bool, true, false, ◌&&◌, ◌||◌}
use Prim.Native.Nat.{ℕ}
use Rattle.layout.specs.declared.Layout.{Layout}
use Rattle.base.specs.Pick.{pick, pick_keeps, and_l, and_r}
use Rattle.command.specs.declared.Command.TheVariants.{Filler, Malformed, Forward, DataRead, RegisterWrite, RegisterRead, SoftReset}
use Rattle.line.specs.Reader.{hear}
use Rattle.line.specs.declared.Ear.{Ear}
use Rattle.line.specs.declared.Found.{Found}
use Rattle.line.specs.declared.Found.TheVariants.{Nothing, Start, Word, End, CheckError, Over}
use Rattle.reader.specs.Reader.{word_taken, ended, taken_by, tick_reader}
use Rattle.reader.specs.declared.Taken.{Taken}
use Rattle.registers.specs.Raising.{raised, went_bad}
use Rattle.registers.specs.Registers.{blocking, is_normal, rxff, power_up_flags, power_up_control}
use Rattle.registers.specs.declared.Flags.{Flags}
use Rattle.registers.specs.declared.Mode.{Mode}
use Rattle.registers.specs.declared.Mode.TheVariants.{Normal, Init, Failsafe}
use Rattle.next.specs.Next.{may_start}
use Rattle.sender.specs.Sender.{tick_sender}
use Rattle.sender.specs.declared.Sent.{Sent}
use Rattle.state.specs.Power.{power_up_in, bad_control, power_up_bad_in}
use Rattle.state.specs.declared.Bridge.{Bridge}
use Rattle.state.specs.declared.Phase.{Phase}
use Rattle.state.specs.declared.Phase.TheVariants.{Idle, Collecting, Answering, Discarding}
use Rattle.state.specs.declared.Queue.{Queue}
use Rattle.state.specs.declared.Receiving.{Receiving}
use Rattle.base.specs.Truth.{or_left, and_none}
use Rattle.kept.proofs.Control.{settled_control}
use Rattle.base.specs.Truth.{or_true}
use Rattle.rules.specs.Facts.{ControlRules}
use Rattle.frame_rules.specs.Frames.{otp_sound, bad_word_sound, is_unmarked}
use Rattle.events.specs.Events.{powered}
use Rattle.ticks.specs.Ticks.{blocked_in, with_flags_of, starved_flags, flags_sent, phase_after, control_ticked, tick_ends, tick_hears, ticked}
use Rattle.clock.specs.Clock.{dog_fires, watch_fires, mode_at, flags_at, control_at, clocked}

abbrev Obeys : Bridge → Type 0
Obeys b = ControlRules b.control b.receiving.rx.count b.frame.phase

-- 1. The reader raises RXFFOVF, with a word dropped, CHECK_BIT and line CRC.
record Raises (f g : Flags) (full : Bool) : Type 0 where
  otp : g.otp ≡ f.otp
  word : bad_word_sound f ≡ true → bad_word_sound g ≡ true
  blocks : blocking g ≡ blocking f
  hears : rxff g ≡ true → (rxff f || full) ≡ true

module _ (r : Receiving) (q : Queue) (f : Flags) (e : Ear) where
  raises_none : (full : Bool) → Raises f f full
  raises_none full = record { otp = refl; word = λ h. h; blocks = refl; hears = λ h. or_left (rxff f) full h }

  word_raises : (w : ℕ) → Raises f (word_taken r q f e w).flags (word_taken r q f e w).full
  unfolding word_taken raised blocking
  word_raises w =
      pick_keeps (λ (t : Taken). Raises f t.flags t.full) _ _ _
      (λ s. pick_keeps (λ (t : Taken). Raises f t.flags t.full) _ _ _ (λ c. raises_none false)
      (λ c. record { otp = refl; word = λ h. h; blocks = refl; hears = λ h. or_true (rxff f) }))
      (λ s. raises_none false)

  ended_raises : Raises f (ended r q f e).flags (ended r q f e).full
  unfolding ended raised blocking
  ended_raises =
      pick_keeps (λ (g : Flags). Raises f g false) _ _ f (λ d. record { otp = refl; word = λ h. h; blocks = refl; hears = λ h. or_left (rxff f) false h })
      (λ d. raises_none false)

  taken_raises : (found : Found) → Raises f (taken_by found r q f e).flags (taken_by found r q f e).full
  unfolding taken_by went_bad blocking
  taken_raises Nothing = raises_none false
  taken_raises Start = raises_none false
  taken_raises (Word w) = word_raises w
  taken_raises End = ended_raises
  taken_raises (CheckError n) = record { otp = refl; word = λ h. refl; blocks = refl; hears = λ h. or_left (rxff f) false h }
  taken_raises Over = ended_raises

reader_raises : (r : Receiving) (q : Queue) (f : Flags) (sin : Bool) → Raises f (tick_reader r q f sin).flags (tick_reader r q f sin).full
unfolding tick_reader
reader_raises r q f sin = taken_raises r q f (hear r.reader.ear sin).ear (hear r.reader.ear sin).found

-- an RX flag rises in a tick only where the reader dropped a word
pub tick_hears_lem : (r : Receiving) (q : Queue) (f : Flags) (sin : Bool) → rxff (tick_reader r q f sin).flags ≡ true
    → (rxff f || (tick_reader r q f sin).full) ≡ true
tick_hears_lem r q f sin = (reader_raises r q f sin).hears

-- 2. The sender raises TXFFUVF, in a starved tick, and line CRC.

starved_hears : (f : Flags) (starved : Bool) → rxff (starved_flags f starved) ≡ rxff f
unfolding starved_flags raised
starved_hears f starved = pick_keeps (λ (g : Flags). rxff g ≡ rxff f) starved _ f (λ h. refl) (λ h. refl)

pub sent_hears : (f : Flags) (s : Sent) → rxff (flags_sent f s) ≡ rxff f
unfolding flags_sent
sent_hears f s =
    pick_keeps (λ (g : Flags). rxff g ≡ rxff f) s.differs _ _ (λ h. unfold raised in starved_hears f s.starved) (λ h. starved_hears f s.starved)

starved_otp : (f : Flags) (starved : Bool) → (starved_flags f starved).otp ≡ f.otp
unfolding starved_flags raised
starved_otp f starved = pick_keeps (λ (g : Flags). g.otp ≡ f.otp) starved _ f (λ h. refl) (λ h. refl)

sent_otp : (f : Flags) (s : Sent) → (flags_sent f s).otp ≡ f.otp
unfolding flags_sent
sent_otp f s =
    pick_keeps (λ (g : Flags). g.otp ≡ f.otp) s.differs _ _ (λ h. unfold raised in starved_otp f s.starved) (λ h. starved_otp f s.starved)

starved_word : (f : Flags) (starved : Bool) → bad_word_sound (starved_flags f starved) ≡ bad_word_sound f
unfolding starved_flags raised
starved_word f starved = pick_keeps (λ (g : Flags). bad_word_sound g ≡ bad_word_sound f) starved _ f (λ h. refl) (λ h. refl)

sent_word : (f : Flags) (s : Sent) → bad_word_sound (flags_sent f s) ≡ bad_word_sound f
unfolding flags_sent
sent_word f s =
    pick_keeps (λ (g : Flags). bad_word_sound g ≡ bad_word_sound f) s.differs _ _ (λ h. unfold raised in starved_word f s.starved)
    (λ h. starved_word f s.starved)

-- "while a blocking flag is or was up during this frame": a starved tick marks an open forward
blocked_marked : (p : Phase) → is_unmarked (blocked_in p) ≡ false
unfolding blocked_in is_unmarked
blocked_marked Idle = refl
blocked_marked (Collecting Filler got sum mine released blocked) = refl
blocked_marked (Collecting Malformed got sum mine released blocked) = refl
blocked_marked (Collecting (Forward crc words ends reads) got sum mine released blocked) = refl
blocked_marked (Collecting (DataRead crc words) got sum mine released blocked) = refl
blocked_marked (Collecting (RegisterWrite crc address count) got sum mine released blocked) = refl
blocked_marked (Collecting (RegisterRead crc address count) got sum mine released blocked) = refl
blocked_marked (Collecting SoftReset got sum mine released blocked) = refl
blocked_marked (Answering reply sum) = refl
blocked_marked Discarding = refl

starved_marked : (f : Flags) (p : Phase) (starved : Bool) → (blocking f && is_unmarked p) ≡ false
    → (blocking (starved_flags f starved) && is_unmarked (phase_after p starved)) ≡ false
unfolding starved_flags phase_after pick
starved_marked f p true m = and_none (blocking (starved_flags f true)) _ (blocked_marked p)
starved_marked f p false m = m

sent_marked : (f : Flags) (s : Sent) (p : Phase) → (blocking f && is_unmarked p) ≡ false
    → (blocking (flags_sent f s) && is_unmarked (phase_after p s.starved)) ≡ false
unfolding flags_sent raised blocking
sent_marked f s p m =
    pick_keeps (λ (g : Flags). (blocking g && is_unmarked (phase_after p s.starved)) ≡ false) s.differs _ _
    (λ h. starved_marked f p s.starved m)
    (λ h. starved_marked f p s.starved m)

-- 3. The events.

pub tick_control : (b : Bridge) (sin : Bool) (w : ℕ) → Obeys b → Obeys (ticked b sin w).bridge
unfolding ticked tick_hears tick_ends control_ticked
tick_control b sin w r =
    let s : Sent = tick_sender b.sending (may_start b.control) w in
    let f : Flags = flags_sent b.control.flags s in
    let t : Taken = tick_reader b.receiving s.sending.queue f sin in
    let k : Raises f t.flags t.full = reader_raises b.receiving s.sending.queue f sin in
    settled_control (with_flags_of b.control t.flags) t.receiving.rx.count t.ended (phase_after b.frame.phase s.starved)
    (rw (k.otp, sent_otp b.control.flags s) r.otp)
    (k.word (rw (sent_word b.control.flags s) r.word))
    (rw k.blocks (sent_marked b.control.flags s b.frame.phase r.marked))

-- "NORMAL becomes FAILSAFE": INIT stays
bitten_otp : (m : Mode) (otp bites : Bool) → (bites ≡ true → is_normal m ≡ true) → otp_sound m otp ≡ true → otp_sound (mode_at m bites) otp ≡ true
unfolding mode_at pick
bitten_otp Normal otp true n h = h
bitten_otp Init otp true n h = cc (n refl)
bitten_otp Failsafe otp true n h = h
bitten_otp m otp false n h = h

flags_at_lem : (f : Flags) (fires : Bool)
    → ((flags_at f fires).otp ≡ f.otp) × (blocking (flags_at f fires) ≡ blocking f) × (bad_word_sound (flags_at f fires) ≡ bad_word_sound f)
unfolding flags_at raised blocking
flags_at_lem f fires =
    pick_keeps (λ (g : Flags). (g.otp ≡ f.otp) × (blocking g ≡ blocking f) × (bad_word_sound g ≡ bad_word_sound f)) fires _ f (λ h. (refl, refl, refl))
    (λ h. (refl, refl, refl))

pub clock_control : (b : Bridge) (reading : ℕ) → Obeys b → Obeys (clocked b reading).bridge
unfolding clocked control_at
clock_control b reading r =
    let e = flags_at_lem b.control.flags (watch_fires b.clock reading) in
    settled_control _ b.receiving.rx.count false b.frame.phase
    (rw e.0 (bitten_otp b.control.mode b.control.flags.otp (dog_fires b reading) (λ h. search (and_l, and_r)) r.otp))
    (rw e.2 r.word)
    (rw e.1 r.marked)

good_control : (layout : Layout) → Obeys (power_up_in layout)
unfolding power_up_in power_up_control power_up_flags is_unmarked blocking pick
good_control layout = record { otp = refl; drdy = refl; word = refl; marked = refl }

bad_control_lem : (layout : Layout) → Obeys (power_up_bad_in layout)
unfolding power_up_bad_in bad_control power_up_control power_up_flags is_unmarked blocking pick
bad_control_lem layout = record { otp = refl; drdy = refl; word = refl; marked = refl }

pub power_control : (good : Bool) (layout : Layout) → Obeys (powered good layout)
unfolding powered
power_control good layout = pick_keeps Obeys good _ _ (λ h. good_control layout) (λ h. bad_control_lem layout)
