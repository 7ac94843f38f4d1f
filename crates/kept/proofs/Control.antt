-- What a host's plan may do to registers, flags and frame, and that it keeps their rules (01 Notes, note 2; "Blocking flags are TXFFOVF, TXFFUVF
-- and QUEUE_OVF", notes 5, 8 and 9; note 15; The line, DRDY). Assumes nothing.
use mathlib.Core.Path.{◌≡◌, refl, sym, ◌∙◌}
use mathlib.Core.Bool.{Bool, true, false, not, ◌&&◌, ◌||◌}
use mathlib.Core.List.{List, [], ◌∷◌}
use Prim.Native.Nat.{ℕ, zero, suc, ◌+◌}
use lib.Dec.{ltb, eqb}
use Rattle.base.specs.Bits.{bit}
use Rattle.base.specs.Pick.{pick, pick_keeps}
use Rattle.command.specs.Layouts.{Layouts}
use Rattle.command.specs.declared.Command.{Command}
use Rattle.command.specs.declared.Command.TheVariants.{Filler, Malformed, Forward, DataRead, RegisterWrite, RegisterRead, SoftReset}
use Rattle.forwards.specs.Forward.{guard, faulted, clears, forwarded, forward_word, forward_begun}
use Rattle.host.specs.Frames.{opened, data_word, planned_in, planned}
use Rattle.release.specs.Release.{released_in}
use Rattle.writes.specs.Writes.{effected, with_write, write_all, no_effects, held_word, register_word}
use Rattle.closing.specs.Closing.{wrong_crc, forward_closed, registers_closed, read_closed, reset_closed, crc_due}
use Rattle.release.specs.Release.{cut_deed, cut}
use Rattle.answers.specs.Answers.{answer_with, data_answered, register_answered, answered}
use Rattle.plan.specs.Plan.{no_answer, plain, settled, concluded, performed}
use Rattle.writes.specs.declared.Effects.{Effects}
use Rattle.forwards.specs.declared.Granted.{Granted}
use Rattle.state.specs.declared.Fwd.{Fwd}
use Rattle.state.specs.declared.Progress.{Progress}
use Rattle.plan.specs.declared.Plan.{Plan}
use Rattle.plan.specs.declared.Receive.{Receive}
use Rattle.plan.specs.declared.Receive.TheVariants.{LeaveRx, PopRx, StopRx, EmptyRx, ResetRx}
use Rattle.forwards.specs.declared.Wish.{Wish}
use Rattle.registers.specs.Raising.{raised, raised_in}
use Rattle.registers.specs.Registers.{cleared, blocking, rxff}
use Rattle.registers.specs.Writing.{with_regs, mode_after, write_ccsictrl, write_txfflvl, write_rxfflvl, write_status, write_masked, write_of}
use Rattle.registers.specs.declared.Control.{Control}
use Rattle.registers.specs.declared.Flag.{Flag}
use Rattle.registers.specs.declared.Flag.TheVariants.{Srst, RegWrite, SpiCrc, SpiCs, RxUvf}
use Rattle.registers.specs.declared.Flags.{Flags}
use Rattle.registers.specs.declared.Mode.{Mode}
use Rattle.registers.specs.declared.Mode.TheVariants.{Normal, Init, Failsafe}
use Rattle.registers.specs.declared.Regs.{Regs}
use Rattle.registers.specs.declared.Written.{Written}
use Rattle.state.specs.declared.Bridge.{Bridge}
use Rattle.state.specs.declared.Clock.{Clock}
use Rattle.state.specs.declared.Deed.{Deed}
use Rattle.state.specs.declared.Deed.TheVariants.{Leave, Enqueue, TakeBack, ClearAll, ResetAll}
use Rattle.state.specs.declared.Note.{Note}
use Rattle.state.specs.declared.Note.TheVariants.{RxEmpty}
use Rattle.state.specs.declared.Phase.{Phase}
use Rattle.state.specs.declared.Phase.TheVariants.{Idle, Collecting, Answering, Discarding}
use Rattle.state.specs.declared.Reply.{Reply}
use Rattle.state.specs.declared.Reply.TheVariants.{Status, Data, Registers, Check}
use Rattle.rules.specs.Facts.{ControlRules}
use Rattle.frame_rules.specs.Frames.{otp_sound, drdy_sound, bad_word_sound, is_unmarked}
use Rattle.state.specs.Frame.{is_forward}
use Rattle.base.specs.Truth.{or_true, or_left, and_none, and_not}
use Rattle.state.specs.declared.Queue.{Queue}

-- 1. DRDY, which is settled after each event.

pub settled_ready : (c : Control) (count : ℕ) (ended : Bool)
    → drdy_sound (settled c count ended).drdy (settled c count ended).regs.rxfflvl count ≡ true
unfolding settled pick
settled_ready c count ended = go (eqb count 0) (ltb c.regs.rxfflvl count)
  where
    go : (empty over : Bool) → pick empty (pick empty true (pick (over || ended) false c.drdy))
        (not (over && pick empty true (pick (over || ended) false c.drdy))) ≡ true
    go true over = refl
    go false true = refl
    go false false = refl

pub settled_mode : (c : Control) (count : ℕ) (ended : Bool) → (settled c count ended).mode ≡ c.mode
unfolding settled
settled_mode c count ended = refl

pub settled_flags : (c : Control) (count : ℕ) (ended : Bool) → (settled c count ended).flags ≡ c.flags
unfolding settled
settled_flags c count ended = refl

pub settled_regs : (c : Control) (count : ℕ) (ended : Bool) → (settled c count ended).regs ≡ c.regs
unfolding settled
settled_regs c count ended = refl

-- what is settled keeps the rules, if it keeps those of flags and frame
pub settled_control : (c : Control) (count : ℕ) (ended : Bool) (p : Phase) → otp_sound c.mode c.flags.otp ≡ true
    → bad_word_sound c.flags ≡ true → (blocking c.flags && is_unmarked p) ≡ false → ControlRules (settled c count ended) count p
unfolding settled
settled_control c count ended p o n m = record { otp = o; drdy = settled_ready c count ended; word = n; marked = m }

-- 2. What a plan may raise.

-- RX's words are stopped
unfoldable pub stops : Receive → Bool
stops LeaveRx = false
stops PopRx = false
stops StopRx = true
stops EmptyRx = true
stops ResetRx = true

unfoldable pub is_reset : Deed → Bool
is_reset Leave = false
is_reset (Enqueue p) = false
is_reset (TakeBack n) = false
is_reset ClearAll = false
is_reset ResetAll = true

-- CHECK_BIT and its number stay, or are cleared with the flags (02 item 4)
pub data Numbered (f g : Flags) : Type 0 where
  same_number : g.check_bit ≡ f.check_bit → g.bad_word ≡ f.bad_word → Numbered f g
  no_number : g.check_bit ≡ false → g.bad_word ≡ 0 → Numbered f g

numbered_then : {f g h : Flags} → Numbered f g → Numbered g h → Numbered f h
numbered_then (same_number a b) (same_number c d) = same_number (c ∙ a) (d ∙ b)
numbered_then (no_number a b) (same_number c d) = no_number (c ∙ a) (d ∙ b)
numbered_then (same_number a b) (no_number c d) = no_number c d
numbered_then (no_number a b) (no_number c d) = no_number c d

-- either way the register's rule is kept
pub numbered_sound : {f g : Flags} → Numbered f g → bad_word_sound f ≡ true → bad_word_sound g ≡ true
numbered_sound (same_number a b) n = rw (a, b) n
numbered_sound (no_number a b) n = rw (a, b)

-- a blocking flag rises with a transmit clear, an RX flag with a stop; "Soft reset (note 0): both, without the END, and reader to idle"
pub record Rises (b : Bridge) (p : Plan) : Type 0 where
  pub otp : otp_sound p.control.mode p.control.flags.otp ≡ true
  pub number : Numbered b.control.flags p.control.flags
  pub marked : (blocking p.control.flags && is_unmarked p.phase) ≡ false
  pub hears : rxff p.control.flags ≡ true → (rxff b.control.flags || stops p.receive) ≡ true
  pub resets : is_reset p.deed ≡ true → p.receive ≡ ResetRx
  pub layout : p.control.regs.layout ≡ b.control.regs.layout

-- 3. What raises neither a blocking flag nor an RX flag.

record Tame (c d : Control) : Type 0 where
  otp : otp_sound c.mode c.flags.otp ≡ true → otp_sound d.mode d.flags.otp ≡ true
  number : Numbered c.flags d.flags
  blocks : blocking d.flags ≡ true → blocking c.flags ≡ true
  hears : rxff d.flags ≡ true → rxff c.flags ≡ true
  layout : d.regs.layout ≡ c.regs.layout

tame_same : (c : Control) → Tame c c
tame_same c = record { otp = λ h. h; number = same_number refl refl; blocks = λ h. h; hears = λ h. h; layout = refl }

tame_then : (c d e : Control) → Tame c d → Tame d e → Tame c e
tame_then c d e s t = record {
  otp = λ h. t.otp (s.otp h);
  number = numbered_then s.number t.number;
  blocks = λ h. s.blocks (t.blocks h);
  hears = λ h. s.hears (t.hears h);
  layout = t.layout ∙ s.layout;
}

tame_regs : (c : Control) (r : Regs) → r.layout ≡ c.regs.layout → Tame c (with_regs c r)
tame_regs c r e = record { otp = λ h. h; number = same_number refl refl; blocks = λ h. h; hears = λ h. h; layout = e }

-- a flag that is neither
tame_raised : (c : Control) (n : Flag) → blocking (raised c.flags n) ≡ blocking c.flags → rxff (raised c.flags n) ≡ rxff c.flags
    → Tame c (raised_in c n)
tame_raised c n e f = record {
  otp = λ h. unfold raised in h;
  number = unfold raised in same_number refl refl;
  blocks = λ h. sym e ∙ h;
  hears = λ h. sym f ∙ h;
  layout = refl;
}

-- "Bad OTP stays in INIT"
mode_otp : (m : Mode) (otp : Bool) (v : ℕ) → otp_sound m otp ≡ true → otp_sound (mode_after m v) otp ≡ true
unfolding mode_after
mode_otp Normal otp v h = pick_keeps (λ (m : Mode). otp_sound m otp ≡ true) _ _ _ (λ e. h) (λ e. unfold pick in h)
mode_otp Init otp v h = unfold pick in h
mode_otp Failsafe otp v h = unfold pick in pick_keeps (λ (m : Mode). otp_sound m otp ≡ true) (bit 0 v) Normal Failsafe (λ e. h) (λ e. h)

abbrev Tamely : Control → Written → Type 0
Tamely c w = Tame c w.control

-- "Clearing clears all but OTP"
write_tame : (c : Control) (busy : Bool) (a v : ℕ) → Tame c (write_of c busy a v).control
unfolding write_of write_masked write_ccsictrl write_txfflvl write_rxfflvl write_status cleared raised blocking
write_tame c busy zero v = tame_same c
write_tame c busy (suc zero) v = tame_regs c _ refl
write_tame c busy (suc (suc zero)) v = pick_keeps (Tamely c) busy _ _ (λ h. tame_raised c RegWrite refl refl) (λ h. tame_regs c _ refl)
write_tame c busy (suc (suc (suc zero))) v = tame_regs c _ refl
write_tame c busy (suc (suc (suc (suc zero)))) v = tame_regs c _ refl
write_tame c busy (suc (suc (suc (suc (suc zero))))) v = record {
  otp = λ h. mode_otp c.mode c.flags.otp _ h;
  number = same_number refl refl;
  blocks = λ h. h;
  hears = λ h. h;
  layout = refl;
}
write_tame c busy (suc (suc (suc (suc (suc (suc zero)))))) v = tame_regs c _ refl
write_tame c busy (suc (suc (suc (suc (suc (suc (suc zero))))))) v =
    pick_keeps (Tamely c) _ _ _ (λ h. record { otp = λ e. e; number = no_number refl refl; blocks = λ e. cc; hears = λ e. cc; layout = refl }) (λ h. tame_same c)
write_tame c busy (suc (suc (suc (suc (suc (suc (suc (suc a)))))))) v = tame_same c

write_all_tame : (c : Control) (e : Effects) (busy : Bool) (address : ℕ) (vs : List ℕ) → Tame c e.control
    → Tame c (write_all e busy address vs).control
unfolding write_all with_write
write_all_tame c e busy address [] t = t
write_all_tame c e busy address (v ∷ vs) t =
    write_all_tame c (with_write e (write_of e.control busy address v)) busy (address + 1) vs (tame_then c e.control _ t (write_tame e.control busy address v))

-- 4. What the guard of notes 5, 8 and 9 grants.

record Pays (c : Control) (g : Granted) : Type 0 where
  otp : otp_sound c.mode c.flags.otp ≡ true → otp_sound (faulted c g.note).mode (faulted c g.note).flags.otp ≡ true
  number : Numbered c.flags (faulted c g.note).flags
  blocks : blocking (faulted c g.note).flags ≡ true → (blocking c.flags || clears g.deed) ≡ true
  hears : rxff (faulted c g.note).flags ≡ true → rxff c.flags ≡ true
  stands : is_reset g.deed ≡ false
  layout : (faulted c g.note).regs.layout ≡ c.regs.layout

guard_pays : (c : Control) (blocked : Bool) (count : ℕ) (q : Queue) (w : Wish) → Pays c (guard blocked count q w)
unfolding guard faulted raised clears is_reset
guard_pays c blocked count q w =
    pick_keeps (Pays c) _ _ _ (λ h. record { otp = λ e. e; number = same_number refl refl; blocks = λ e. or_left _ _ e; hears = λ e. e; stands = refl; layout = refl })
    (λ h. pick_keeps (Pays c) _ _ _
    (λ k. record { otp = λ e. e; number = same_number refl refl; blocks = λ e. or_true (blocking c.flags); hears = λ e. e; stands = refl; layout = refl })
    (λ k. pick_keeps (Pays c) _ _ _
    (λ r. pick_keeps (Pays c) _ _ _
    (λ u. record { otp = λ e. e; number = same_number refl refl; blocks = λ e. or_true (blocking c.flags); hears = λ e. e; stands = refl; layout = refl })
    (λ u. record { otp = λ e. e; number = same_number refl refl; blocks = λ e. or_left _ _ e; hears = λ e. e; stands = refl; layout = refl }))
    (λ r. record { otp = λ e. e; number = same_number refl refl; blocks = λ e. or_left _ _ e; hears = λ e. e; stands = refl; layout = refl })))

-- 5. The plans of a host word.
module _ (b : Bridge) (o : otp_sound b.control.mode b.control.flags.otp ≡ true) where
  tame_rises : (p : Plan) → Tame b.control p.control → is_unmarked p.phase ≡ false → (is_reset p.deed ≡ true → p.receive ≡ ResetRx)
      → Rises b p
  tame_rises p t u r = record {
    otp = t.otp o;
    number = t.number;
    marked = and_none (blocking p.control.flags) _ u;
    hears = λ h. or_left _ _ (t.hears h);
    resets = r;
    layout = t.layout;
  }

  quiet_rises : (p : Plan) → Tame b.control p.control → is_unmarked p.phase ≡ false → is_reset p.deed ≡ false → Rises b p
  quiet_rises p t u r = tame_rises p t u (λ h. cc)

  -- a plan that only moves the phase
  plain_rises : (p : Phase) (note : Note) → is_unmarked p ≡ false → Rises b (plain b p note)
  unfolding is_reset
  plain_rises p note u = quiet_rises _ (tame_same _) u refl

  -- "a forward still being received is blocked"
  forwarded_rises : (f : Fwd) (at : Progress) (g : Granted) → (blocking b.control.flags && not at.blocked) ≡ false → Pays b.control g
      → Rises b (forwarded b f at g)
  unfolding forwarded is_unmarked
  forwarded_rises f at g m y = record {
    otp = y.otp o;
    number = y.number;
    marked = go (blocking (faulted b.control g.note).flags) (blocking b.control.flags) (clears g.deed) y.blocks m;
    hears = λ h. or_left _ _ (y.hears h);
    resets = λ h. cc y.stands;
    layout = y.layout;
  }
    where
      go : (after before clear : Bool) → (after ≡ true → (before || clear) ≡ true) → (before && not at.blocked) ≡ false
          → (after && not (clear || at.blocked)) ≡ false
      go false before clear p q = refl
      go true before true p q = refl
      go true true false p q = q
      go true false false p q = cc (p refl)

  -- a blocking flag that "is .. up during this frame" marks it at once
  opened_rises : (c : Command) (sum : ℕ) → Rises b (opened b c sum)
  unfolding opened forward_begun is_unmarked
  opened_rises Filler sum = plain_rises _ _ refl
  opened_rises Malformed sum = plain_rises _ _ refl
  opened_rises (Forward crc words ends reads) sum =
      forwarded_rises _ _ _ (and_not (blocking b.control.flags)) (guard_pays b.control _ _ _ _)
  opened_rises (DataRead crc words) sum = plain_rises _ _ refl
  opened_rises (RegisterWrite crc address count) sum = plain_rises _ _ refl
  opened_rises (RegisterRead crc address count) sum = plain_rises _ _ refl
  opened_rises SoftReset sum = plain_rises _ _ refl

  effected_rises : (p : Phase) (e : Effects) (status : Bool) → is_unmarked p ≡ false → Tame b.control e.control
      → Rises b (effected b p e status)
  unfolding is_reset
  effected_rises p e status u t =
      quiet_rises _ t u (pick_keeps (λ (d : Deed). is_reset d ≡ false) e.clears_tx ClearAll Leave (λ h. refl) (λ h. refl))

  register_word_rises : (crc : Bool) (address got : ℕ) (p : Phase) (w : ℕ) → is_unmarked p ≡ false → Rises b (register_word b crc address got p w)
  unfolding register_word held_word with_write is_reset
  register_word_rises crc address got p w u =
      pick_keeps (Rises b) crc _ _ (λ h. quiet_rises _ (tame_same _) u refl)
      (λ h. effected_rises p _ false u (write_tame b.control _ (address + got) w))

  data_word_rises : (c : Command) (at : Progress) (w : ℕ) → (blocking b.control.flags && (is_forward c && not at.blocked)) ≡ false
      → Rises b (data_word b c at w)
  unfolding data_word forward_word is_unmarked
  data_word_rises Filler at w m = plain_rises _ _ refl
  data_word_rises Malformed at w m = plain_rises _ _ refl
  data_word_rises (Forward crc words ends reads) at w m =
      forwarded_rises _ _ _ m (guard_pays b.control _ _ _ _)
  data_word_rises (DataRead crc words) at w m = plain_rises _ _ refl
  data_word_rises (RegisterWrite crc address count) at w m = register_word_rises crc address at.got _ w refl
  data_word_rises (RegisterRead crc address count) at w m = plain_rises _ _ refl
  data_word_rises SoftReset at w m = plain_rises _ _ refl

  -- the CRC word
  wrong_rises : (crc : Bool) (mine : ℕ) → Rises b (wrong_crc b crc mine)
  unfolding wrong_crc is_reset is_unmarked raised blocking
  wrong_rises crc mine =
      pick_keeps (Rises b) crc _ _ (λ h. quiet_rises _ (tame_raised _ SpiCrc refl refl) refl refl) (λ h. quiet_rises _ (tame_raised _ SpiCrc refl refl) refl refl)

  forward_closed_rises : (crc : Bool) (words ends : ℕ) (reads blocked : Bool) → Rises b (forward_closed b crc words ends reads blocked)
  unfolding forward_closed is_unmarked
  forward_closed_rises crc words ends reads blocked =
      let y = guard_pays b.control blocked b.sending.tx.count b.sending.queue _ in
      record {
        otp = y.otp o;
        number = y.number;
        marked = and_none (blocking (forward_closed b crc words ends reads blocked).control.flags) _ refl;
        hears = λ h. or_left _ _ (y.hears h);
        resets = λ h. cc y.stands;
        layout = y.layout;
      }

  registers_closed_rises : (crc : Bool) (address count : ℕ) → Rises b (registers_closed b crc address count)
  unfolding registers_closed is_unmarked is_reset
  registers_closed_rises crc address count =
      pick_keeps (Rises b) crc _ _
      (λ h. effected_rises Idle _ true refl (write_all_tame b.control (no_effects b.control) _ address _ (tame_same _)))
      (λ h. quiet_rises _ (tame_same _) refl refl)

  read_closed_rises : (l : Layouts) (crc right : Bool) (reply : Reply) → Rises b (read_closed l b crc right reply)
  unfolding read_closed is_unmarked is_reset raised blocking
  read_closed_rises l crc right reply =
      pick_keeps (Rises b) right _ _ (λ h. plain_rises _ _ refl)
      (λ h. pick_keeps (Rises b) crc _ _ (λ k. quiet_rises _ (tame_raised _ SpiCrc refl refl) refl refl) (λ k. quiet_rises _ (tame_raised _ SpiCrc refl refl) refl refl))

  reset_closed_rises : Rises b (reset_closed b)
  unfolding reset_closed is_unmarked is_reset raised blocking
  reset_closed_rises =
      pick_keeps (Rises b) _ _ _
      (λ h. tame_rises _ (tame_same _) refl (λ e. refl))
      (λ h. quiet_rises _ (tame_raised _ Srst refl refl) refl refl)

  crc_due_rises : (l : Layouts) (c : Command) (mine : ℕ) (blocked right : Bool) → Rises b (crc_due l b c mine blocked right)
  unfolding crc_due is_unmarked
  crc_due_rises l Filler mine blocked right = plain_rises _ _ refl
  crc_due_rises l Malformed mine blocked right = plain_rises _ _ refl
  crc_due_rises l (Forward crc words ends reads) mine blocked right =
      pick_keeps (Rises b) right _ _ (λ h. forward_closed_rises crc words ends reads blocked) (λ h. wrong_rises crc mine)
  crc_due_rises l (DataRead crc words) mine blocked right = read_closed_rises l crc right _
  crc_due_rises l (RegisterWrite crc address count) mine blocked right =
      pick_keeps (Rises b) right _ _ (λ h. registers_closed_rises crc address count) (λ h. wrong_rises crc mine)
  crc_due_rises l (RegisterRead crc address count) mine blocked right = read_closed_rises l crc right _
  crc_due_rises l SoftReset mine blocked right =
      pick_keeps (Rises b) right _ _ (λ h. reset_closed_rises) (λ h. wrong_rises true mine)

  -- note 15 stops the present command's words
  empty_rises : (p : Phase) → is_unmarked p ≡ false → Rises b (answer_with b (raised_in b.control RxUvf) StopRx RxEmpty p no_answer)
  unfolding answer_with raised blocking is_reset stops
  empty_rises p u = record {
    otp = o;
    number = same_number refl refl;
    marked = and_none (blocking b.control.flags) _ u;
    hears = λ e. or_true (rxff b.control.flags);
    resets = λ e. cc;
    layout = refl;
  }

  -- the answer
  answered_rises : (l : Layouts) (reply : Reply) (sum x : ℕ) → Rises b (answered l b reply sum x)
  unfolding answered data_answered register_answered answer_with is_unmarked is_reset
  answered_rises l (Status v) sum x = quiet_rises _ (tame_same _) refl refl
  answered_rises l (Data left) sum x =
      pick_keeps (Rises b) _ _ _ (λ h. empty_rises _ refl) (λ h. quiet_rises _ (tame_same _) refl refl)
  answered_rises l (Registers address left) sum x = quiet_rises _ (tame_same _) refl refl
  answered_rises l Check sum x = quiet_rises _ (tame_same _) refl refl

  planned_in_rises : (l : Layouts) (p : Phase) (w x : ℕ) → (blocking b.control.flags && is_unmarked p) ≡ false → Rises b (planned_in l b p w x)
  unfolding planned_in is_unmarked
  planned_in_rises l Idle w x m = opened_rises _ _
  planned_in_rises l (Collecting command got sum mine released blocked) w x m =
      pick_keeps (Rises b) _ _ _ (λ h. data_word_rises command _ w m) (λ h. crc_due_rises l command mine blocked _)
  planned_in_rises l (Answering reply sum) w x m = answered_rises l reply sum x
  planned_in_rises l Discarding w x m = plain_rises _ _ refl

  -- chip select released
  cut_stands : (c : Command) (got mine : ℕ) (released : Bool) → is_reset (cut_deed c got mine released) ≡ false
  unfolding cut_deed is_reset
  cut_stands c got mine released =
      pick_keeps (λ (d : Deed). is_reset d ≡ false) released _ _
      (λ h. pick_keeps (λ (d : Deed). is_reset d ≡ false) _ ClearAll Leave (λ k. refl) (λ k. refl))
      (λ h. refl)

  released_in_rises : (p : Phase) → Rises b (released_in b p)
  unfolding released_in cut is_unmarked raised blocking
  released_in_rises Idle = plain_rises _ _ refl
  released_in_rises (Collecting command got sum mine released blocked) =
      quiet_rises _ (tame_raised _ SpiCs refl refl) refl (cut_stands command got mine released)
  released_in_rises (Answering reply sum) = plain_rises _ _ refl
  released_in_rises Discarding = plain_rises _ _ refl

pub planned_rises : (l : Layouts) (b : Bridge) (w x : ℕ) → ControlRules b.control b.receiving.rx.count b.frame.phase
    → Rises b (planned l b w x)
unfolding planned
planned_rises l b w x r = planned_in_rises b r.otp l b.frame.phase w x r.marked

pub released_rises : (b : Bridge) → ControlRules b.control b.receiving.rx.count b.frame.phase
    → Rises b (released_in b b.frame.phase)
released_rises b r = released_in_rises b r.otp b.frame.phase

-- 6. A plan carried out.

-- STATUS's answer is no open forward
concluded_marked : (l : Layouts) (xmodem status blocks : Bool) (c : Control) (p : Phase) → (blocks && is_unmarked p) ≡ false
    → (blocks && is_unmarked (concluded l xmodem status c p)) ≡ false
unfolding concluded is_unmarked
concluded_marked l xmodem status blocks c p m =
    pick_keeps (λ (q : Phase). (blocks && is_unmarked q) ≡ false) status _ p
    (λ h. pick_keeps (λ (q : Phase). (blocks && is_unmarked q) ≡ false) _ Idle _ (λ k. and_none blocks _ refl) (λ k. and_none blocks _ refl))
    (λ h. m)

pub performed_control : (l : Layouts) (b : Bridge) (clock : Clock) (p : Plan) → bad_word_sound b.control.flags ≡ true → Rises b p
    → ControlRules (performed l b clock p).control (performed l b clock p).receiving.rx.count (performed l b clock p).frame.phase
unfolding performed
performed_control l b clock p n r =
    settled_control p.control _ false _ r.otp (numbered_sound r.number n)
    (concluded_marked l b.frame.xmodem p.status (blocking p.control.flags) _ p.phase r.marked)
