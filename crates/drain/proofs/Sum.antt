-- Draining takes as many ticks as 01 says (01 The line, "Draining": "it is the sum over queued commands of 19 + 17 x words + 18 x extra ENDs,
-- 18 x extra ENDs where there are no words"). Each tick sends one bit of what remains, and at rest none does. Assumes nothing.
use mathlib.Core.Path.{◌≡◌, refl, sym, ◌∙◌, subst}
use mathlib.Core.Bool.{Bool, true, false}
use mathlib.Core.List.{List}
use Prim.Native.Nat.{ℕ, zero, suc, ◌+◌, ◌≤◌}
use native.Mathlib.Omega.{arith}
use lib.Dec.{eqb}
use borrow.Author.Tests.{leb-true, eqb-true, eq-eqb}
use Rattle.base.specs.Pick.{pick, pick_keeps, and_l, and_r}
use Rattle.command.specs.Layouts.{Layouts}
use Rattle.line.specs.Format.{piece_length}
use Rattle.line.specs.Reader.{hear}
use Rattle.line.specs.declared.Ear.TheVariants.{Quiet}
use Rattle.registers.specs.Registers.{blocking}
use Rattle.registers.specs.Raising.{raised}
use Rattle.registers.specs.declared.Flags.{Flags}
use Rattle.state.specs.Frame.{mine_of, to_come}
use Rattle.state.specs.Notes.{note_number}
use Rattle.state.specs.Rings.{oldest}
use Rattle.state.specs.Sending.{idle}
use Rattle.state.specs.declared.Bridge.{Bridge}
use Rattle.state.specs.declared.Note.{Note}
use Rattle.state.specs.declared.Note.TheVariants.{Done}
use Rattle.state.specs.declared.Queue.{Queue}
use Rattle.state.specs.declared.Receiving.{Receiving}
use Rattle.next.specs.Next.{may_start}
use Rattle.sender.specs.Sender.{tick_sender}
use Rattle.sender.specs.declared.Sent.{Sent}
use Rattle.reader.specs.Reader.{with_ear, taken, taken_by, tick_reader}
use Rattle.plan.specs.Plan.{settled}
use Rattle.kept.specs.Rules.{SendRules, BridgeRules}
use Rattle.kept.proofs.Sound.{sound_facts}
use Rattle.ticks.specs.Ticks.{starved_flags, flags_sent, phase_after, control_ticked, tick_note, tick_ends, tick_hears, ticked}
use Rattle.events.specs.Events.{reacted}
use Rattle.events.specs.Turn.{Out, turned, turn}
use Rattle.events.proofs.Ticks.{tick_keeps}
use Rattle.drain.specs.Drain.{End, at_rest, tick_on, run_of, drain}
use Rattle.drain.specs.Cost.{ticks_due, Calm, Accepted, Rests}
use Rattle.base.specs.Truth.{never}
use Rattle.drain.proofs.Ticks.{remaining, sent_all, falls, rest_none}

-- A 1 on a quiet line changes nothing of the reader, the queue and the flags.
quiet_taken : (r : Receiving) (q : Queue) (f : Flags) → r.reader.ear ≡ Quiet → tick_reader r q f true ≡ taken (with_ear r Quiet) q f false
unfolding tick_reader taken_by hear pick
quiet_taken r q f e = rw e refl

-- The flags that a fed tick may raise hold no start back.
flags_fed : (f : Flags) (s : Sent) → s.starved ≡ false → ((flags_sent f s).por ≡ f.por) × (blocking (flags_sent f s) ≡ blocking f)
unfolding flags_sent starved_flags raised blocking pick
flags_fed f s e = rw e (pick_keeps (λ (g : Flags). (g.por ≡ f.por) × (blocking g ≡ blocking f)) s.differs _ _ (λ d. (refl, refl)) (λ d. (refl, refl)))

-- what every tick of the run keeps
pub record Steady (b : Bridge) : Type 0 where
  pub rules : BridgeRules b
  pub may : may_start b.control ≡ true
  pub quiet : b.receiving.reader.ear ≡ Quiet
  pub stored : to_come b.frame.phase ≡ 0

-- a tick that sends one bit of what remains, with no note
record Goes (b a : Bridge) (n : Note) : Type 0 where
  steady : Steady a
  less : remaining a.sending + 1 ≡ remaining b.sending
  note : n ≡ Done

module _ (b : Bridge) (v : Steady b) where
  -- with a start allowed, at rest is all sent
  rest_is : at_rest b ≡ sent_all b.sending
  rest_is = rw v.may

  send : SendRules b.sending 0 (mine_of b.frame.phase)
  send = rw v.stored at v.rules.sending

  goes : (w : ℕ) → at_rest b ≡ false → Goes b (ticked b true w).bridge (ticked b true w).note
  unfolding ticked tick_hears tick_ends control_ticked settled phase_after tick_note pick
  goes w g =
      let s : Sent = tick_sender b.sending (may_start b.control) w in
      let f : (s.starved ≡ false) × (remaining s.sending + 1 ≡ remaining b.sending)
      = rw v.may (falls b.sending w _ send (sym rest_is ∙ g)) in
      let t : tick_reader b.receiving s.sending.queue (flags_sent b.control.flags s) true
      ≡ taken (with_ear b.receiving Quiet) s.sending.queue (flags_sent b.control.flags s) false
      = quiet_taken b.receiving s.sending.queue (flags_sent b.control.flags s) v.quiet in
      let k : ((flags_sent b.control.flags s).por ≡ b.control.flags.por) × (blocking (flags_sent b.control.flags s) ≡ blocking b.control.flags)
      = flags_fed b.control.flags s f.0 in
      record {
        steady = record {
          rules = tick_keeps b true w v.rules;
          may = rw (t, k.1, k.0) v.may;
          quiet = rw t refl;
          stored = rw f.0 v.stored;
        };
        less = rw t f.1;
        note = rw (t, f.0) refl;
      }

  -- nothing remains, so it is at rest
  none_rests : remaining b.sending ≤ 0 → at_rest b ≡ true
  none_rests h = go (at_rest b) refl
    where
      go : (t : Bool) → at_rest b ≡ t → t ≡ true
      go true e = refl
      go false e = absurd (omega (arith, (goes 0 e).less))

turn_goes : (l : Layouts) (b : Bridge) (tx rx : List ℕ) → Steady b → at_rest b ≡ false
    → Goes b (tick_on l b tx rx).answer.state (tick_on l b tx rx).answer.note
unfolding turn turned reacted
turn_goes l b tx rx v g = goes b v (oldest tx b.sending.tx) g

runs : (l : Layouts) (budget ticks : ℕ) (b : Bridge) (tx rx : List ℕ) → Steady b → remaining b.sending ≤ budget
    → Rests (run_of l budget ticks b tx rx) (ticks + remaining b.sending)
unfolding run_of
runs l zero ticks b tx rx v h = record { ticks = omega arith; note = refl; rest = none_rests b v h }
runs l (suc budget) ticks b tx rx v h =
    pick_keeps Whole _ _ _
    (λ t. let z : remaining b.sending ≡ 0 = rest_none b.sending 0 _ (send b v) (sym (rest_is b v) ∙ t) in
    record { ticks = omega arith; note = refl; rest = t })
    (λ t. let g : Goes b o.answer.state o.answer.note = turn_goes l b tx rx v t in
    let m : ticks + 1 + remaining o.answer.state.sending ≡ ticks + remaining b.sending = omega (arith, g.less) in
    pick_keeps Whole _ _ _
    (λ n. subst (Rests (run_of l budget (ticks + 1) o.answer.state o.tx o.rx)) m
    (runs l budget (ticks + 1) o.answer.state o.tx o.rx g.steady (omega (arith, g.less))))
    (λ n. never (eqb (note_number o.answer.note) 0) (rw g.note refl) n))
  where
    Whole : End → Type 0
    Whole e = Rests e (ticks + remaining b.sending)

    o : Out
    o = tick_on l b tx rx

idle_remaining : (b : Bridge) → Calm b → remaining b.sending ≡ ticks_due b
unfolding remaining
idle_remaining b c =
    let i : idle b.sending.sender ≡ true = c.sender in
    let o : piece_length b.sending.sender.piece ≤ b.sending.sender.gone = leb-true _ _ (search (and_l, and_r)) in
    let z : b.sending.sender.left ≡ 0 = eqb-true _ _ (search (and_l, and_r)) in
    let y : b.sending.sender.ends ≡ 0 = eqb-true _ _ (search (and_l, and_r)) in
    omega arith

-- "with neither note 1 nor 2 due and budget enough, it is the sum over queued commands"
pub drained_sum : (l : Layouts) (b : Bridge) (tx rx : List ℕ) (budget : ℕ) → Calm b → Accepted b tx rx → ticks_due b ≤ budget
    → Rests (drain l b tx rx budget) (ticks_due b)
unfolding drain pick
drained_sum l b tx rx budget c a h =
    let v : Steady b = record {
      rules = sound_facts b a.rules a.eight;
      may = rw (c.unblocked, c.clear, c.normal) refl;
      quiet = c.reader;
      stored = c.stored;
    } in
    let e : 0 + remaining b.sending ≡ ticks_due b = omega (arith, idle_remaining b c) in
    let r : Rests (run_of l budget 0 b tx rx) (ticks_due b) = rw e at (runs l budget 0 b tx rx v (omega arith)) in
    rw (eq-eqb _ _ a.tx_length, eq-eqb _ _ a.rx_length, a.rules) r
