-- A wait ends: within what is still to settle a call-up finds room, or all is sent. Assumes nothing.
use Rattle.std.specs.Prelude.{Err}
use mathlib.Core.Path.{◌≡◌, refl, ap, sym, ◌∙◌}
use mathlib.Core.Bool.{Bool, true, false}
use mathlib.Core.List.{List, [], ◌∷◌}
use Prim.Native.Nat.{ℕ, zero, suc, ◌+◌, ◌≤◌, ◌<◌}
use native.Mathlib.Omega.{arith}
use native.Mathlib.Decide.{ℕ_discrete}
use lib.ListN.{length}
use borrow.Author.Tests.{eq-eqb, le-leb, le-ltb, ne_eqb}
use Rattle.base.specs.Pick.{pick}
use Rattle.base.specs.Truth.{never}
use Rattle.command.specs.Layouts.{layouts}
use Rattle.state.specs.declared.Phase.TheVariants.{Idle}
use Rattle.state.specs.declared.Queue.{Queue}
use Rattle.state.specs.Queue.{in_use, places_in}
use Rattle.events.specs.declared.Event.{Event}
use Rattle.events.specs.declared.Event.TheVariants.{Tick}
use Rattle.kept.proofs.Fits.{layouts_fit}
use Rattle.kept.proofs.Sound.{facts_sound}
use Rattle.drain.proofs.Ticks.{remaining, sent_all}
use Rattle.bridge.specs.Runs.{Config, next, end_of}
use Rattle.bridge.proofs.Reached.{Obeys}
use Rattle.order.specs.Accepted.{plan_of, Log, came, accepts, collects, joined, settle, logged, log_by}
use Rattle.order.specs.Premises.{Premises}
use Rattle.callup.specs.Taken.{Open}
use Rattle.callup.proofs.Frame.{log_of}
use Rattle.verdict.specs.Verdicts.{last_slot, call_up_most, is_idle, is_ready, has_room, room_verdict, verdict_by, Taken}
use Rattle.verdict.specs.declared.Refusal.TheVariants.{NoRoom}
use Rattle.board.specs.Board.{verdict_of}
use Rattle.echoes.proofs.Ticks.{Tuned, Ticking, may_open, sout_is, send_rules}
use Rattle.echoes.proofs.Settling.{front, behind, to_settle, rests, Ticked, bit_due, tick_run, Empty, empties, length_behind}
use Rattle.chain.specs.Echo.{echo}
use Rattle.chain.specs.Chain.{Moment, back, filled, onward, ticked}
use Rattle.chain.specs.Waits.{met, Waiting, waiting, wait_of}
use Rattle.chain.specs.declared.Goal.{Goal}
use Rattle.chain.specs.declared.Goal.TheVariants.{Room, Sent}
use Rattle.forty.specs.Traces.{wait_events, under}
use Rattle.forty.proofs.Ring.{under_front, under_behind, length_under}

-- a moment in tune, on an open bridge
pub record InTune (m : Moment) : Type 0 where
  pub lag : ℕ
  pub tuned : Tuned m.at (under m.chain m.oldest) lag
  pub free : Open m.at

-- how many ticks it takes at most until all is sent and has come back
abbrev pub settling : (m : Moment) → InTune m → ℕ
settling m i = to_settle (remaining m.at.bridge.sending) i.lag (length m.chain)

-- a goal that is met once all has come back
abbrev pub Sure : Goal → Type 0
Sure goal = (m : Moment) (i : InTune m) → settling m i ≡ 0 → met goal m.at ≡ true

-- On an open bridge a call-up of a right form is taken, or finds no room.
ready_open : (c : Config) → Open c → is_ready c.bridge ≡ true
unfolding is_ready is_idle
ready_open c o = rw (may_open c o, o.idle_frame) refl

pub verdict_open : (c : Config) (slot n : ℕ) → Obeys c → Open c → slot ≤ last_slot → 1 ≤ n → n ≤ call_up_most
    → verdict_of c slot n ≡ pick (has_room c.bridge n) Taken (Err NoRoom)
unfolding verdict_by room_verdict pick
verdict_open c slot n o f s a b =
    rw (
      eq-eqb (length c.tx) 512 o.stores.tx_is,
      eq-eqb (length c.rx) 256 o.stores.rx_is,
      facts_sound c.bridge o.rules,
      le-ltb 39 slot s,
      ne_eqb n 0 (λ z. omega arith),
      le-ltb 30 n b,
      ready_open c f,
    ) refl

empty_unused : (q : Queue) → q.used ≡ 0 → in_use q ≡ 0
unfolding places_in
empty_unused q e = rw e refl

pub sure_room : (slot n : ℕ) → slot ≤ last_slot → 1 ≤ n → n ≤ call_up_most → Sure (Room slot n)
unfolding met has_room pick
sure_room slot n s a b m i z =
    let e : Empty layouts layouts_fit m.at _ i.lag i.tuned i.free
    = empties layouts layouts_fit m.at (under m.chain m.oldest) i.lag i.tuned i.free (rw (length_under m.chain m.oldest) z) in
    rw (
      verdict_open m.at slot n i.tuned.obeys i.free s a b,
      le-leb (in_use m.at.bridge.sending.queue + 2) 8 (omega (arith, empty_unused m.at.bridge.sending.queue e.none_used)),
      le-leb (m.at.bridge.sending.tx.count + n + 1) 512 (omega (arith, e.none_stored)),
    ) refl

-- nothing left to send
left_none : (left lag delay : ℕ) → to_settle left lag delay ≡ 0 → left ≡ 0
unfolding to_settle pick
left_none zero lag delay z = refl
left_none (suc left) lag delay z = absurd (omega (arith, rw (ne_eqb (suc left) 0 (λ e. omega arith)) at z))

pub sure_sent : Sure Sent
unfolding met
sure_sent m i z =
    let a : sent_all m.at.bridge.sending ≡ true
    = rests m.at.bridge.sending (send_rules layouts layouts_fit m.at _ i.lag i.tuned i.free) (left_none _ i.lag (length m.chain) z) in
    rw (may_open m.at i.free) a

-- The bit that goes out, by its definition and by the tick.
echo_is : (m : Moment) (i : InTune m) → echo layouts m.at ≡ bit_due layouts layouts_fit m.at (under m.chain m.oldest) i.lag i.tuned i.free
unfolding echo
echo_is m i = sout_is layouts layouts_fit m.at i.tuned.obeys i.free true

-- A tick, in tune again, with less to settle.
record TickedOn (m : Moment) (i : InTune m) : Type 0 where
  again : InTune (ticked m)
  ticks : Ticking layouts m.at (back m.chain m.oldest (echo layouts m.at))
  same_delay : length (ticked m).chain ≡ length m.chain
  less : settling (ticked m) again + 1 ≤ settling m i

ticked_on : (m : Moment) (i : InTune m) → 0 < settling m i → TickedOn m i
unfolding ticked
ticked_on m i h =
    let chain : List Bool = under m.chain m.oldest in
    let b : Bool = bit_due layouts layouts_fit m.at chain i.lag i.tuned i.free in
    let e : echo layouts m.at ≡ b = echo_is m i in
    let f : back m.chain m.oldest (echo layouts m.at) ≡ front chain b
    = under_front m.chain m.oldest (echo layouts m.at) ∙ ap (front chain) e in
    let g : under (filled m.chain m.oldest (echo layouts m.at)) (onward m.chain m.oldest) ≡ behind chain b
    = under_behind m.chain m.oldest (echo layouts m.at) ∙ ap (behind chain) e in
    let n : length chain ≡ length m.chain = length_under m.chain m.oldest in
    let d : length (filled m.chain m.oldest (echo layouts m.at)) ≡ length m.chain
    = sym (length_under (filled m.chain m.oldest (echo layouts m.at)) (onward m.chain m.oldest)) ∙ ap length g ∙ length_behind chain b ∙ n in
    let t : Ticked layouts m.at chain b (remaining m.at.bridge.sending) i.lag
    = tick_run layouts layouts_fit m.at chain i.lag i.tuned i.free (rw n h) in
    record {
      again = record { lag = t.later; tuned = rw (f, g) t.tuned; free = rw f t.ticks.still_open };
      ticks = rw f t.ticks;
      same_delay = d;
      less = rw (f, d) (rw n at t.less);
    }

-- What a wait leaves, v, and its ticks.
pub record Waited (goal : Goal) (w : Waiting) (i : InTune w.moment) (v : Waiting) (es : List Event) : Type 0 where
  pub is_met : met goal v.moment.at ≡ true
  pub there : InTune v.moment
  pub same_delay : length v.moment.chain ≡ length w.moment.chain
  pub cost : settling v.moment there + v.ticks ≤ settling w.moment i + w.ticks
  pub end_is : end_of layouts w.moment.at es ≡ v.moment.at
  pub premises : Premises layouts w.moment.at es
  pub log : (D : List (List ℕ)) → log_by layouts (log_of D []) w.moment.at es ≡ log_of D []

-- outside of a frame a tick leaves the log
log_tick : (c : Config) (sin : Bool) (D : List (List ℕ)) → c.bridge.frame.phase ≡ Idle → logged (log_of D []) (plan_of layouts c (Tick sin)) ≡ log_of D []
unfolding plan_of logged came accepts settle collects joined
log_tick c sin D e = rw e refl

module _ (goal : Goal) (w : Waiting) (i : InTune w.moment) where
  waited_now : met goal w.moment.at ≡ true → Waited goal w i w []
  unfolding end_of log_by
  waited_now h = record { is_met = h; there = i; same_delay = refl; cost = omega arith; end_is = refl; premises = tt; log = λ D. refl }

  abbrev onwards : Waiting
  onwards = waiting (ticked w.moment) (w.ticks + 1) (echo layouts w.moment.at)

  abbrev sin : Bool
  sin = back w.moment.chain w.moment.oldest (echo layouts w.moment.at)

  waited_more : (t : TickedOn w.moment i) (v : Waiting) (es : List Event) → Waited goal onwards t.again v es → Waited goal w i v (Tick sin ∷ es)
  unfolding ticked end_of log_by
  waited_more t v es r =
      record {
        is_met = r.is_met;
        there = r.there;
        same_delay = r.same_delay ∙ t.same_delay;
        cost = omega (arith, r.cost, t.less);
        end_is = r.end_is;
        premises = (t.ticks.fair, r.premises);
        log = λ D.
            ap (λ (g : Log). log_by layouts g (next layouts w.moment.at (Tick sin)) es) (log_tick w.moment.at sin D i.free.idle_frame) ∙ r.log D;
      }

  -- by the first test
  by_test : (budget : ℕ) (t : Bool) → met goal w.moment.at ≡ t → (t ≡ true → Waited goal w i w [])
      → (t ≡ false → Waited goal w i (wait_of budget goal onwards) (Tick sin ∷ wait_events budget goal (ticked w.moment)))
      → Waited goal w i (wait_of (suc budget) goal w) (wait_events (suc budget) goal w.moment)
  unfolding wait_of wait_events pick
  by_test budget true h a b = rw h (a refl)
  by_test budget false h a b = rw h (b refl)

pub wait_run : (budget : ℕ) (goal : Goal) (w : Waiting) (i : InTune w.moment) → Sure goal → settling w.moment i ≤ budget
    → Waited goal w i (wait_of budget goal w) (wait_events budget goal w.moment)
wait_run zero goal w i s h = unfold wait_of wait_events in waited_now goal w i (s w.moment i (omega arith))
wait_run (suc budget) goal w i s h =
    by_test goal w i budget (met goal w.moment.at) refl (λ t. waited_now goal w i t)
    (λ t. let o : TickedOn w.moment i = ticked_on w.moment i (unmet t) in
    waited_more goal w i o _ _ (wait_run budget goal (onwards goal w i) o.again s (omega (arith, o.less))))
  where
    unmet : met goal w.moment.at ≡ false → 0 < settling w.moment i
    unmet t = elim (ℕ_discrete (settling w.moment i) 0) [ yes z ↦ never _ (s w.moment i z) t | no z ↦ omega arith ]
