-- A shift of call-ups that may be taken ends: all are taken and sent, within the budget of their words and the chain's delay. Assumes nothing.
use Rattle.std.specs.Prelude.{Err}
use mathlib.Core.Path.{◌≡◌, refl, ap, ap₂, sym, ◌∙◌}
use mathlib.Core.Bool.{Bool, true, false, not, ◌&&◌}
use mathlib.Core.List.{List, [], ◌∷◌, ◌++◌, append_assoc, append-nil}
use Prim.Native.Nat.{ℕ, suc, ◌+◌, ◌-◌, ◌*◌, ◌≤◌}
use native.Mathlib.Omega.{arith}
use lib.Dec.{ltb, eqb}
use lib.ListN.{length}
use borrow.Author.Tests.{ne_eqb, eqb-true, ltb-false, not-true}
use Rattle.base.specs.Pick.{pick, pick_keeps, and_l, and_r}
use Rattle.base.specs.Truth.{never}
use Rattle.command.specs.Layouts.{layouts}
use Rattle.state.specs.Sending.{idle}
use Rattle.events.specs.declared.Event.{Event}
use Rattle.kept.proofs.Fits.{layouts_fit}
use Rattle.drain.proofs.Ticks.{remaining}
use Rattle.bridge.specs.Runs.{Config, end_of, AllSent}
use Rattle.bridge.proofs.Reached.{Obeys}
use Rattle.order.specs.Accepted.{Log, log_by}
use Rattle.order.specs.Premises.{Premises}
use Rattle.verdict.specs.Verdicts.{last_slot, call_up_most, has_room, is_no_room, Taken}
use Rattle.verdict.specs.declared.Refusal.TheVariants.{NoRoom}
use Rattle.callup.specs.CallUp.{vsync, call_up_to, pairs, ticks_for}
use Rattle.callup.specs.Taken.{Open, Takes}
use Rattle.callup.proofs.Taken.{Taken as CallTaken}
use Rattle.callup.proofs.Frame.{log_of}
use Rattle.callup.proofs.CallUp.{end_append, log_append, premises_append, layouts_speak, taken}
use Rattle.board.specs.Board.{showing, verdict_of, taken_of, call_up_of}
use Rattle.board.proofs.Taking.{taken_takes}
use Rattle.echoes.proofs.Ticks.{Tuned, may_open}
use Rattle.echoes.proofs.Settling.{to_settle}
use Rattle.echoes.proofs.Calling.{tuned_called, more_left}
use Rattle.chain.specs.Chain.{Moment}
use Rattle.chain.specs.Waits.{met, Waiting, waiting, wait_from}
use Rattle.chain.specs.declared.Goal.TheVariants.{Room, Sent}
use Rattle.shift.specs.Shifts.{Due, Shifting, offer_of, next_offer, shift_from}
use Rattle.forty.specs.Traces.{wait_events, offer_events, shift_events, under}
use Rattle.forty.specs.Ends.{budget_for, Right, AllRight, words_of, board_after}
use Rattle.forty.proofs.Waits.{InTune, settling, Waited, verdict_open, sure_room, sure_sent, wait_run}

-- what is still to settle with a call-up more
settle_more : (left lag delay n : ℕ) → to_settle (left + suc n) lag delay ≤ to_settle left lag delay + suc n + delay
unfolding to_settle pick
settle_more left lag delay n =
    rw (ne_eqb (left + suc n) 0 (λ z. omega arith))
    (pick_keeps (λ (m : ℕ). left + suc n + delay ≤ m + suc n + delay) (eqb left 0) lag (left + delay) (λ z. zero_left z) (λ z. omega arith))
  where
    zero_left : eqb left 0 ≡ true → left + suc n + delay ≤ lag + suc n + delay
    zero_left z = let e : left ≡ 0 = eqb-true left 0 z in omega arith

-- on an open bridge, where it is not for want of room, it is taken
met_taken : (c : Config) (slot n : ℕ) → Obeys c → Open c → slot ≤ last_slot → 1 ≤ n → n ≤ call_up_most → met (Room slot n) c ≡ true → verdict_of c slot n ≡ Taken
unfolding met pick
met_taken c slot n o f s a b h =
    let v : verdict_of c slot n ≡ pick (has_room c.bridge n) Taken (Err NoRoom) = verdict_open c slot n o f s a b in
    v ∙ roomy (has_room c.bridge n) (rw v at h)
  where
    roomy : (t : Bool) → not (is_no_room (pick t Taken (Err NoRoom))) ≡ true → pick t Taken (Err NoRoom) ≡ Taken
    roomy true k = refl
    roomy false k = never false k refl

-- One call-up of a shift.
module _ (d : Due) (s : Shifting) (i : InTune s.moment) (budget : ℕ) (may : Right d) (h : settling s.moment i ≤ budget - s.ticks) where
  abbrev ws : List ℕ
  ws = d.words

  abbrev w : Waiting
  w = wait_from (budget - s.ticks) (Room d.slot (length ws)) s.moment

  abbrev es : List Event
  es = wait_events (budget - s.ticks) (Room d.slot (length ws)) s.moment

  abbrev c : Config
  c = w.moment.at

  has_waited : Waited (Room d.slot (length ws)) (waiting s.moment 0 true) i w es
  has_waited =
      wait_run (budget - s.ticks) (Room d.slot (length ws)) (waiting s.moment 0 true) i
      (sure_room d.slot (length ws) may.in_board may.some may.most) h

  is_taken : verdict_of c d.slot (length ws) ≡ Taken
  is_taken =
      met_taken c d.slot (length ws) has_waited.there.tuned.obeys has_waited.there.free may.in_board may.some may.most has_waited.is_met

  takes_it : Takes c ws
  takes_it = taken_takes c d.slot ws may.sixteen (rw is_taken refl)

  took : (D : List (List ℕ)) → CallTaken layouts c (log_of D []) ws
  took D = taken layouts layouts_fit layouts_speak c D ws has_waited.there.tuned.obeys takes_it

  abbrev after : Moment
  after = record { at = end_of layouts c (call_up_to c ws); chain = w.moment.chain; oldest = w.moment.oldest }

  offer_is : next_offer d s budget ≡ record { board = showing s.board d.slot d.reading ws; moment = after; verdict = Taken; ticks = w.ticks }
  unfolding offer_of call_up_of taken_of pick
  offer_is = rw is_taken refl

  -- the call-up's place in the way of the shift
  pub record Called : Type 0 where
    pub there : InTune after
    pub cost : settling after there + w.ticks ≤ settling s.moment i + ticks_for (length ws) + length s.moment.chain
    pub same_delay : length after.chain ≡ length s.moment.chain
    pub end_is : end_of layouts s.moment.at (es ++ call_up_to c ws) ≡ after.at
    pub premises : Premises layouts s.moment.at (es ++ call_up_to c ws)
    pub log : (D : List (List ℕ)) → log_by layouts (log_of D []) s.moment.at (es ++ call_up_to c ws) ≡ log_of (D ++ (ws ∷ (vsync ∷ []) ∷ [])) []

  pub called : Called
  called =
      let k : CallTaken layouts c (log_of [] []) ws = took [] in
      let v : Waited (Room d.slot (length ws)) (waiting s.moment 0 true) i w es = has_waited in
      let t : Tuned after.at (under after.chain after.oldest) v.there.lag
      = tuned_called layouts c (log_of [] []) ws k takes_it (under after.chain after.oldest) v.there.lag v.there.tuned in
      let m : remaining after.at.bridge.sending ≡ remaining c.bridge.sending + ticks_for (length ws)
      = more_left layouts c (log_of [] []) ws k takes_it v.there.tuned.obeys in
      let x : suc (54 + 17 * length ws) ≡ ticks_for (length ws) = omega arith in
      let f : Open after.at = record {
        normal = k.same.mode ∙ v.there.free.normal;
        clear = ap (λ g. g.por) k.same.flags ∙ v.there.free.clear;
        unblocked = rw k.same.flags v.there.free.unblocked;
        idle_frame = k.idle_frame;
      } in
      record {
        there = record { lag = v.there.lag; tuned = t; free = f };
        cost =
            omega (
              arith,
              rw (x, ← m) at (settle_more (remaining c.bridge.sending) v.there.lag (length w.moment.chain) (54 + 17 * length ws)),
              v.cost,
              v.same_delay,
            );
        same_delay = v.same_delay;
        end_is = end_append layouts s.moment.at es (call_up_to c ws) ∙ ap (λ (y : Config). end_of layouts y (call_up_to c ws)) v.end_is;
        premises = premises_append layouts s.moment.at es (call_up_to c ws) v.premises (rw v.end_is k.premises);
        log = λ D.
            log_append layouts (log_of D []) s.moment.at es (call_up_to c ws)
            ∙ ap₂ (λ (g : Log) (y : Config). log_by layouts g y (call_up_to c ws)) (v.log D) v.end_is ∙ (took D).log;
      }

-- What a shift leaves, r, and its events.
pub record Ran (ds : List Due) (s : Shifting) (i : InTune s.moment) (r : Shifting) (es : List Event) : Type 0 where
  pub verdict_is : r.verdict ≡ Taken
  pub taken_is : r.taken ≡ s.taken + length ds
  pub in_time : r.ticks ≤ settling s.moment i + s.ticks + budget_for (length s.moment.chain) ds
  pub board_is : r.board ≡ board_after s.board ds
  pub there : InTune r.moment
  pub all_sent : AllSent r.moment.at.bridge.sending
  pub end_is : end_of layouts s.moment.at es ≡ r.moment.at
  pub premises : Premises layouts s.moment.at es
  pub log : (D : List (List ℕ)) → log_by layouts (log_of D []) s.moment.at es ≡ log_of (D ++ pairs (words_of ds)) []

-- all sent, by the test of a wait
sent_all_lem : (m : Moment) → InTune m → met Sent m.at ≡ true → AllSent m.at.bridge.sending
unfolding met
sent_all_lem m i h =
    let s = m.at.bridge.sending in
    let k : (idle s.sender && not (ltb s.queue.begun s.queue.used)) ≡ true = rw (may_open m.at i.free) at h in
    let b : ltb s.queue.begun s.queue.used ≡ false = not-true _ (and_r (idle s.sender) _ k) in
    let u : s.queue.used ≤ s.queue.begun = ltb-false _ _ b in
    record { idle_sender = and_l _ _ k; none_waits = omega (arith, u, i.tuned.obeys.rules.sending.queue.order) }

ran_last : (s : Shifting) (i : InTune s.moment) (budget : ℕ) → settling s.moment i + s.ticks ≤ budget
    → Ran [] s i (shift_from [] s budget) (shift_events [] s budget)
unfolding shift_from shift_events board_after words_of pairs budget_for
ran_last s i budget h =
    let v = wait_run (budget - s.ticks) Sent (waiting s.moment 0 true) i sure_sent (omega arith) in
    record {
      verdict_is = refl;
      taken_is = omega arith;
      in_time = omega (arith, v.cost);
      board_is = refl;
      there = v.there;
      all_sent = sent_all_lem _ v.there v.is_met;
      end_is = v.end_is;
      premises = v.premises;
      log = λ D. v.log D ∙ ap (λ (X : List (List ℕ)). log_of X []) (sym (append-nil D));
    }

module _ (d : Due) (ds : List Due) (s : Shifting) (i : InTune s.moment) (budget : ℕ) (may : Right d) (h : settling s.moment i ≤ budget - s.ticks) where
  abbrev o : Called d s i budget may h
  o = called d s i budget may h

  -- the shift so far, this call-up taken
  abbrev further : Shifting
  further = record {
    board = showing s.board d.slot d.reading d.words;
    moment = after d s i budget may h;
    verdict = Taken;
    taken = s.taken + 1;
    ticks = s.ticks + (w d s i budget may h).ticks;
  }

  from_is : shift_from (d ∷ ds) s budget ≡ shift_from ds further budget
  unfolding shift_from pick
  from_is = rw (offer_is d s i budget may h) refl

  events_are : shift_events (d ∷ ds) s budget ≡ (es d s i budget may h ++ call_up_to (c d s i budget may h) d.words) ++ shift_events ds further budget
  unfolding shift_events offer_events pick
  events_are = rw (offer_is d s i budget may h) refl

  ran_more : Ran ds further o.there (shift_from ds further budget) (shift_events ds further budget)
      → Ran (d ∷ ds) s i (shift_from (d ∷ ds) s budget) (shift_events (d ∷ ds) s budget)
  unfolding board_after words_of pairs budget_for
  ran_more r =
      let x : List Event = es d s i budget may h ++ call_up_to (c d s i budget may h) d.words in
      let y : List Event = shift_events ds further budget in
      let a : Config = s.moment.at in
      rw (from_is, events_are)
      (record {
        verdict_is = r.verdict_is;
        taken_is = omega (arith, r.taken_is);
        in_time = omega (arith, r.in_time, o.cost, ap (λ (n : ℕ). budget_for n ds) o.same_delay);
        board_is = r.board_is;
        there = r.there;
        all_sent = r.all_sent;
        end_is = end_append layouts a x y ∙ ap (λ (z : Config). end_of layouts z y) o.end_is ∙ r.end_is;
        premises = premises_append layouts a x y o.premises (rw o.end_is r.premises);
        log = λ D.
            log_append layouts (log_of D []) a x y
            ∙ ap₂ (λ (g : Log) (z : Config). log_by layouts g z y) (o.log D) o.end_is ∙ r.log (D ++ (d.words ∷ (vsync ∷ []) ∷ []))
            ∙ ap (λ (X : List (List ℕ)). log_of X []) (append_assoc D (d.words ∷ (vsync ∷ []) ∷ []) (pairs (words_of ds)));
      })

pub shift_run : (ds : List Due) (s : Shifting) (i : InTune s.moment) (budget : ℕ) → AllRight ds
    → settling s.moment i + s.ticks + budget_for (length s.moment.chain) ds ≤ budget
    → Ran ds s i (shift_from ds s budget) (shift_events ds s budget)
unfolding budget_for
shift_run [] s i budget a h = ran_last s i budget (omega arith)
shift_run (d ∷ ds) s i budget a h =
    let k : settling s.moment i ≤ budget - s.ticks = omega arith in
    let u = called d s i budget a.0 k in
    ran_more d ds s i budget a.0 k
    (shift_run ds (further d ds s i budget a.0 k) u.there budget a.1
    (omega (arith, u.cost, ap (λ (n : ℕ). budget_for n ds) u.same_delay)))
