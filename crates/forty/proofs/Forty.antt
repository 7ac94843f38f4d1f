-- Each part of what was asked, by the theorem behind it. Assumes nothing.
use Rattle.std.specs.Prelude.{Err}
use mathlib.Core.Path.{◌≡◌, refl, ap, ap₂, sym, ◌∙◌, subst}
use mathlib.Core.Bool.{Bool, true, false}
use mathlib.Core.List.{List, [], ◌++◌}
use Prim.Native.Nat.{ℕ, ◌≤◌, ◌+◌}
use native.Mathlib.Omega.{arith}
use lib.Dec.{ltb, eqb}
use lib.ListN.{length}
use borrow.Author.Tests.{eq-eqb, eqb-true, le-ltb, lt-ltb, ne_eqb}
use Rattle.layout.specs.declared.Layout.{Layout}
use Rattle.base.specs.Pick.{pick, pick_keeps}
use Rattle.command.specs.Layouts.{layouts}
use Rattle.line.specs.Format.{Words}
use Rattle.rules.specs.Sound.{sound}
use Rattle.state.specs.declared.Queue.{Queue}
use Rattle.state.specs.Queue.{new_place, queued, in_use}
use Rattle.events.specs.declared.Event.{Event}
use Rattle.kept.proofs.Fits.{layouts_fit}
use Rattle.kept.proofs.Queue.{eight_queued}
use Rattle.bridge.specs.Runs.{Config, RightStores, Whole, end_of, sout_of, power_on}
use Rattle.bridge.proofs.Reached.{Obeys, obeys_whole, run_obeys, power_obeys}
use Rattle.order.specs.Accepted.{Log, no_log, joined, log_by, listed, accepted_in}
use Rattle.order.specs.Exactly.{Whole as WholeLine}
use Rattle.order.specs.Premises.{Premises}
use Rattle.order.proofs.Steps.{Between}
use Rattle.order.proofs.Order.{between_run, between_power, exactly_all, all_sent}
use Rattle.verdict.specs.Verdicts.{last_slot, call_up_most, has_room, room_verdict, verdict_by, is_taken, is_broken, Verdict, Taken}
use Rattle.verdict.specs.declared.Refusal.TheVariants.{WrongStores, BrokenRecord, NoSlot, WrongLength, NoRoom}
use Rattle.verdict.proofs.Taking.{Finds, taken_facts}
use Rattle.callup.specs.CallUp.{call_up_to, pairs}
use Rattle.callup.specs.Taken.{Takes}
use Rattle.callup.proofs.Taken.{Taken as CallTaken}
use Rattle.callup.proofs.Frame.{log_of, one_more}
use Rattle.callup.proofs.CallUp.{end_append, log_append, premises_append, layouts_speak, taken}
use Rattle.board.specs.Board.{called, verdict_of, refused_in, taken_of, call_up_of, slot_of, showing}
use Rattle.board.specs.declared.Board.{Board}
use Rattle.board.proofs.Taking.{taken_takes, takes_taken, slot_words, slot_last, slot_other}
use Rattle.nights.proofs.Nights.{at_idle, night_shown}
use Rattle.chain.specs.Chain.{Moment}
use Rattle.shift.specs.Shifts.{Due, Shifting, shifting, cells_of, first_verdict, shift_from, shift_of}
use Rattle.shift.proofs.Lists.{dues_cells}
use Rattle.forty.specs.Traces.{shift_events}
use Rattle.forty.specs.Ends.{budget_for, AllRight, AtRest, words_of, AllTaken, LineShows}
use Rattle.forty.specs.Forty.{TakenRight, InOrder, CallUpBoard}
use Rattle.forty.proofs.Waits.{verdict_open}
use Rattle.forty.proofs.Shifts.{Ran, shift_run}
use Rattle.forty.proofs.Counting.{gives_back, shift_counted, shift_given, ticks_given}
use Rattle.forty.proofs.Rest.{rest_in_tune, rest_settled}

taken_when : (board : Board) (c : Config) (slot reading : ℕ) (ws : List ℕ) → Whole c → slot ≤ last_slot → Takes c ws
    → call_up_of board c slot reading ws
    ≡ called (record { board = showing board slot reading ws; bridge = (end_of layouts c (call_up_to c ws)).bridge; verdict = Taken }) (end_of layouts c (call_up_to c ws)).tx
    (end_of layouts c (call_up_to c ws)).rx
unfolding call_up_of taken_of pick
taken_when board c slot reading ws w s t = rw (takes_taken c slot ws (obeys_whole c w) s t) refl

taken_only : (c : Config) (slot : ℕ) (ws : List ℕ) → Words ws → is_taken (verdict_of c slot (length ws)) ≡ true
    → RightStores c.tx c.rx × ((sound c.bridge ≡ true) × ((slot ≤ last_slot) × Takes c ws))
taken_only c slot ws w h =
    let f : Finds (length c.tx) (length c.rx) c.bridge slot (length ws) = taken_facts _ _ c.bridge slot (length ws) h in
    (record { tx_is = f.tx_is; rx_is = f.rx_is }, (f.sound_record, (f.in_board, taken_takes c slot ws w h)))

both_more : (q : Queue) (n : ℕ) → in_use q + 2 ≤ 8 → length q.places ≡ 8
    → in_use (queued (queued q (new_place n 0 false)) (new_place 1 0 false)) ≡ in_use q + 2
both_more q n h l =
    let a : in_use (queued q (new_place n 0 false)) ≡ in_use q + 1 = one_more q n (omega arith) l in
    omega (arith, one_more (queued q (new_place n 0 false)) 1 (omega arith) (eight_queued q (new_place n 0 false) l))

taken_right : (c : Config) (ws : List ℕ) → Whole c → Takes c ws → TakenRight c ws
taken_right c ws w t =
    let k : CallTaken layouts c (log_of [] []) ws = taken layouts layouts_fit layouts_speak c [] ws (obeys_whole c w) t in
    record {
      notes = k.notes;
      two_places = ap (λ (q : Queue). in_use q) k.queue ∙ both_more c.bridge.sending.queue (length ws) t.two_places (obeys_whole c w).rules.sending.eight;
      words_more = k.count;
      no_frame = k.idle_frame;
      same = k.same;
    }

refused : (board : Board) (c : Config) (slot reading : ℕ) (ws : List ℕ) → is_taken (verdict_of c slot (length ws)) ≡ false
    → call_up_of board c slot reading ws ≡ refused_in board c (verdict_of c slot (length ws))
unfolding call_up_of pick
refused board c slot reading ws h = rw h refl

-- One refusal after the other.
module _ (c : Config) (slot n : ℕ) where
  wrong_stores : (RightStores c.tx c.rx → ⊥) → verdict_of c slot n ≡ Err WrongStores
  unfolding verdict_by
  wrong_stores h =
      pick_keeps (λ (v : Verdict). v ≡ Err WrongStores) (eqb (length c.tx) 512) _ _
      (λ t. pick_keeps (λ (v : Verdict). v ≡ Err WrongStores) (eqb (length c.rx) 256) _ _
      (λ r. absurd (h (record { tx_is = eqb-true _ _ t; rx_is = eqb-true _ _ r }))) (λ r. refl)) (λ t. refl)

  broken_record : RightStores c.tx c.rx → sound c.bridge ≡ false → verdict_of c slot n ≡ Err BrokenRecord
  unfolding verdict_by pick
  broken_record s h = rw (eq-eqb (length c.tx) 512 s.tx_is, eq-eqb (length c.rx) 256 s.rx_is, h) refl

  -- neither of the two
  past_notes : Whole c → verdict_of c slot n ≡ pick (ltb last_slot slot) (Err NoSlot) (pick (eqb n 0) (Err WrongLength) (pick (ltb call_up_most n) (Err WrongLength) (room_verdict c.bridge n)))
  unfolding verdict_by pick
  past_notes w = rw (eq-eqb (length c.tx) 512 w.stores.tx_is, eq-eqb (length c.rx) 256 w.stores.rx_is, w.rules) refl

  in_order : InOrder c slot n
  unfolding room_verdict pick
  in_order =
      record {
        wrong_stores = wrong_stores;
        broken_record = broken_record;
        no_slot = λ w s. past_notes w ∙ rw (lt-ltb 39 slot s) refl;
        no_words = λ w s z. past_notes w ∙ rw (le-ltb 39 slot s, eq-eqb n 0 z) refl;
        many_words = λ w s z. past_notes w ∙ rw (le-ltb 39 slot s, ne_eqb n 0 (λ e. omega arith), lt-ltb 30 n z) refl;
        not_ready = λ w s a b r. past_notes w ∙ rw (le-ltb 39 slot s, ne_eqb n 0 (λ e. omega arith), le-ltb 30 n b, r) refl;
        no_room = λ w s a b r f. past_notes w ∙ rw (le-ltb 39 slot s, ne_eqb n 0 (λ e. omega arith), le-ltb 30 n b, r, f) refl;
      }

shows_reading : (reading : ℕ) (ws : List ℕ) → ((slot_of reading ws).reading ≡ reading) × ((slot_of reading ws).count ≡ length ws)
unfolding slot_of
shows_reading reading ws = (refl, refl)

shift_is : (board : Board) (m : Moment) (ds : List Due) (budget : ℕ) → is_broken (verdict_of m.at 0 1) ≡ false
    → shift_of board m (cells_of ds) budget ≡ shift_from ds (shifting board m Taken 0 0) budget
unfolding shift_of pick
shift_is board m ds budget b = rw b (ap (λ (x : List Due). shift_from x (shifting board m Taken 0 0) budget) (dues_cells ds))

-- a bridge that is open is not broken
unbroken : (t : Bool) → is_broken (pick t Taken (Err NoRoom)) ≡ false
unfolding pick
unbroken true = refl
unbroken false = refl

module _ (board : Board) (m : Moment) (ds : List Due) (budget : ℕ) (o : Obeys m.at) (r : AtRest m) (a : AllRight ds)
    (h : budget_for (length m.chain) ds ≤ budget) where
  abbrev start : Shifting
  start = shifting board m Taken 0 0

  ran : Ran ds start (rest_in_tune m o r) (shift_from ds start budget) (shift_events ds start budget)
  ran = shift_run ds start (rest_in_tune m o r) budget a (omega (arith, rest_settled m o r))

  sure : is_broken (first_verdict m) ≡ false
  sure =
      let v : first_verdict m ≡ pick (has_room m.at.bridge 1) Taken (Err NoRoom)
      = verdict_open m.at 0 1 o r.free (omega arith) (omega arith) (omega arith) in
      ap is_broken v ∙ unbroken (has_room m.at.bridge 1)

  all_taken : AllTaken board (length m.chain) ds (shift_of board m (cells_of ds) budget)
  all_taken =
      rw (shift_is board m ds budget sure)
      (record {
        verdict_is = ran.verdict_is;
        taken_is = omega (arith, ran.taken_is);
        in_time = omega (arith, ran.in_time, rest_settled m o r);
        board_is = ran.board_is;
        all_sent = ran.all_sent;
        still_open = ran.there.free;
      })

listed_idle : (D : List (List ℕ)) → listed (log_of D []) ≡ D
unfolding listed joined
listed_idle D = refl

module _ (good : Bool) (layout : Layout) (tx rx : List ℕ) (before : List Event) (board : Board) (m : Moment) (ds : List Due) (budget : ℕ) (stores : RightStores tx rx)
    (p : Premises layouts (power_on good layout tx rx) before) (e : m.at ≡ end_of layouts (power_on good layout tx rx) before) (r : AtRest m) (a : AllRight ds)
    (h : budget_for (length m.chain) ds ≤ budget) where
  abbrev from : Config
  from = power_on good layout tx rx

  abbrev during : List Event
  during = shift_events ds (shifting board m Taken 0 0) budget

  o : Obeys m.at
  o = rw e (run_obeys layouts layouts_fit from before (power_obeys layouts layouts_fit good layout tx rx stores))

  abbrev went : Ran ds (shifting board m Taken 0 0) (rest_in_tune m o r) (shift_from ds (shifting board m Taken 0 0) budget) during
  went = ran board m ds budget o r a h

  -- demand 3's premises hold of both
  whole_premises : Premises layouts from (before ++ during)
  whole_premises = premises_append layouts from before during p (subst (λ (c : Config). Premises layouts c during) e went.premises)

  end_there : end_of layouts from (before ++ during) ≡ (shift_from ds (shifting board m Taken 0 0) budget).moment.at
  end_there = end_append layouts from before during ∙ ap (λ (c : Config). end_of layouts c during) (sym e) ∙ went.end_is

  accepted_is : accepted_in layouts from (before ++ during) ≡ accepted_in layouts from before ++ pairs (words_of ds)
  unfolding accepted_in
  accepted_is =
      let g : Log = log_by layouts no_log from before in
      let b : Between (end_of layouts from before) (sout_of layouts from before) g
      = between_run layouts layouts_fit from [] no_log before (between_power good layout tx rx stores) (power_obeys layouts layouts_fit good layout tx rx stores) p in
      let k : g ≡ log_of g.closed [] = at_idle (end_of layouts from before) _ g b (rw e at r.free.idle_frame) in
      let f : log_by layouts no_log from (before ++ during) ≡ log_of (g.closed ++ pairs (words_of ds)) []
      = log_append layouts no_log from before during ∙ ap₂ (λ (x : Log) (c : Config). log_by layouts x c during) k (sym e) ∙ went.log g.closed in
      ap listed f ∙ listed_idle (g.closed ++ pairs (words_of ds))
      ∙ ap (λ (D : List (List ℕ)). D ++ pairs (words_of ds)) (sym (ap listed k ∙ listed_idle g.closed))

  line_exact : WholeLine (sout_of layouts from (before ++ during)) (accepted_in layouts from before ++ pairs (words_of ds))
  line_exact =
      subst (λ (A : List (List ℕ)). WholeLine (sout_of layouts from (before ++ during)) A) accepted_is
      (exactly_all layouts layouts_fit good layout tx rx stores (before ++ during) whole_premises (rw end_there went.all_sent))

  line_shows : LineShows from before during ds
  line_shows = all_sent layouts layouts_fit good layout tx rx stores (before ++ during) whole_premises (rw end_there went.all_sent) ∙ accepted_is

pub call_up_board : CallUpBoard
call_up_board =
    record {
      taken_when = taken_when;
      taken_only = taken_only;
      taken_right = taken_right;
      in_order = in_order;
      refused = refused;
      shows = slot_last;
      shows_reading = shows_reading;
      shows_words = slot_words;
      others_stay = slot_other;
      forty_shown = λ good layout tx rx board acts s k. night_shown good layout tx rx s board acts k;
      gives_back = gives_back;
      shift_given = shift_given;
      shift_ticks = ticks_given;
      shift_counted = shift_counted;
      shift_is = shift_is;
      shift_ends = λ board m ds budget w r a h. all_taken board m ds budget (obeys_whole m.at w) r a h;
      shift_shown = line_shows;
      shift_exact = line_exact;
    }
