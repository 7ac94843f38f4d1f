-- One frame of FWD_WR_CRC from an idle frame: each event's note is 0, the premises of demand 3 hold, and the command is accepted with its
-- words. Assumes nothing.
use Rattle.std.specs.Prelude.{Option, None, Some}
use mathlib.Core.Path.{◌≡◌, refl, ap, ◌∙◌}
use mathlib.Core.Bool.{Bool, true, false}
use mathlib.Core.List.{List, [], ◌∷◌, ◌++◌, append_assoc, append-nil}
use Prim.Native.Nat.{ℕ, suc, ◌+◌, ◌≤◌, ◌<◌, ◌-◌}
use native.Mathlib.Omega.{arith}
use lib.Dec.{eqb}
use lib.ListN.{length}
use lib.Seq.{get_or-set_same, get_or-set_other, set_out}
use native.Mathlib.Decide.{ℕ_discrete, dec_le}
use borrow.Author.Tests.{lt-ltb, le-ltb, lt-leb, eq-eqb, ne_eqb}
use Rattle.base.specs.Pick.{pick, pick_keeps}
use Rattle.base.specs.Bits.{bit}
use Rattle.layout.specs.declared.Layout.{Layout}
use Rattle.command.specs.Layouts.{Layouts}
use Rattle.command.specs.declared.Command.TheVariants.{Forward}
use Rattle.line.specs.Format.{Words}
use Rattle.registers.specs.Registers.{blocking}
use Rattle.registers.specs.Spictrl.{is_xmodem}
use Rattle.registers.specs.declared.Control.{Control}
use Rattle.state.specs.Queue.{new_place, queued, in_use, lacks, places_of}
use Rattle.state.specs.Rings.{oldest, written, ring_after}
use Rattle.state.specs.Sending.{stored, done}
use Rattle.state.specs.declared.Bridge.{Bridge}
use Rattle.state.specs.declared.Clock.{Clock}
use Rattle.state.specs.declared.Deed.{Deed}
use Rattle.state.specs.declared.Deed.TheVariants.{Leave, Enqueue, TakeBack, ClearAll, ResetAll}
use Rattle.state.specs.declared.Note.TheVariants.{Done}
use Rattle.state.specs.declared.Phase.{Phase}
use Rattle.state.specs.declared.Phase.TheVariants.{Idle, Collecting}
use Rattle.state.specs.declared.Ring.{Ring}
use Rattle.state.specs.declared.Sending.{Sending}
use Rattle.state.specs.declared.Receiving.{Receiving}
use Rattle.state.specs.declared.Queue.{Queue}
use Rattle.forwards.specs.Forward.{asks_store, guard, faulted, mine_after, enqueues, clears, forwarded, forward_word, forward_begun}
use Rattle.host.specs.Frames.{opened, data_word, planned_in, planned}
use Rattle.closing.specs.Closing.{forward_closed, crc_due}
use Rattle.release.specs.Release.{released_in}
use Rattle.plan.specs.Plan.{no_answer, cleared_away, received, settled, concluded, performed, marked}
use Rattle.plan.specs.declared.Plan.{Plan}
use Rattle.plan.specs.declared.Receive.TheVariants.{LeaveRx}
use Rattle.events.specs.Events.{hosted, reacted}
use Rattle.events.specs.Turn.{turned, turn}
use Rattle.events.specs.declared.Event.{Event}
use Rattle.events.specs.declared.Event.TheVariants.{Word, Release}
use Rattle.kept.proofs.Fits.{LayoutFit}
use Rattle.bridge.specs.Runs.{Config, out_of, end_of, next, faults}
use Rattle.order.specs.Accepted.{plan_of, Log, came, accepts, collects, joined, settle, logged, log_by}
use Rattle.order.specs.Premises.{Fair, Premises, is_power, Typed, losing}
use Rattle.callup.specs.Taken.{AllDone, Same, Sixteens}
use Rattle.callup.proofs.Taken.{OfHost, NoReads, AllWrite}
use Rattle.base.specs.Truth.{never}
use Rattle.state.specs.Rings.{cell_of}
use Rattle.bridge.proofs.Reached.{Obeys, obeyed_turn, step_obeys}
use Rattle.frames.specs.Orders.{command_word}
use Rattle.frames.specs.declared.Order.TheVariants.{FwdWrCrc}
use Rattle.queue.proofs.Laws.{has_record}
use Rattle.kept.proofs.InUse.{one_endless, in_use_queued}
use Rattle.frames_found.specs.Found.{frame_in}
use Rattle.callup.specs.CallUp.{given, sum_by, Speaks}

-- The data words of a frame and its CRC word, from a sum so far, and chip select released.
unfoldable rest_of : Layouts → ℕ → List ℕ → List Event
rest_of l sum ws = given (ws ++ (sum_by l sum ws ∷ []))

-- The four plans of such a frame.
abbrev plan_with : Bridge → Phase → Option ℕ → Deed → Bool → Plan
plan_with b p st d status = record {
  phase = p;
  held = b.frame.held;
  control = b.control;
  store = st;
  deed = d;
  receive = LeaveRx;
  note = Done;
  sdo = no_answer;
  status = status;
}

abbrev collecting : ℕ → ℕ → ℕ → Phase
collecting n got sum = Collecting (Forward true n 0 false) got sum got false false

-- words alone are one place
module _ (q : Queue) (n : ℕ) (h : in_use q < 8) where
  one_place : places_of (new_place n 0 false) ≡ 1
  unfolding new_place
  one_place = one_endless (new_place n 0 false) refl

  one_free : lacks q (new_place n 0 false) ≡ false
  unfolding lacks
  one_free = le-ltb (8 - in_use q) (places_of (new_place n 0 false)) (omega (arith, one_place))

  pub one_record : length q.places ≡ 8 → q.used < 8
  one_record l = has_record q (new_place n 0 false) l (rw one_place (omega arith))

  pub one_more : length q.places ≡ 8 → in_use (queued q (new_place n 0 false)) ≡ in_use q + 1
  one_more l = in_use_queued q (new_place n 0 false) l (one_record l) ∙ ap (λ (k : ℕ). in_use q + k) one_place

module _ (l : Layouts) (b : Bridge) (x n : ℕ) (clear : blocking b.control.flags ≡ false) where
  plan_open : (w : ℕ) → b.frame.phase ≡ Idle → l.decode b.control.regs.layout w ≡ Forward true n 0 false
      → planned l b w x ≡ plan_with b (collecting n 0 (l.crc_step (l.crc_start (is_xmodem b.control.regs)) w)) None Leave false
  unfolding planned planned_in opened forward_begun forwarded guard asks_store mine_after enqueues clears faulted pick
  plan_open w p d = rw (p, d, clear) refl

  plan_word : (w got sum : ℕ) → b.frame.phase ≡ collecting n got sum → got < n → b.sending.tx.count < 512
      → planned l b w x ≡ plan_with b (collecting n (got + 1) (l.crc_step sum w)) (Some w) Leave false
  unfolding planned planned_in data_word forward_word forwarded guard asks_store mine_after enqueues clears faulted pick
  plan_word w got sum p h r = rw (p, lt-ltb got n h, lt-leb 512 b.sending.tx.count r) refl

  plan_crc : (sum : ℕ) → b.frame.phase ≡ collecting n n sum → 0 < n → in_use b.sending.queue < 8
      → planned l b sum x ≡ plan_with b Idle None (Enqueue (new_place n 0 false)) true
  unfolding planned planned_in crc_due forward_closed guard asks_store faulted pick
  plan_crc sum p h u =
      let z : eqb n 0 ≡ false = ne_eqb n 0 (λ e. omega arith) in
      let v : lacks b.sending.queue (new_place n 0 false) ≡ false = one_free b.sending.queue n u in
      rw (p, le-ltb n n (omega arith), eq-eqb sum sum refl, z, v) refl

-- Deeds that clear nothing leave the reader, the sender and TX's head.
away_same : (r : Receiving) (d : Deed) → clears d ≡ false → cleared_away r d ≡ r
unfolding clears cleared_away
away_same r Leave h = refl
away_same r (Enqueue p) h = refl
away_same r (TakeBack n) h = refl
away_same r ClearAll h = cc
away_same r ResetAll h = refl

done_sender : (s : Sending) (st : Option ℕ) (d : Deed) → clears d ≡ false → (done (stored s st) d).sender ≡ s.sender
unfolding clears done stored
done_sender s st Leave h = refl
done_sender s st (Enqueue p) h = refl
done_sender s st (TakeBack n) h = refl
done_sender s st ClearAll h = cc
done_sender s st ResetAll h = refl

ring_head : (r : Ring) (st : Option ℕ) → (ring_after r st).head ≡ r.head
unfolding ring_after
ring_head r None = refl
ring_head r (Some w) = refl

done_head : (s : Sending) (st : Option ℕ) (d : Deed) → (done (stored s st) d).tx.head ≡ s.tx.head
unfolding done stored
done_head s st Leave = ring_head s.tx st
done_head s st (Enqueue p) = ring_head s.tx st
done_head s st (TakeBack n) = ring_head s.tx st
done_head s st ClearAll = ring_head s.tx st
done_head s st ResetAll = ring_head s.tx st

-- a word stored in TX
cells_written : (w : ℕ) (cells : List ℕ) (r : Ring) → w < 65536 → Sixteens cells → Sixteens (written 512 cells r (Some w))
unfolding written
cells_written w cells r h f i =
    elim (ℕ_discrete i (cell_of 512 r)) [
      | yes e ↦
          elim (dec_le (suc (cell_of 512 r)) (length cells)) [
            | yes l ↦ rw (e, get_or-set_same cells (cell_of 512 r) w 0 l) h
            | no l ↦ rw (set_out cells (cell_of 512 r) w (omega arith)) (f i)
          ]
      | no e ↦ rw (get_or-set_other cells (cell_of 512 r) i w 0 e) (f i)
    ]

-- neither a power-up nor a clear
kept_all : (l : Layouts) (c : Config) (e : Event) (p : Plan) → plan_of l c e ≡ p → is_power e ≡ false → clears p.deed ≡ false → losing l c e ≡ false
kept_all l c e p q w h = rw (w, q, h) refl

-- An event that carries out such a plan.
record Stepped (l : Layouts) (c : Config) (e : Event) (p : Plan) : Type 0 where
  plan_is : plan_of l c e ≡ p
  note_is : (out_of l c e).answer.note ≡ Done
  fair : Fair l c e
  same : Same c (next l c e)
  obeys : Obeys (next l c e)
  phase_is : (next l c e).bridge.frame.phase ≡ concluded l c.bridge.frame.xmodem p.status (next l c e).bridge.control p.phase
  sending_is : (next l c e).bridge.sending ≡ done (stored c.bridge.sending p.store) p.deed
  cells_are : (next l c e).tx ≡ written 512 c.tx c.bridge.sending.tx p.store

module _ (l : Layouts) (fits : LayoutFit l) (c : Config) (s : Obeys c) (f : blocking c.bridge.control.flags ≡ false) where
  abbrev carried : Clock → Plan → Config
  carried k p = record {
    bridge = performed l c.bridge k p;
    tx = written 512 c.tx c.bridge.sending.tx p.store;
    rx = c.rx;
  }

  same_carried : (k : Clock) (ph : Phase) (st : Option ℕ) (d : Deed) (status : Bool) → clears d ≡ false
      → Same c (carried k (plan_with c.bridge ph st d status))
  unfolding performed settled received
  same_carried k ph st d status h =
      record {
        mode = refl;
        flags = refl;
        regs = refl;
        sender = done_sender c.bridge.sending st d h;
        receiving = away_same c.bridge.receiving d h;
        head = done_head c.bridge.sending st d;
        rx = refl;
      }

  module _ (e : Event) (k : Clock) (p : Plan)
      (r : reacted l c.bridge e (oldest c.tx c.bridge.sending.tx) (oldest c.rx c.bridge.receiving.rx) ≡ hosted l c.bridge k p) where
    note_carried : (out_of l c e).answer.note ≡ p.note
    unfolding turn turned
    note_carried = rw (obeyed_turn l fits c e s, r) refl

    next_carried : next l c e ≡ carried k p
    unfolding next turn turned written
    next_carried = rw (obeyed_turn l fits c e s, r) refl

  -- an event whose rule carries out such a plan
  stepped : (e : Event) (k : Clock) (ph : Phase) (st : Option ℕ) (d : Deed) (status : Bool) → Typed e → is_power e ≡ false → clears d ≡ false
      → plan_of l c e ≡ plan_with c.bridge ph st d status
      → reacted l c.bridge e (oldest c.tx c.bridge.sending.tx) (oldest c.rx c.bridge.receiving.rx)
      ≡ hosted l c.bridge k (plan_with c.bridge ph st d status)
      → Stepped l c e (plan_with c.bridge ph st d status)
  stepped e k ph st d status t w h p r =
      let n : (out_of l c e).answer.note ≡ Done = note_carried e k _ r in
      let o : next l c e ≡ carried k (plan_with c.bridge ph st d status) = next_carried e k _ r in
      let same : Same c (next l c e) = rw o (same_carried k ph st d status h) in
      record {
        plan_is = p;
        note_is = n;
        fair = record {
          typed = t;
          no_fault = rw n (unfold faults in refl);
          no_loss = λ z. never (losing l c e) z (kept_all l c e _ p w h);
        };
        same = same;
        obeys = step_obeys l fits c e s;
        phase_is = rw o (unfold performed in refl);
        sending_is = rw o (unfold performed in refl);
        cells_are = rw o refl;
      }

  stepped_word : (w : ℕ) (ph : Phase) (st : Option ℕ) (d : Deed) (status : Bool) → w < 65536 → clears d ≡ false
      → planned l c.bridge w (oldest c.rx c.bridge.receiving.rx) ≡ plan_with c.bridge ph st d status
      → Stepped l c (Word w) (plan_with c.bridge ph st d status)
  unfolding is_power plan_of reacted
  stepped_word w ph st d status t h p = stepped (Word w) (marked c.bridge.clock) ph st d status t refl h p (rw p refl)

  stepped_release : (ph : Phase) → c.bridge.frame.phase ≡ ph → released_in c.bridge ph ≡ plan_with c.bridge Idle None Leave false
      → Stepped l c Release (plan_with c.bridge Idle None Leave false)
  unfolding is_power plan_of reacted clears
  stepped_release ph e p =
      let q : released_in c.bridge c.bridge.frame.phase ≡ plan_with c.bridge Idle None Leave false = ap (released_in c.bridge) e ∙ p in
      stepped Release c.bridge.clock Idle None Leave false tt refl refl q (ap (hosted l c.bridge c.bridge.clock) q)

-- A log with no command accepted in the open frame.
abbrev pub log_of : List (List ℕ) → List ℕ → Log
log_of D ws = record { closed = D; words = ws; accepted = false }

-- The rest of a frame, or a whole one: `ws` are the words still to come, `mine` those that came, n is their number.
pub record Ran (l : Layouts) (c : Config) (D : List (List ℕ)) (mine ws : List ℕ) (n : ℕ) (es : List Event) : Type 0 where
  pub notes : AllDone l c es
  pub premises : Premises l c es
  pub writes : AllWrite l c es
  pub log : log_by l (log_of D mine) c es ≡ log_of (D ++ ((mine ++ ws) ∷ [])) []
  pub same : Same c (end_of l c es)
  pub obeys : Obeys (end_of l c es)
  pub idle_frame : (end_of l c es).bridge.frame.phase ≡ Idle
  pub queue : (end_of l c es).bridge.sending.queue ≡ queued c.bridge.sending.queue (new_place n 0 false)
  pub count : (end_of l c es).bridge.sending.tx.count ≡ c.bridge.sending.tx.count + length ws
  pub cells : Sixteens c.tx → Sixteens (end_of l c es).tx

pub same_then : (c d e : Config) → Same c d → Same d e → Same c e
same_then c d e a b =
    record {
      mode = b.mode ∙ a.mode;
      flags = b.flags ∙ a.flags;
      regs = b.regs ∙ a.regs;
      sender = b.sender ∙ a.sender;
      receiving = b.receiving ∙ a.receiving;
      head = b.head ∙ a.head;
      rx = b.rx ∙ a.rx;
    }

-- what each plan adds to the log
module _ (l : Layouts) (b : Bridge) (D : List (List ℕ)) (mine : List ℕ) where
  log_open : (n got sum : ℕ) → logged (log_of D mine) (plan_with b (collecting n got sum) None Leave false) ≡ log_of D mine
  unfolding logged settle collects came accepts
  log_open n got sum = refl

  log_word : (n got sum w : ℕ) → logged (log_of D mine) (plan_with b (collecting n got sum) (Some w) Leave false) ≡ log_of D (mine ++ (w ∷ []))
  unfolding logged settle collects came accepts
  log_word n got sum w = refl

  log_crc : (n : ℕ) → 0 < n → logged (log_of D mine) (plan_with b Idle None (Enqueue (new_place n 0 false)) true) ≡ log_of (D ++ (mine ∷ [])) []
  unfolding logged settle collects came accepts joined new_place
  log_crc n h = rw (lt-ltb 0 n h) refl

log_release : (b : Bridge) (D : List (List ℕ)) → logged (log_of D []) (plan_with b Idle None Leave false) ≡ log_of D []
unfolding logged settle collects came accepts joined
log_release b D = refl

module _ (l : Layouts) (fits : LayoutFit l) (speaks : Speaks l) where
  -- chip select released after the CRC word
  ran_release : (c : Config) (D : List (List ℕ)) → Obeys c → blocking c.bridge.control.flags ≡ false → (x : Bool) (k : Control)
      → c.bridge.frame.phase ≡ concluded l x true k Idle → Stepped l c Release (plan_with c.bridge Idle None Leave false)
  unfolding concluded pick
  ran_release c D s f x k e =
      stepped_release l fits c s f _ e
      (pick_keeps (λ (q : Phase). released_in c.bridge q ≡ plan_with c.bridge Idle None Leave false) (bit 0 k.regs.spictrl) _ _
      (λ t. unfold released_in in refl) (λ t. unfold released_in in refl))

  ran_crc : (c : Config) (D : List (List ℕ)) (mine : List ℕ) (n sum : ℕ) → Obeys c → blocking c.bridge.control.flags ≡ false
      → c.bridge.frame.phase ≡ collecting n n sum → 0 < n → in_use c.bridge.sending.queue < 8 → sum < 65536
      → Ran l c D mine [] n (rest_of l sum [])
  unfolding rest_of given sum_by end_of log_by
  ran_crc c D mine n sum s f p h u k =
      let a : Stepped l c (Word sum) (plan_with c.bridge Idle None (Enqueue (new_place n 0 false)) true)
      = stepped_word l fits c s f sum Idle None (Enqueue (new_place n 0 false)) true k (unfold clears in refl) (plan_crc l c.bridge _ n f sum p h u) in
      let d : Config = next l c (Word sum) in
      let r : Stepped l d Release (plan_with d.bridge Idle None Leave false)
      = ran_release d D a.obeys (rw a.same.flags f) _ _ a.phase_is in
      let q : (next l d Release).bridge.sending ≡ done (stored (done (stored c.bridge.sending None) (Enqueue (new_place n 0 false))) None) Leave
      = r.sending_is ∙ ap (λ (t : Sending). done (stored t None) Leave) a.sending_is in
      record {
        notes = (a.note_is, (r.note_is, tt));
        premises = (a.fair, (r.fair, tt));
        writes = ((tt, rw a.plan_is (unfold new_place in refl)), ((tt, rw r.plan_is tt), tt));
        log = rw (a.plan_is, log_crc l c.bridge D mine n h, r.plan_is, log_release, append-nil) refl;
        same = same_then c d _ a.same r.same;
        obeys = r.obeys;
        idle_frame = r.phase_is ∙ (unfold concluded pick in refl);
        queue = rw q (unfold done stored ring_after in refl);
        count = rw q (unfold done stored ring_after in omega arith);
        cells = λ f. rw (r.cells_are, a.cells_are) (unfold written in f);
      }

  -- one event more in front
  ran_more : (c : Config) (D : List (List ℕ)) (mine got ws all : List ℕ) (n k : ℕ) (e : Event) (es : List Event) (p : Plan) → Stepped l c e p
      → OfHost e × NoReads (plan_of l c e).deed → Ran l (next l c e) D got ws n es → (next l c e).bridge.sending.queue ≡ c.bridge.sending.queue
      → (next l c e).bridge.sending.tx.count ≡ c.bridge.sending.tx.count + k → logged (log_of D mine) (plan_of l c e) ≡ log_of D got
      → got ++ ws ≡ mine ++ all → k + length ws ≡ length all → (Sixteens c.tx → Sixteens (next l c e).tx) → Ran l c D mine all n (e ∷ es)
  unfolding end_of log_by
  ran_more c D mine got ws all n k e es p a u i q m g o z f =
      record {
        notes = (a.note_is, i.notes);
        premises = (a.fair, i.premises);
        writes = (u, i.writes);
        log = rw (g, i.log, o) refl;
        same = same_then c (next l c e) _ a.same i.same;
        obeys = i.obeys;
        idle_frame = i.idle_frame;
        queue = i.queue ∙ ap (λ (t : Queue). queued t (new_place n 0 false)) q;
        count = omega (arith, i.count);
        cells = λ x. i.cells (f x);
      }

  ran_rest : (ws : List ℕ) (c : Config) (D : List (List ℕ)) (mine : List ℕ) (n got sum : ℕ) → Obeys c → blocking c.bridge.control.flags ≡ false
      → c.bridge.frame.phase ≡ collecting n got sum → 0 < n → got + length ws ≡ n → in_use c.bridge.sending.queue < 8
      → c.bridge.sending.tx.count + length ws ≤ 512 → Words ws → sum < 65536
      → Ran l c D mine ws n (rest_of l sum ws)
  unfolding rest_of given sum_by
  ran_rest [] c D mine n got sum s f p h e u r k t =
      let z : got ≡ n = omega arith in (ran_crc c D mine n sum s f (rw z at p) h u t)
  ran_rest (w ∷ ws) c D mine n got sum s f p h e u r k t =
      let a : Stepped l c (Word w) (plan_with c.bridge (collecting n (got + 1) (l.crc_step sum w)) (Some w) Leave false)
      = stepped_word l fits c s f w _ (Some w) Leave false k.0 (unfold clears in refl) (plan_word l c.bridge _ n f w got sum p (omega arith) (omega arith)) in
      let d : Config = next l c (Word w) in
      let g : d.bridge.sending ≡ stored c.bridge.sending (Some w) = a.sending_is ∙ (unfold done in refl) in
      let q : d.bridge.sending.queue ≡ c.bridge.sending.queue = ap (λ (x : Sending). x.queue) g ∙ (unfold stored in refl) in
      let m : d.bridge.sending.tx.count ≡ c.bridge.sending.tx.count + 1 = ap (λ (x : Sending). x.tx.count) g ∙ (unfold stored ring_after in refl) in
      let ph : d.bridge.frame.phase ≡ collecting n (got + 1) (l.crc_step sum w) = a.phase_is ∙ (unfold concluded pick in refl) in
      let i : Ran l d D (mine ++ (w ∷ [])) ws n (rest_of l (l.crc_step sum w) ws)
      = ran_rest ws d D (mine ++ (w ∷ [])) n (got + 1) (l.crc_step sum w) a.obeys (rw a.same.flags f) ph h (omega arith)
      (rw q u) (omega arith) k.1 (speaks.step_lt sum w t k.0) in
      ran_more c D mine (mine ++ (w ∷ [])) ws (w ∷ ws) n 1 (Word w) (rest_of l (l.crc_step sum w) ws) _ a (tt, rw a.plan_is tt) i q m
      (rw a.plan_is (log_word l c.bridge D mine n (got + 1) (l.crc_step sum w) w)) (append_assoc mine (w ∷ []) ws) (omega arith)
      (λ x. rw a.cells_are (cells_written w c.tx c.bridge.sending.tx k.0 x))

  -- a whole frame, from an idle one
  pub ran_frame : (ws : List ℕ) (c : Config) (D : List (List ℕ)) → Obeys c → blocking c.bridge.control.flags ≡ false
      → c.bridge.frame.phase ≡ Idle → 1 ≤ length ws → length ws ≤ 30 → in_use c.bridge.sending.queue < 8
      → c.bridge.sending.tx.count + length ws ≤ 512 → Words ws
      → Ran l c D [] ws (length ws) (given (frame_in c.bridge.control.regs FwdWrCrc ws))
  ran_frame ws c D s f p some most u r k =
      let form : Layout = c.bridge.control.regs.layout in
      let x : Bool = is_xmodem c.bridge.control.regs in
      let n : ℕ = length ws in
      let w : ℕ = command_word form FwdWrCrc n in
      let sum : ℕ = l.crc_step (l.crc_start x) w in
      let t : w < 65536 = omega arith in
      let a : Stepped l c (Word w) (plan_with c.bridge (collecting n 0 sum) None Leave false)
      = stepped_word l fits c s f w _ None Leave false t (unfold clears in refl) (plan_open l c.bridge _ n f w p (speaks.forward form n some most)) in
      let d : Config = next l c (Word w) in
      let g : d.bridge.sending ≡ c.bridge.sending = a.sending_is ∙ (unfold done stored ring_after in refl) in
      let q : d.bridge.sending.queue ≡ c.bridge.sending.queue = ap (λ (y : Sending). y.queue) g in
      let m : d.bridge.sending.tx.count ≡ c.bridge.sending.tx.count + 0 = ap (λ (y : Sending). y.tx.count) g ∙ omega arith in
      let ph : d.bridge.frame.phase ≡ collecting n 0 sum = a.phase_is ∙ (unfold concluded pick in refl) in
      let i : given (frame_in c.bridge.control.regs FwdWrCrc ws) ≡ Word w ∷ rest_of l sum ws
      = ap given (speaks.frame form x ws) ∙ (unfold given rest_of in refl) in
      rw i
      (ran_more c D [] [] ws ws n 0 (Word w) _ _ a (tt, rw a.plan_is tt)
      (ran_rest ws d D [] n 0 sum a.obeys (rw a.same.flags f) ph (omega arith) (omega arith) (rw q u)
      (omega arith) k (speaks.step_lt _ w (speaks.start_lt x) t))
      q m (rw a.plan_is (log_open l c.bridge D [] n 0 sum)) refl (omega arith)
      (λ y. rw a.cells_are (unfold written in y)))
