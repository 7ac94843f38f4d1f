-- A call-up taken between two ticks: reader and sender stay in tune, and its two commands are more to send. Assumes nothing.
use mathlib.Core.Path.{◌≡◌, ap, ◌∙◌}
use mathlib.Core.Bool.{Bool, false}
use mathlib.Core.List.{List, [], ◌∷◌, ◌++◌}
use Prim.Native.Nat.{ℕ, ◌+◌, ◌*◌, ◌≤◌, ◌<◌}
use native.Mathlib.Omega.{arith}
use lib.ListN.{length}
use lib.Seq.{get_or-set_other}
use borrow.Author.Tests.{lt-ltb}
use Rattle.base.specs.Pick.{pick}
use Rattle.command.specs.Layouts.{Layouts}
use Rattle.state.specs.Queue.{no_place, new_place, queued, waiting, in_use}
use Rattle.state.specs.declared.Place.{Place}
use Rattle.state.specs.declared.Queue.{Queue}
use Rattle.state.specs.declared.Sending.{Sending}
use Rattle.drain.specs.Cost.{cost, cost_of}
use Rattle.drain.proofs.Ticks.{remaining}
use Rattle.bridge.specs.Runs.{Config, end_of}
use Rattle.bridge.proofs.Reached.{Obeys}
use Rattle.order.specs.Accepted.{Log}
use Rattle.order.proofs.Waiting.{QueueOk, waiting_push, queue_push}
use Rattle.callup.specs.CallUp.{call_up_to, ticks_for}
use Rattle.callup.specs.Taken.{Takes}
use Rattle.callup.proofs.Taken.{Taken}
use Rattle.callup.proofs.Frame.{one_record, one_more}
use Rattle.echoes.proofs.Counts.{unread_bit, unread, unread_same}
use Rattle.echoes.proofs.Ticks.{Tuned}

queue_ok : (c : Config) → Obeys c → QueueOk c.bridge.sending.queue
queue_ok c o = record { order = o.rules.sending.queue.order; most = o.rules.sending.queue.most; eight = o.rules.sending.eight }

-- a place queued has not begun
queued_unread : (q : Queue) (p : Place) → q.begun ≤ q.used → unread (queued q p) ≡ unread q
queued_unread q p h = unread_same q (queued q p) q.begun (λ k l. ap unread_bit (get_or-set_other q.places q.used k p no_place (λ z. omega arith)))

cost_append : (W Y : List Place) → cost_of (W ++ Y) ≡ cost_of W + cost_of Y
unfolding cost_of
cost_append [] Y = omega arith
cost_append (p ∷ W) Y = let a : cost_of (W ++ Y) ≡ cost_of W + cost_of Y = cost_append W Y in omega arith

cost_new : (n : ℕ) → 0 < n → cost_of (new_place n 0 false ∷ []) ≡ 19 + 17 * n
unfolding cost_of cost new_place pick
cost_new n h = rw (lt-ltb 0 n h) (omega arith)

remaining_same : (s t : Sending) (n : ℕ) → t.sender ≡ s.sender → cost_of (waiting t.queue) ≡ cost_of (waiting s.queue) + n → remaining t ≡ remaining s + n
unfolding remaining
remaining_same s t n e w = rw (e, w) (omega arith)

module _ (l : Layouts) (c : Config) (g : Log) (ws : List ℕ) (k : Taken l c g ws) (a : Takes c ws) where
  abbrev q : Queue
  q = c.bridge.sending.queue

  abbrev called : Config
  called = end_of l c (call_up_to c ws)

  pub tuned_called : (chain : List Bool) (lag : ℕ) → Tuned c chain lag → Tuned called chain lag
  tuned_called chain lag t =
      let y : QueueOk q = queue_ok c t.obeys in
      record {
        obeys = k.obeys;
        cells = k.cells t.cells;
        then = t.then;
        inside = t.inside;
        others = t.others;
        hears = rw k.same.receiving t.hears;
        path = rw k.same.sender t.path;
        count =
            ap unread k.queue ∙ queued_unread (queued q (new_place (length ws) 0 false)) (new_place 1 0 false) (omega (arith, y.order))
            ∙ queued_unread q (new_place (length ws) 0 false) y.order ∙ t.count;
        belongs = rw k.same.receiving t.belongs;
      }

  pub more_left : Obeys c → remaining called.bridge.sending ≡ remaining c.bridge.sending + ticks_for (length ws)
  more_left o =
      let y : QueueOk q = queue_ok c o in
      let p : Place = new_place (length ws) 0 false in
      let v : Place = new_place 1 0 false in
      let m : q.used < 8 = one_record q (length ws) (omega (arith, a.two_places)) y.eight in
      let x : in_use (queued q p) ≡ in_use q + 1 = one_more q (length ws) (omega (arith, a.two_places)) y.eight in
      let z : q.used + 1 < 8 = one_record (queued q p) 1 (omega (arith, a.two_places)) (queue_push q p y m).eight in
      let w : waiting called.bridge.sending.queue ≡ (waiting q ++ (p ∷ [])) ++ (v ∷ [])
      = ap waiting k.queue ∙ waiting_push (queued q p) v (queue_push q p y m) z ∙ ap (λ (W : List Place). W ++ (v ∷ [])) (waiting_push q p y m) in
      remaining_same c.bridge.sending called.bridge.sending (ticks_for (length ws)) k.same.sender
      (ap cost_of w ∙ cost_append (waiting q ++ (p ∷ [])) (v ∷ [])
      ∙ omega (arith, cost_append (waiting q) (p ∷ []), cost_new (length ws) (omega (arith, a.some)), cost_new 1 (omega arith)))
