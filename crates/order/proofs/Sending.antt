-- The sending side of the state and the cells of TX keep the line exact: one law a store, a deed, and a thing that a tick does. Assumes
-- nothing.
use Rattle.std.specs.Prelude.{Option, None, Some}
use mathlib.Core.Path.{◌≡◌, refl, ap, sym, ◌∙◌}
use mathlib.Core.Bool.{Bool, true, false}
use mathlib.Core.List.{List, [], ◌∷◌, ◌++◌}
use Prim.Native.Nat.{ℕ, suc, ◌+◌, ◌-◌, ◌≤◌, ◌<◌, ◌%◌}
use native.Mathlib.Nat.{mod-lt}
use native.Mathlib.Numerals.{add-one}
use native.Mathlib.Omega.{arith}
use borrow.Author.Tests.{ltb-true, ltb-false, leb-true, eqb-true}
use lib.ListN.{length, take, set, length-set}
use lib.Dec.{leb}
use Rattle.base.specs.Pick.{pick_keeps, and_r, and_l}
use Rattle.line.specs.Format.{piece_length}
use Rattle.state.specs.Rings.{oldest, written, ring_after}
use Rattle.state.specs.Queue.{place_at, begun_one, waiting, emptied_queue, places_of, in_use}
use Rattle.state.specs.Sending.{owing, stored, done, idle}
use Rattle.state.specs.declared.Deed.{Deed}
use Rattle.state.specs.declared.Deed.TheVariants.{Leave, Enqueue, TakeBack, ClearAll, ResetAll}
use Rattle.state.specs.declared.Queue.{Queue}
use Rattle.state.specs.declared.Returned.{Returned}
use Rattle.state.specs.declared.Sender.{Sender}
use Rattle.state.specs.declared.Sending.{Sending}
use Rattle.next.specs.Next.{choose, bit_sent, is_starve}
use Rattle.sender.specs.Sender.{queue_sent, sender_after, advanced, finished}
use Rattle.next.specs.declared.Next.{Next}
use Rattle.next.specs.declared.Next.TheVariants.{GoOn, LoadWord, Starve, LoadEnd, StartWords, StartEnds, Stay}
use Rattle.bridge.specs.Runs.{AllSent}
use Rattle.order.specs.Accepted.{came}
use Rattle.base.specs.Truth.{never}
use Rattle.queue.proofs.Laws.{busy_begun, speaking_begun, has_record}
use Rattle.order.proofs.Ring.{view, length_view, view_back, view_pop, view_push}
use Rattle.order.proofs.Waiting.{QueueOk, Leaves, waiting_push, queue_push, waiting_begin, queue_begin, leaves_all, leaves_set, leaves_returned}
use Rattle.order.proofs.Account.{counted, counts_of, counts_snoc, sum}
use Rattle.order.proofs.Exact.{Exact, exact_on, exact_word, exact_end, exact_begin, exact_ends, exact_stay, exact_push, exact_back, exact_queue, exact_owing, exact_all}

-- The words that TX holds.
abbrev pub in_tx : Sending → List ℕ → List ℕ
in_tx s cells = view 512 cells s.tx.head s.tx.count

pub record Holds (s : Sending) (cells : List ℕ) (bits : List Bool) (S K : List ℕ) : Type 0 where
  pub exact : Exact s.sender (in_tx s cells) (counts_of (waiting s.queue)) bits S K
  pub head : s.tx.head < 512
  pub cells_are : length cells ≡ 512
  pub queue : QueueOk s.queue

-- What a deed leaves of the words stored, and adds to the counts.
unfoldable pub less_by : List ℕ → Deed → List ℕ
less_by S Leave = S
less_by S (Enqueue p) = S
less_by S (TakeBack n) = take (length S - n) S
less_by S ClearAll = S
less_by S ResetAll = S

unfoldable pub more_by : List ℕ → Deed → List ℕ
more_by K Leave = K
more_by K (Enqueue p) = K ++ counted p.words []
more_by K (TakeBack n) = K
more_by K ClearAll = K
more_by K ResetAll = K

-- A store and a deed that meet no fault and lose nothing.
abbrev pub Storable : Sending → Option ℕ → Type 0
Storable s None = Unit {0}
Storable s (Some w) = (w < 65536) × (s.tx.count < 512)

abbrev pub Feasible : Sending → Deed → Type 0
Feasible s Leave = Unit {0}
Feasible s (Enqueue p) = in_use s.queue + places_of p ≤ 8
Feasible s (TakeBack n) = n ≤ s.tx.count
Feasible s ClearAll = AllSent s × (s.tx.count ≡ 0)
Feasible s ResetAll = AllSent s × (s.tx.count ≡ 0)

-- "once all are sent"
pub none_counted : (s : Sending) → AllSent s → counts_of (waiting s.queue) ≡ []
unfolding waiting counts_of
none_counted s a = let z : s.queue.used - s.queue.begun ≡ 0 = omega (arith, a.none_waits) in rw z

pub at_rest : (t : Sender) → idle t ≡ true → (piece_length t.piece ≤ t.gone) × (t.left ≡ 0) × (t.ends ≡ 0)
at_rest t h = (leb-true _ _ (search (and_l, and_r)), eqb-true _ _ (search (and_l, and_r)), eqb-true _ _ (search (and_l, and_r)))

module _ (s : Sending) (cells : List ℕ) (bits : List Bool) (S K : List ℕ) (i : Holds s cells bits S K) where
  pub holds_stored : (st : Option ℕ) → Storable s st → Holds (stored s st) (written 512 cells s.tx st) bits (came S st) K
  unfolding stored ring_after written came
  holds_stored None h = i
  holds_stored (Some w) h =
      let e : view 512 (set cells ((s.tx.head + s.tx.count) % 512) w) s.tx.head (s.tx.count + 1) ≡ in_tx s cells ++ (w ∷ [])
      = rw add-one (view_push 512 cells s.tx.head s.tx.count w i.head h.1 i.cells_are) in
      record {
        exact = rw e (exact_push s.sender w (in_tx s cells) _ bits S K i.exact h.0);
        head = i.head;
        cells_are = length-set cells _ w ∙ i.cells_are;
        queue = i.queue;
      }

  none_held : AllSent s → s.tx.count ≡ 0 → Exact s.sender [] [] bits S K
  none_held a z =
      let v : in_tx s cells ≡ [] = ap (view 512 cells s.tx.head) z ∙ unfold view in refl in rw (v, none_counted s a) at i.exact

  none_used : QueueOk (emptied_queue s.queue)
  none_used = record { order = omega arith; most = omega arith; eight = i.queue.eight }

  pub holds_spent : AllSent s → length S ≡ sum K + s.tx.count
  holds_spent a =
      let r = at_rest s.sender a.idle_sender in
      let e : length S ≡ sum K + length (in_tx s cells)
      = exact_all s.sender (in_tx s cells) bits S K (rw (none_counted s a) at i.exact) r.1 r.2 in
      rw (length_view 512 cells s.tx.head s.tx.count) at e

  pub holds_done : (d : Deed) → Feasible s d → Holds (done s d) cells bits (less_by S d) (more_by K d)
  unfolding done less_by more_by
  holds_done Leave h = i
  holds_done (Enqueue p) h =
      let u : s.queue.used < 8 = has_record s.queue p i.queue.eight h in
      record {
        exact = rw (waiting_push s.queue p i.queue u, counts_snoc) (exact_queue s.sender (in_tx s cells) _ _ bits S K i.exact);
        head = i.head;
        cells_are = i.cells_are;
        queue = queue_push s.queue p i.queue u;
      }
  holds_done (TakeBack n) h =
      let l : length (in_tx s cells) ≡ s.tx.count = length_view 512 cells s.tx.head s.tx.count in
      let e : view 512 cells s.tx.head (s.tx.count - n) ≡ take (length (in_tx s cells) - n) (in_tx s cells)
      = rw l (sym (view_back 512 cells s.tx.head s.tx.count (s.tx.count - n) (omega arith))) in
      record {
        exact = rw e (exact_back s.sender n (in_tx s cells) _ bits S K i.exact (omega arith));
        head = i.head;
        cells_are = i.cells_are;
        queue = i.queue;
      }
  holds_done ClearAll h =
      let r = at_rest s.sender h.0.idle_sender in
      let x : Exact s.sender [] [] bits S K = none_held h.0 h.1 in
      record {
        exact = unfold owing waiting counts_of view in (exact_owing s.sender 1 [] [] bits S K x r.0 r.1 r.2);
        head = i.head;
        cells_are = i.cells_are;
        queue = none_used;
      }
  holds_done ResetAll h =
      record { exact = unfold waiting counts_of view in (none_held h.0 h.1); head = i.head; cells_are = i.cells_are; queue = none_used }

  -- What changes the places begun changes nothing here.
  pub holds_queue : (q : Queue) → Leaves s.queue q → Holds (record { tx = s.tx; queue = q; sender = s.sender }) cells bits S K
  holds_queue q v =
      record { exact = rw v.same i.exact; head = i.head; cells_are = i.cells_are; queue = v.ok }

-- A word sent is marked in its place.
leaves_sent : (q : Queue) (left w : ℕ) → QueueOk q → Leaves q (queue_sent q left w)
unfolding queue_sent
leaves_sent q left w k =
    pick_keeps (λ (r : Queue). Leaves q r) _ _ _ (λ t. leaves_set q (q.begun - 1) _ k (omega (arith, ltb-true 0 q.begun t)))
    (λ t. leaves_all q k)

-- The places of the command that is sent, or whose words are.
pub leaves_finished : (s : Sending) → QueueOk s.queue → Leaves s.queue (finished s).queue
unfolding finished
leaves_finished s k =
    pick_keeps (λ (r : Returned). Leaves s.queue r.queue) _ _ _
    (λ t. leaves_returned s.queue (s.queue.begun - 1) _ k (omega (arith, busy_begun s.queue (and_r (idle s.sender) _ t))))
    (λ t. pick_keeps (λ (r : Returned). Leaves s.queue r.queue) _ _ _
    (λ u. leaves_returned s.queue (s.queue.begun - 1) _ k (omega (arith, speaking_begun s.queue (and_r (leb 18 s.sender.gone) _ u))))
    (λ u. leaves_all s.queue k))

module _ (s : Sending) (cells : List ℕ) (bits : List Bool) (S K : List ℕ) (i : Holds s cells bits S K) where
  -- What a tick of the kind n leaves.
  abbrev After : Next → Type 0
  After n =
      is_starve n ≡ false
      → Holds (advanced n s (oldest cells s.tx)) cells (bits ++ (bit_sent n s.sender (oldest cells s.tx) ∷ [])) S K

  after_on : s.sender.gone < piece_length s.sender.piece → After GoOn
  unfolding advanced sender_after bit_sent
  after_on h f =
      record { exact = exact_on s.sender _ _ bits S K i.exact h; head = i.head; cells_are = i.cells_are; queue = i.queue }

  module _ (b : piece_length s.sender.piece ≤ s.sender.gone) where
    after_word : 0 < s.sender.left → 0 < s.tx.count → After LoadWord
    unfolding advanced sender_after bit_sent
    after_word h n f =
        let c : s.tx.count ≡ suc (s.tx.count - 1) = omega arith in
        let e : in_tx s cells ≡ oldest cells s.tx ∷ view 512 cells ((s.tx.head + 1) % 512) (s.tx.count - 1)
        = ap (view 512 cells s.tx.head) c ∙ view_pop 512 cells s.tx.head (s.tx.count - 1) i.head in
        let v : Leaves s.queue (queue_sent s.queue s.sender.left (oldest cells s.tx))
        = leaves_sent s.queue s.sender.left (oldest cells s.tx) i.queue in
        record {
          exact = rw v.same (exact_word s.sender (oldest cells s.tx) _ _ bits S K (rw e at i.exact) b h);
          head = mod-lt (s.tx.head + 1) (omega arith);
          cells_are = i.cells_are;
          queue = v.ok;
        }

    after_end : s.sender.left ≡ 0 → After LoadEnd
    unfolding advanced sender_after bit_sent
    after_end h f =
        record {
          exact = exact_end s.sender (s.sender.ends - 1) _ _ bits S K i.exact b h;
          head = i.head;
          cells_are = i.cells_are;
          queue = i.queue;
        }

    module _ (l : s.sender.left ≡ 0) (e : s.sender.ends ≡ 0) where
      module _ (w : s.queue.begun < s.queue.used) where
        opening : Exact s.sender (in_tx s cells) (counted (place_at s.queue s.queue.begun).words (counts_of (waiting (begun_one s.queue)))) bits S K
        opening =
            let c : counts_of (waiting s.queue) ≡ counted (place_at s.queue s.queue.begun).words (counts_of (waiting (begun_one s.queue)))
            = ap counts_of (waiting_begin s.queue i.queue w) ∙ unfold counts_of in refl in
            rw c at i.exact

        after_start : 0 < (place_at s.queue s.queue.begun).words → After StartWords
        unfolding advanced sender_after bit_sent
        after_start h f =
            record {
              exact = exact_begin s.sender _ (place_at s.queue s.queue.begun).ends _ _ bits S K h opening b l e;
              head = i.head;
              cells_are = i.cells_are;
              queue = queue_begin s.queue i.queue w;
            }

        after_ends : (place_at s.queue s.queue.begun).words ≤ 0 → After StartEnds
        unfolding advanced sender_after bit_sent
        after_ends h f =
            record {
              exact = exact_ends s.sender _ ((place_at s.queue s.queue.begun).ends - 1) _ _ bits S K h opening b l;
              head = i.head;
              cells_are = i.cells_are;
              queue = queue_begin s.queue i.queue w;
            }

      after_stay : After Stay
      unfolding advanced sender_after bit_sent
      after_stay f =
          record { exact = exact_stay s.sender _ _ bits S K i.exact b l e; head = i.head; cells_are = i.cells_are; queue = i.queue }

  after_starve : After Starve
  after_starve f = never true refl f

  pub holds_tick : (may : Bool) → After (choose s may)
  unfolding choose
  holds_tick may =
      pick_keeps After _ _ _ (λ h. after_on (ltb-true _ _ h))
      (λ h. let b : piece_length s.sender.piece ≤ s.sender.gone = ltb-false _ _ h in
      pick_keeps After _ _ _ (λ l. pick_keeps After _ _ _ (λ n. after_word b (ltb-true _ _ l) (ltb-true _ _ n)) (λ n. after_starve))
      (λ l. let z : s.sender.left ≡ 0 = omega (arith, ltb-false 0 s.sender.left l) in
      pick_keeps After _ _ _ (λ e. after_end b z)
      (λ e. let y : s.sender.ends ≡ 0 = omega (arith, ltb-false 0 s.sender.ends e) in
      pick_keeps After _ _ _
      (λ m. pick_keeps After _ _ _
      (λ w. pick_keeps After _ _ _ (λ k. after_start b z y (ltb-true _ _ w) (ltb-true _ _ k))
      (λ k. after_ends b z y (ltb-true _ _ w) (ltb-false _ _ k)))
      (λ w. after_stay b z y))
      (λ m. after_stay b z y))))
