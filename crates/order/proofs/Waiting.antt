-- The places that wait, as a list: a place queued comes last, the one begun was first, and what is marked or freed among those begun is not
-- among them. Assumes nothing.
use mathlib.Core.Path.{◌≡◌, refl, ap, sym, ◌∙◌}
use mathlib.Core.List.{List, [], ◌∷◌, ◌++◌}
use Prim.Native.Nat.{ℕ, zero, suc, ◌+◌, ◌-◌, ◌≤◌, ◌<◌}
use native.Mathlib.Nat.{add-zero}
use native.Mathlib.Omega.{arith}
use native.Mathlib.Numerals.{add-one}
use borrow.Author.Tests.{le-ltb}
use lib.ListN.{length, take, drop, get_or, set, length-drop, length-set}
use lib.Seq.{drop-cons, drop-set-add, take-suc-set, get_or-set_other}
use Rattle.base.specs.Pick.{pick, pick_keeps}
use Rattle.state.specs.Queue.{no_place, place_at, with_place, queued, begun_one, waiting, moved, freed, returned}
use Rattle.state.specs.declared.Place.{Place}
use Rattle.state.specs.declared.Queue.{Queue}
use Rattle.state.specs.declared.Returned.{Returned}

-- The record rules of the queue that are needed here, and that its places are eight.
pub record QueueOk (q : Queue) : Type 0 where
  pub order : q.begun ≤ q.used
  pub most : q.used ≤ 8
  pub eight : length q.places ≡ 8

-- A queue in which the same places wait.
pub record Leaves (q r : Queue) : Type 0 where
  pub same : waiting r ≡ waiting q
  pub ok : QueueOk r

-- n places from the m-th on.
unfoldable span : List Place → ℕ → ℕ → List Place
span ps m zero = []
span ps m (suc n) = get_or ps m no_place ∷ span ps (suc m) n

span_take : (ps : List Place) (m n : ℕ) → m + n ≤ length ps → take n (drop m ps) ≡ span ps m n
unfolding span
span_take ps m zero h = refl
span_take ps m (suc n) h = rw (drop-cons ps m no_place (omega arith), span_take ps (suc m) n (omega arith))

waiting_span : (q : Queue) → QueueOk q → waiting q ≡ span q.places q.begun (q.used - q.begun)
unfolding waiting
waiting_span q k = span_take q.places q.begun (q.used - q.begun) (omega (arith, k.order, k.most, k.eight))

span_same : (ps qs : List Place) (m k n : ℕ) → ((i : ℕ) → i < n → get_or ps (m + i) no_place ≡ get_or qs (k + i) no_place) → span ps m n ≡ span qs k n
unfolding span
span_same ps qs m k zero h = refl
span_same ps qs m k (suc n) h =
    let a : get_or ps m no_place ≡ get_or qs k no_place = simp add-zero at (h 0 (omega arith)) in
    rw (a, span_same ps qs (suc m) (suc k) n (λ i l. further i (h (suc i) (omega arith))))
  where
    further : (i : ℕ) → get_or ps (m + suc i) no_place ≡ get_or qs (k + suc i) no_place → get_or ps (suc m + i) no_place ≡ get_or qs (suc k + i) no_place
    further i e =
        let a : suc m + i ≡ m + suc i = omega arith in
        let b : suc k + i ≡ k + suc i = omega arith in
        rw (a, b) e

pub waiting_push : (q : Queue) (p : Place) → QueueOk q → q.used < 8 → waiting (queued q p) ≡ waiting q ++ (p ∷ [])
unfolding waiting
waiting_push q p s h =
    let e : (q.used + 1) - q.begun ≡ suc (q.used - q.begun) = omega (arith, s.order) in
    let u : q.used ≡ q.begun + (q.used - q.begun) = omega (arith, s.order) in
    let d : drop q.begun (set q.places q.used p) ≡ set (drop q.begun q.places) (q.used - q.begun) p
    = ap (λ n. drop q.begun (set q.places n p)) u ∙ drop-set-add q.begun q.places (q.used - q.begun) p in
    rw (e, d) (take-suc-set (drop q.begun q.places) (q.used - q.begun) p (rw length-drop (omega (arith, s.order, s.eight))))

pub queue_push : (q : Queue) (p : Place) → QueueOk q → q.used < 8 → QueueOk (queued q p)
queue_push q p s h =
    record { order = omega (arith, s.order); most = omega arith; eight = length-set q.places q.used p ∙ s.eight }

pub waiting_begin : (q : Queue) → QueueOk q → q.begun < q.used → waiting q ≡ place_at q q.begun ∷ waiting (begun_one q)
unfolding waiting
waiting_begin q s h =
    let e : q.used - q.begun ≡ suc (q.used - (q.begun + 1)) = omega arith in
    rw (e, drop-cons q.places q.begun no_place (omega (arith, s.most, s.eight)), add-one)

pub queue_begin : (q : Queue) → QueueOk q → q.begun < q.used → QueueOk (begun_one q)
queue_begin q s h = record { order = omega arith; most = s.most; eight = s.eight }

pub leaves_all : (q : Queue) → QueueOk q → Leaves q q
leaves_all q s = record { same = refl; ok = s }

pub leaves_then : (q r t : Queue) → Leaves q r → Leaves r t → Leaves q t
leaves_then q r t a b = record { same = b.same ∙ a.same; ok = b.ok }

-- A place among those begun that gets its marks.
pub leaves_set : (q : Queue) (i : ℕ) (p : Place) → QueueOk q → i < q.begun → Leaves q (with_place q i p)
leaves_set q i p s h =
    record { same = waiting_span (with_place q i p) k ∙ span_same _ _ _ _ _ other ∙ sym (waiting_span q s); ok = k }
  where
    k : QueueOk (with_place q i p)
    k = record { order = s.order; most = s.most; eight = length-set q.places i p ∙ s.eight }

    other : (j : ℕ) → j < q.used - q.begun
        → get_or (set q.places i p) (q.begun + j) no_place ≡ get_or q.places (q.begun + j) no_place
    other j l = get_or-set_other q.places i (q.begun + j) p no_place (λ e. omega arith)

-- A place among those begun that is freed.
freed_at : (q : Queue) (i k : ℕ) → k < 8 → get_or (freed q i).places k no_place ≡ moved q.places i k
unfolding freed
freed_at q i zero h = refl
freed_at q i (suc zero) h = refl
freed_at q i (suc (suc zero)) h = refl
freed_at q i (suc (suc (suc zero))) h = refl
freed_at q i (suc (suc (suc (suc zero)))) h = refl
freed_at q i (suc (suc (suc (suc (suc zero))))) h = refl
freed_at q i (suc (suc (suc (suc (suc (suc zero)))))) h = refl
freed_at q i (suc (suc (suc (suc (suc (suc (suc zero))))))) h = refl
freed_at q i (suc (suc (suc (suc (suc (suc (suc (suc k)))))))) h = absurd (omega arith)

moved_up : (ps : List Place) (i k : ℕ) → i ≤ k → moved ps i k ≡ get_or ps (k + 1) no_place
unfolding moved pick
moved_up ps i k h = rw (le-ltb k i h)

pub leaves_free : (q : Queue) (i : ℕ) → QueueOk q → i < q.begun → Leaves q (freed q i)
unfolding freed
leaves_free q i s h =
    record { same = waiting_span (freed q i) k ∙ (rw n (span_same _ _ _ _ _ up)) ∙ sym (waiting_span q s); ok = k }
  where
    k : QueueOk (freed q i)
    k = record { order = omega (arith, s.order); most = omega (arith, s.most); eight = refl }

    n : (q.used - 1) - (q.begun - 1) ≡ q.used - q.begun
    n = omega arith

    up : (j : ℕ) → j < q.used - q.begun → get_or (freed q i).places (q.begun - 1 + j) no_place ≡ get_or q.places (q.begun + j) no_place
    up j l =
        let e : q.begun - 1 + j + 1 ≡ q.begun + j = omega arith in
        freed_at q i (q.begun - 1 + j) (omega (arith, s.most)) ∙ moved_up q.places i (q.begun - 1 + j) (omega arith) ∙ rw e

pub leaves_returned : (q : Queue) (i : ℕ) (p : Place) → QueueOk q → i < q.begun → Leaves q (returned q i p).queue
unfolding returned
leaves_returned q i p s h =
    pick_keeps (λ (r : Returned). Leaves q r.queue) _ _ _
    (λ t. pick_keeps (Leaves q) _ _ _ (λ e. leaves_set q i _ s h) (λ e. leaves_free q i s h)) (λ t. leaves_set q i p s h)
