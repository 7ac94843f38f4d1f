-- The places in use, by what is done to the queue (02 item 3: "a forward with both takes two places"). Assumes nothing.
use mathlib.Core.Path.{◌≡◌, refl, ◌∙◌, ap}
use mathlib.Core.Bool.{Bool, true, false, ◌&&◌}
use mathlib.Core.List.{List, [], ◌∷◌, ◌++◌}
use Prim.Native.Nat.{ℕ, zero, suc, ◌+◌, ◌-◌, ◌≤◌, ◌<◌}
use native.Mathlib.Omega.{arith}
use lib.Dec.{ltb}
use lib.ListN.{length, take, get_or, set}
use lib.Seq.{take-suc, take-suc-set}
use borrow.Author.Tests.{ltb-true, ltb-false}
use Rattle.base.specs.Pick.{pick}
use Rattle.state.specs.Facts.{QueueFit}
use Rattle.state.specs.Queue.{no_place, place_at, with_place, queued, places_of, places_in, in_use, freed}
use Rattle.state.specs.declared.Place.{Place}
use Rattle.state.specs.declared.Queue.{Queue}
use Rattle.kept.proofs.Queue.{freed_below, freed_above, used_freed, eight_freed}

-- 1. Of one command.

no_ends : (b : Bool) → ◌≡◌ {A = ℕ} (pick (b && false) 2 1) 1
unfolding pick
no_ends true = refl
no_ends false = refl

-- without ENDs, or without words, it is one place
pub one_endless : (p : Place) → p.ends ≡ 0 → places_of p ≡ 1
unfolding places_of
one_endless p e = rw e (no_ends (ltb 0 p.words))

pub one_wordless : (p : Place) → p.words ≡ 0 → places_of p ≡ 1
unfolding places_of pick
one_wordless p e = rw e refl

-- words and ENDs alone decide
pub same_places : (p o : Place) → p.words ≡ o.words → p.ends ≡ o.ends → places_of p ≡ places_of o
unfolding places_of
same_places p o w e = rw (w, e)

-- 2. Of the queue.

places_in_snoc : (ps : List Place) (p : Place) → places_in (ps ++ (p ∷ [])) ≡ places_in ps + places_of p
unfolding places_in
places_in_snoc [] p = omega arith
places_in_snoc (x ∷ ps) p = rw (places_in_snoc ps p) (omega arith)

pub in_use_queued : (q : Queue) (p : Place) → length q.places ≡ 8 → q.used < 8 → in_use (queued q p) ≡ in_use q + places_of p
in_use_queued q p l h =
    let n : q.used + 1 ≡ suc q.used = omega arith in
    rw (n, take-suc-set q.places q.used p (omega arith)) (places_in_snoc (take q.used q.places) p)

put_in : (n : ℕ) (ps : List Place) (i : ℕ) (p : Place) → places_of p ≤ places_of (get_or ps i no_place)
    → places_in (take n (set ps i p)) ≤ places_in (take n ps)
unfolding places_in
put_in zero ps i p h = omega arith
put_in (suc n) [] i p h = omega arith
put_in (suc n) (x ∷ ps) zero p h = omega arith
put_in (suc n) (x ∷ ps) (suc i) p h = let k : places_in (take n (set ps i p)) ≤ places_in (take n ps) = put_in n ps i p h in omega arith

pub in_use_put : (q : Queue) (i : ℕ) (p : Place) → places_of p ≤ places_of (place_at q i) → in_use (with_place q i p) ≤ in_use q
in_use_put q i p h = put_in q.used q.places i p h

-- one by one
unfoldable sum_to : List Place → ℕ → ℕ
sum_to ps zero = 0
sum_to ps (suc n) = sum_to ps n + places_of (get_or ps n no_place)

by_one : (ps : List Place) (n : ℕ) → n ≤ length ps → places_in (take n ps) ≡ sum_to ps n
unfolding sum_to places_in
by_one ps zero h = refl
by_one ps (suc n) h =
    rw (take-suc ps n no_place (omega arith)) (places_in_snoc (take n ps) (get_or ps n no_place) ∙ rw (by_one ps n (omega arith)) refl)

module _ (q : Queue) (i : ℕ) where
  sum_below : (n : ℕ) → n ≤ 8 → n ≤ i → sum_to (freed q i).places n ≤ sum_to q.places n
  unfolding sum_to
  sum_below zero b h = omega arith
  sum_below (suc n) b h =
      let k : sum_to (freed q i).places n ≤ sum_to q.places n = sum_below n (omega arith) (omega arith) in
      let e : places_of (place_at (freed q i) n) ≡ places_of (place_at q n) = ap places_of (freed_below q i n (omega arith) (omega arith)) in
      omega arith

  sum_freed : (n : ℕ) → n ≤ 8 → sum_to (freed q i).places n ≤ sum_to q.places (suc n)
  unfolding sum_to
  sum_freed zero b = omega arith
  sum_freed (suc n) b = go (ltb n i) refl (sum_freed n (omega arith))
    where
      go : (t : Bool) → ltb n i ≡ t → sum_to (freed q i).places n ≤ sum_to q.places (suc n)
          → sum_to (freed q i).places (suc n) ≤ sum_to q.places (suc (suc n))
      go true h k =
          let m : sum_to (freed q i).places (suc n) ≤ sum_to q.places (suc n) = sum_below (suc n) b (let c : n < i = ltb-true _ _ h in omega arith) in
          omega arith
      go false h k =
          let e : places_of (place_at (freed q i) n) ≡ places_of (place_at q (suc n)) = ap places_of (freed_above q i n (omega arith) (ltb-false _ _ h)) in
          omega arith

pub in_use_freed : (q : Queue) (i : ℕ) → QueueFit q → length q.places ≡ 8 → i < q.begun → in_use (freed q i) ≤ in_use q
in_use_freed q i f l h =
    let n : q.used ≡ suc (q.used - 1) = omega (arith, f.order) in
    let a : in_use (freed q i) ≡ sum_to (freed q i).places (q.used - 1)
    = rw (used_freed q i) (by_one (freed q i).places (q.used - 1) (rw eight_freed (omega (arith, f.most)))) in
    let b : in_use q ≡ sum_to q.places (suc (q.used - 1)) = by_one q.places q.used (omega (arith, f.most)) ∙ ap (sum_to q.places) n in
    omega (arith, sum_freed q i (q.used - 1) (omega (arith, f.most)))
