-- How many places that have begun are still to be read back: what each half of a tick does to their number. Assumes nothing.
use mathlib.Core.Path.{◌≡◌, refl, ap, sym, ◌∙◌}
use mathlib.Core.Bool.{Bool, true, false, not, ◌&&◌, ◌||◌}
use mathlib.Core.List.{List}
use Prim.Native.Nat.{ℕ, zero, suc, ◌+◌, ◌-◌, ◌≤◌, ◌<◌}
use native.Mathlib.Omega.{arith}
use native.Mathlib.Decide.{ℕ_discrete}
use lib.Dec.{ltb, eqb}
use lib.ListN.{length, get_or}
use borrow.Author.Tests.{eqb-true}
use Rattle.base.specs.Pick.{pick_keeps, and_r}
use Rattle.base.specs.Bits.{val}
use Rattle.state.specs.Queue.{no_place, place_at, with_place, begun_one, freed, is_done, returned, new_place}
use Rattle.state.specs.declared.Place.{Place}
use Rattle.state.specs.declared.Queue.{Queue}
use Rattle.state.specs.declared.Returned.{Returned}
use Rattle.kept.proofs.Queue.{freed_below, freed_above, begun_freed}
use Rattle.kept.proofs.Standing.{other_place, same_place}

-- 1 for a place with words that is not yet read
abbrev pub unread_bit : Place → ℕ
unread_bit p = val (ltb 0 p.words && not p.read)

unfoldable pub unread_below : List Place → ℕ → ℕ
unread_below ps zero = 0
unread_below ps (suc n) = unread_below ps n + unread_bit (get_or ps n no_place)

abbrev pub unread : Queue → ℕ
unread q = unread_below q.places q.begun

-- the same places, as far as this asks
pub unread_same : (q r : Queue) (n : ℕ) → ((k : ℕ) → k < n → unread_bit (place_at r k) ≡ unread_bit (place_at q k)) → unread_below r.places n ≡ unread_below q.places n
unfolding unread_below
unread_same q r zero h = refl
unread_same q r (suc n) h = let a : unread_below r.places n ≡ unread_below q.places n = unread_same q r n (λ k l. h k (omega arith)) in rw (a, h n (omega arith)) refl

-- a place that changed
pub unread_set : (q : Queue) (i : ℕ) (p : Place) (n : ℕ) → i < n → n ≤ length q.places
    → unread_below (with_place q i p).places n + unread_bit (place_at q i) ≡ unread_below q.places n + unread_bit p
unfolding unread_below
unread_set q i p zero h e = absurd (omega arith)
unread_set q i p (suc n) h e =
    elim (ℕ_discrete i n) [
      | yes z ↦
          (let s : place_at (with_place q i p) n ≡ p = ap (place_at (with_place q i p)) (sym z) ∙ same_place q i p (omega arith) in
          let a : unread_below (with_place q i p).places n ≡ unread_below q.places n
          = unread_same q (with_place q i p) n (λ k l. ap unread_bit (other_place q i p k (λ w. omega arith))) in
          let t : place_at q n ≡ place_at q i = ap (place_at q) (sym z) in
          rw (s, a, t) (omega arith))
      | no z ↦
          (let s : place_at (with_place q i p) n ≡ place_at q n = other_place q i p n (λ w. z (sym w)) in
          let a : unread_below (with_place q i p).places n + unread_bit (place_at q i) ≡ unread_below q.places n + unread_bit p = unread_set q i p n (omega arith) (omega arith) in
          rw s (omega (arith, a)))
    ]

-- a place that is gone
pub unread_freed : (q : Queue) (i n : ℕ) → i ≤ n → n < 8 → unread_below (freed q i).places n + unread_bit (place_at q i) ≡ unread_below q.places (suc n)
unfolding unread_below
unread_freed q i zero h e = let z : i ≡ 0 = omega arith in rw z refl
unread_freed q i (suc n) h e =
    elim (ℕ_discrete i (suc n)) [
      | yes z ↦
          (let a : unread_below (freed q i).places (suc n) ≡ unread_below q.places (suc n)
          = unread_same q (freed q i) (suc n) (λ k l. ap unread_bit (freed_below q i k (omega arith) (omega arith))) in
          rw (← z) (ap (λ (m : ℕ). m + unread_bit (place_at q i)) a))
      | no z ↦
          (let a : unread_below (freed q i).places n + unread_bit (place_at q i) ≡ unread_below q.places (suc n) = unread_freed q i n (omega arith) (omega arith) in
          let s : place_at (freed q i) n ≡ place_at q (suc n) = freed_above q i n (omega arith) (omega arith) in
          rw s (omega (arith, a)))
    ]

-- A done place is none of them.
bit_done : (p : Place) → is_done p ≡ true → unread_bit p ≡ 0
unfolding val
bit_done p h = go p.read (and_r p.sent _ h)
  where
    go : (r : Bool) → (r || eqb p.words 0) ≡ true → val (ltb 0 p.words && not r) ≡ 0
    go true k = off (ltb 0 p.words)
      where
        off : (t : Bool) → val (t && false) ≡ 0
        off true = refl
        off false = refl
    go false k = let z : p.words ≡ 0 = eqb-true _ _ k in rw z refl

-- A place with new marks, put back or freed.
pub unread_returned : (q : Queue) (i : ℕ) (p : Place) → i < q.begun → q.begun ≤ 8 → length q.places ≡ 8
    → unread (returned q i p).queue + unread_bit (place_at q i) ≡ unread q + unread_bit p
unfolding returned
unread_returned q i p h b e =
    pick_keeps (λ (r : Returned). unread r.queue + unread_bit (place_at q i) ≡ unread q + unread_bit p) _ _ _
    (λ d. pick_keeps (λ (r : Queue). unread r + unread_bit (place_at q i) ≡ unread q + unread_bit p) _ _ _
    (λ m. let z : unread_bit (new_place 0 p.ends false) ≡ 0 = unfold new_place val in refl in
    omega (arith, unread_set q i (new_place 0 p.ends false) q.begun h (omega arith), z, bit_done p d))
    (λ m. let n : (freed q i).begun ≡ q.begun - 1 = begun_freed q i in
    let s : suc (q.begun - 1) ≡ q.begun = omega arith in
    let a : unread_below (freed q i).places (q.begun - 1) + unread_bit (place_at q i) ≡ unread_below q.places (suc (q.begun - 1)) = unread_freed q i (q.begun - 1) (omega arith) (omega arith) in
    rw n (omega (arith, rw s at a, bit_done p d))))
    (λ d. unread_set q i p q.begun h (omega arith))

-- One more begun.
pub unread_begun : (q : Queue) → unread (begun_one q) ≡ unread q + unread_bit (place_at q q.begun)
unfolding unread_below
unread_begun q = let e : q.begun + 1 ≡ suc q.begun = omega arith in rw e refl
