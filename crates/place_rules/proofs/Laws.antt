-- Laws of the definitions, in the form in which the functions' proofs ask them. Assumes nothing.
use mathlib.Core.Path.{◌≡◌, refl, sym, ◌∙◌}
use Rattle.std.specs.Prelude.{min}
use mathlib.Core.Bool.{Bool, true, false, ◌&&◌}
use mathlib.Core.List.{[], ◌∷◌}
use Prim.Native.Nat.{ℕ, zero, suc, ◌+◌, ◌*◌, ◌-◌, ◌≤◌, ◌<◌}
use native.Mathlib.Omega.{arith}
use lib.Dec.{ltb}
use borrow.Author.Tests.{lt-leb, le-leb, ltb-true, ltb-false}
use lib.ListN.{length}
use Rattle.base.specs.Pick.{pick_true, pick_false}
use Rattle.base.specs.Truth.{and_end}
use Rattle.state.specs.declared.Place.{Place}
use Rattle.state.specs.declared.Queue.{Queue}
use Rattle.state.specs.Queue.{place_at, waiting, words_of}
use Rattle.queue.proofs.Laws.{rest, rest_one, rest_none, rest_past}
use Rattle.place_rules.specs.Places.{place_sound, role_sound, slot_sound, slots_below, places_sound}

-- the sum so far, with that of the places still to come, is that of all that wait
pub record Counted (q : Queue) (words i : ℕ) : Type 0 where
  pub long : length q.places ≡ 8
  pub most : words ≤ 65535 * i
  pub small : words ≤ 524280
  pub sum : words + words_of (rest q i) ≡ words_of (waiting q)

pub none_counted : (q : Queue) → length q.places ≡ 8 → Counted q 0 q.begun
unfolding waiting
none_counted q l = record { long = l; most = omega arith; small = omega arith; sum = omega arith }

module _ (q : Queue) (words i : ℕ) (v : Counted q words i) where
  pub one_counted : (p : Place) → p ≡ place_at q i → p.words < 65536 → i < min q.used 8 → Counted q (words + p.words) (i + 1)
  unfolding words_of
  one_counted p e m h =
      let k : i < length q.places = omega (arith, v.long) in
      let g : i < q.used = omega arith in
      let r : rest q i ≡ p ∷ rest q (i + 1) = rw e (rest_one q i k g) in
      let o : words_of (rest q i) ≡ p.words + words_of (rest q (i + 1)) = rw r in
      record { long = v.long; most = omega (arith, v.most); small = omega (arith, v.most); sum = omega (arith, v.sum) }

  all_counted : min q.used 8 ≤ i → rest q i ≡ []
  all_counted h = go (ltb i q.used) refl
    where
      go : (t : Bool) → ltb i q.used ≡ t → rest q i ≡ []
      go true k = let u : i < q.used = ltb-true _ _ k in rest_past q i (omega (arith, v.long))
      go false k = rest_none q i (ltb-false _ _ k)

  pub summed : min q.used 8 ≤ i → words ≡ words_of (waiting q)
  unfolding words_of
  summed h = let o : words_of (rest q i) ≡ 0 = rw (all_counted h) in omega (arith, v.sum)

-- the walk over the places in use
slot_used : (q : Queue) (i : ℕ) (p : Place) (a b : Bool) → p ≡ place_at q i → i < q.used → a ≡ place_sound p → b ≡ role_sound q.begun i p
    → (a && b) ≡ slot_sound q i
unfolding slot_sound
slot_used q i p a b e l h k = pick_false _ _ _ _ (lt-leb q.used i l) (rw (h, k, e) refl)

-- places that are not in use change nothing
slots_rest : (q : Queue) (i n m : ℕ) → m ≡ i + n → q.used ≤ i → slots_below q m ≡ slots_below q i
unfolding slots_below slot_sound
slots_rest q i zero m e u = let x : m ≡ i = omega arith in rw x
slots_rest q i (suc n) m e u =
    let x : m ≡ suc (i + n) = omega arith in
    let t : slot_sound q (i + n) ≡ true = sym (pick_true _ _ _ _ (le-leb q.used (i + n) (omega arith)) refl) in
    rw (x, t) (and_end (slots_below q (i + n)) ∙ slots_rest q i n (i + n) refl u)

-- the test so far is that of the places passed
pub record Slotted (q : Queue) (good : Bool) (i : ℕ) : Type 0 where
  pub long : length q.places ≡ 8
  pub most : i ≤ 8
  pub test : good ≡ slots_below q i

pub none_slotted : (q : Queue) → length q.places ≡ 8 → Slotted q true 0
unfolding slots_below
none_slotted q l = record { long = l; most = omega arith; test = refl }

module _ (q : Queue) (good : Bool) (i : ℕ) (v : Slotted q good i) where
  pub one_slotted : (p : Place) (a b : Bool) → p ≡ place_at q i → i < min q.used 8 → a ≡ place_sound p → b ≡ role_sound q.begun i p
      → Slotted q (good && (a && b)) (i + 1)
  unfolding slots_below
  one_slotted p a b e h x y =
      let k : (a && b) ≡ slot_sound q i = slot_used q i p a b e (omega arith) x y in
      let n : i + 1 ≡ suc i = omega arith in
      record { long = v.long; most = omega arith; test = rw n (rw (k, v.test) refl) }

  pub all_slotted : min q.used 8 ≤ i → good ≡ places_sound q
  all_slotted h = go (ltb i q.used) refl
    where
      go : (t : Bool) → ltb i q.used ≡ t → good ≡ places_sound q
      go true k = let u : i < q.used = ltb-true _ _ k in let n : i ≡ 8 = omega (arith, v.most) in rw n at v.test
      go false k =
          let u : q.used ≤ i = ltb-false _ _ k in
          v.test ∙ sym (slots_rest q i (8 - i) 8 (omega (arith, v.most)) (omega arith))
