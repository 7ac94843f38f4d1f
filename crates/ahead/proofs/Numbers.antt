-- The words that must be ahead, as numbers: what is enough for the last word is enough for each. Assumes nothing.
use mathlib.Core.Path.{◌≡◌, refl, sym, subst}
use mathlib.Core.Bool.{Bool, true, false}
use Prim.Native.Nat.{ℕ, ◌+◌, ◌-◌, ◌*◌, ◌/◌, ◌≤◌, ◌<◌}
use native.Mathlib.Nat.{le_trans, mul-le-mul_left, mul-le-mul_right, le-div_iff_mul-le, div-mul-le_self, add-mul-div_left}
use native.Mathlib.Omega.{arith}
use lib.Dec.{ltb, leb}
use borrow.Author.Tests.{ltb-true, ltb-false, leb-true, leb-false}
use Rattle.line.specs.Format.{group_length}
use Rattle.ahead.specs.Ahead.{taken_at, ahead, FastEnough}

div_mono : (x y p : ℕ) → 0 < p → x ≤ y → x / p ≤ y / p
div_mono x y p h k = (le-div_iff_mul-le h).1 (le_trans (div-mul-le_self x p) k)

-- from a host of a word every 17 ticks, or faster
at_pace : (k p : ℕ) → 0 < p → p ≤ group_length → k ≤ taken_at k / p
unfolding taken_at
at_pace k p h f = let m : k * p ≤ k * group_length = mul-le-mul_left k f in (le-div_iff_mul-le h).1 (omega (arith, m))

-- from a slower one, m words later
at_most : (k m p : ℕ) → group_length ≤ p → taken_at (k + m) / p ≤ taken_at k / p + m
unfolding taken_at
at_most k m p f =
    let h : 0 < p = omega (arith, f) in
    let s : group_length * m ≤ p * m = mul-le-mul_right m f in
    let d : taken_at (k + m) / p ≤ (taken_at k + p * m) / p = div_mono _ _ p h (omega (arith, s)) in
    subst (λ (x : ℕ). taken_at (k + m) / p ≤ x) (add-mul-div_left (taken_at k) m h) d

module _ (n a p : ℕ) (h : 0 < p) (o : 0 < a) (e : ahead n p ≤ a) (k : ℕ) (l : k < n) where
  pub each_in_time : k < a + taken_at k / p
  unfolding ahead
  each_in_time = by (leb p group_length) refl
    where
      later : n - 1 ≡ k + (n - 1 - k)
      later = omega (arith, l)

      by : (t : Bool) → leb p group_length ≡ t → k < a + taken_at k / p
      by true t = omega (arith, at_pace k p h (leb-true p group_length t), o)
      by false t =
          let s : group_length ≤ p = omega (arith, leb-false p group_length t) in
          let d : taken_at (n - 1) / p ≤ taken_at k / p + (n - 1 - k)
          = subst (λ (x : ℕ). taken_at x / p ≤ taken_at k / p + (n - 1 - k)) (sym later) (at_most k (n - 1 - k) p s) in
          omega (arith, d, e, l)

-- of the words still to come, fewer are missing than are left from word k on: x are due by then, st have come
pub covers : (n a k x st : ℕ) → k < n → k < a + x → (st < n - a → x ≤ st) → n - a - st < n - k
covers n a k x st h i y = by (ltb st (n - a)) refl
  where
    by : (t : Bool) → ltb st (n - a) ≡ t → n - a - st < n - k
    by true t = omega (arith, y (ltb-true st (n - a) t), i, h)
    by false t = omega (arith, ltb-false st (n - a) t, h)

pub fast_enough : FastEnough
unfolding ahead
fast_enough n p h f = omega (arith, at_pace (n - 1) p h (omega (arith, f)))
