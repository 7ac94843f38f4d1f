-- That a run is not cut, and that it keeps a pace, as tests, for runs that are computed. Assumes nothing.
use mathlib.Core.Path.{◌≡◌, refl, subst, sym}
use mathlib.Core.Bool.{Bool, true, false, not, ◌&&◌, ◌||◌}
use mathlib.Core.List.{List, [], ◌∷◌, ◌++◌}
use Prim.Native.Nat.{ℕ, ◌+◌, ◌/◌, ◌≤◌, ◌<◌}
use native.Mathlib.Omega.{arith}
use lib.Dec.{leb}
use borrow.Author.Tests.{leb-true}
use Rattle.base.specs.Pick.{and_l, and_r}
use Rattle.base.specs.Truth.{never}
use Rattle.command.specs.Layouts.{Layouts}
use Rattle.events.specs.declared.Event.{Event}
use Rattle.events.specs.declared.Event.TheVariants.{Power, Word, Release, Tick, Clock as ClockReading}
use Rattle.bridge.specs.Runs.{Config, next, end_of, ticks_in}
use Rattle.bridge.proofs.Ticks.{ticks_append}
use Rattle.order.specs.Accepted.{plan_of}
use Rattle.order.specs.Premises.{losing}
use Rattle.ahead.specs.Ahead.{tick_after, puts, stored_in, Uncut}
use Rattle.ahead.proofs.Ahead.{each_none, each_first}

unfoldable pub uncut : Layouts → Config → List Event → Bool
uncut l c [] = true
uncut l c (e ∷ es) = not (losing l c e) && uncut l (next l c e) es

unfoldable pub on_time : ℕ → ℕ → ℕ → ℕ → Event → Bool
on_time p m t st (Power good layout) = true
on_time p m t st (Word w) = true
on_time p m t st Release = true
on_time p m t st (Tick sin) = leb m st || leb ((t + 1) / p) st
on_time p m t st (ClockReading reading) = true

-- t ticks and st words were before it
unfoldable pub paces : ℕ → Layouts → Config → ℕ → ℕ → ℕ → List Event → Bool
paces p l c m t st [] = true
paces p l c m t st (e ∷ es) = on_time p m t st e && paces p l (next l c e) m (t + ticks_in (e ∷ [])) (st + puts (plan_of l c e).store) es

not_true : (b : Bool) → not b ≡ true → b ≡ false
not_true true h = never false h refl
not_true false h = refl

pub is_uncut : (l : Layouts) (c : Config) (es : List Event) → uncut l c es ≡ true → Uncut l c es
unfolding uncut end_of
is_uncut l c [] h = each_none _
is_uncut l c (e ∷ es) h = each_first e es _ (not_true _ (and_l _ _ h)) (is_uncut l (next l c e) es (and_r (not (losing l c e)) _ h))

or_or : (a b : Bool) → (a || b) ≡ true → a ≡ false → b ≡ true
or_or true b h e = never true refl e
or_or false b h e = h

pub is_paced : (p : ℕ) (l : Layouts) (c : Config) (m t st : ℕ) (es : List Event) → paces p l c m t st es ≡ true
    → (before : List Event) (sin : Bool) (after : List Event) → es ≡ before ++ (Tick sin ∷ after) → st + stored_in l c before < m → (t + tick_after before) / p ≤ st + stored_in l c before
unfolding paces on_time stored_in tick_after
is_paced p l c m t st [] h [] sin after q k = let z : ◌≡◌ {A = ℕ} 0 1 = cc in absurd (omega arith)
is_paced p l c m t st [] h (y ∷ before) sin after q k = let z : ◌≡◌ {A = ℕ} 0 1 = cc in absurd (omega arith)
is_paced p l c m t st (e ∷ es) h [] sin after q k =
    let d : e ≡ Tick sin = cc in
    let o : on_time p m t st (Tick sin) ≡ true = subst (λ (x : Event). on_time p m t st x ≡ true) d (and_l _ _ h) in
    first o
  where
    first : on_time p m t st (Tick sin) ≡ true → (t + (ticks_in [] + 1)) / p ≤ st + 0
    first o = by (leb m st) refl
      where
        by : (x : Bool) → leb m st ≡ x → (t + (ticks_in [] + 1)) / p ≤ st + 0
        by true x = absurd (omega (arith, k, leb-true m st x))
        by false x = let r : (t + 1) / p ≤ st = leb-true _ _ (or_or _ _ o x) in unfold ticks_in in omega (arith, r)
is_paced p l c m t st (e ∷ es) h (y ∷ before) sin after q k =
    let d : y ≡ e = cc in
    let r : es ≡ before ++ (Tick sin ∷ after) = cc in
    let a : ticks_in (e ∷ before) ≡ ticks_in (e ∷ []) + ticks_in before = ticks_append (e ∷ []) before in
    subst (λ (x : Event). st + stored_in l c (x ∷ before) < m → (t + tick_after (x ∷ before)) / p ≤ st + stored_in l c (x ∷ before)) (sym d)
    (λ i. later a (is_paced p l (next l c e) m _ _ es (and_r (on_time p m t st e) _ h) before sin after r (omega (arith, i)))) k
  where
    later : ticks_in (e ∷ before) ≡ ticks_in (e ∷ []) + ticks_in before
        → (t + ticks_in (e ∷ []) + (ticks_in before + 1)) / p ≤ st + puts (plan_of l c e).store + stored_in l (next l c e) before
        → (t + (ticks_in (e ∷ before) + 1)) / p ≤ st + (puts (plan_of l c e).store + stored_in l (next l c e) before)
    later a i =
        let n : t + ticks_in (e ∷ []) + (ticks_in before + 1) ≡ t + (ticks_in (e ∷ before) + 1) = omega (arith, a) in
        let j : (t + (ticks_in (e ∷ before) + 1)) / p ≤ st + puts (plan_of l c e).store + stored_in l (next l c e) before
        = subst (λ (x : ℕ). x / p ≤ st + puts (plan_of l c e).store + stored_in l (next l c e) before) n i in
        omega (arith, j)
