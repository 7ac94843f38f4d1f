-- A choice by a test, and the laws by which a proof goes through one. Assumes nothing.
use Rattle.std.specs.Prelude.{◌≡◌, refl, Bool, true, false, ◌&&◌, ℕ, ◌≤◌, ◌<◌, ltb, leb, eqb}
use Rattle.std.proofs.Common.{sym, ◌∙◌, ap, lt-ltb, le-ltb, le-leb, eq-eqb, ne_eqb}
use Rattle.std.proofs.lemmas.Bool.{lt-leb}

-- the first where the test passes, else the second
unfoldable pub pick : {A : Type 0} → Bool → A → A → A
pick true a b = a
pick false a b = b

-- by a test that is known
pub pick_true : {A : Type 0} (t : Bool) (r x y : A) → t ≡ true → r ≡ x → r ≡ pick t x y
unfolding pick
pick_true t r x y h e = rw h e

pub pick_false : {A : Type 0} (t : Bool) (r x y : A) → t ≡ false → r ≡ y → r ≡ pick t x y
unfolding pick
pick_false t r x y h e = rw h e

-- by what a function answered for the test
pub pick_told : {A : Type 0} (s t : Bool) (r x y : A) → s ≡ t → s ≡ true → r ≡ x → r ≡ pick t x y
pick_told s t r x y h k e = pick_true t r x y (sym h ∙ k) e

pub pick_denied : {A : Type 0} (s t : Bool) (r x y : A) → s ≡ t → s ≡ false → r ≡ y → r ≡ pick t x y
pick_denied s t r x y h k e = pick_false t r x y (sym h ∙ k) e

-- by numbers
module _ {A : Type 0} (m n : ℕ) (r x y : A) where
  pub pick_lt : m < n → r ≡ x → r ≡ pick (ltb m n) x y
  pick_lt h e = pick_true _ r x y (lt-ltb m n h) e

  pub pick_not_lt : n ≤ m → r ≡ y → r ≡ pick (ltb m n) x y
  pick_not_lt h e = pick_false _ r x y (le-ltb m n h) e

  pub pick_le : m ≤ n → r ≡ x → r ≡ pick (leb m n) x y
  pick_le h e = pick_true _ r x y (le-leb m n h) e

  pub pick_not_le : n < m → r ≡ y → r ≡ pick (leb m n) x y
  pick_not_le h e = pick_false _ r x y (lt-leb m n h) e

  pub pick_eq : m ≡ n → r ≡ x → r ≡ pick (eqb m n) x y
  pick_eq h e = pick_true _ r x y (eq-eqb m n h) e

  pub pick_ne : (m ≡ n → ⊥) → r ≡ y → r ≡ pick (eqb m n) x y
  pick_ne h e = pick_false _ r x y (ne_eqb m n h) e

-- what both outcomes keep, the choice keeps
pub pick_keeps : {A : Type 0} (P : A → Type 0) (t : Bool) (x y : A) → (t ≡ true → P x) → (t ≡ false → P y) → P (pick t x y)
unfolding pick
pick_keeps P true x y f g = f refl
pick_keeps P false x y f g = g refl

-- the parts of a test by `&&`
pub and_l : (a b : Bool) → (a && b) ≡ true → a ≡ true
and_l true b h = refl
and_l false b h = h

pub and_r : (a b : Bool) → (a && b) ≡ true → b ≡ true
and_r true b h = h
and_r false b h = cc

pub and_both : (a b : Bool) → a ≡ true → b ≡ true → (a && b) ≡ true
and_both a b h k = rw (h, k)

pub ruleset picks = (pick_true, pick_false, pick_told, pick_denied, pick_lt, pick_not_lt, pick_le, pick_not_le, pick_eq, pick_ne)
