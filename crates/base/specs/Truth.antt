-- Laws of tests: what a joined test says of its parts, and that a test does not both pass and fail. Assumes nothing.
use Rattle.std.specs.Prelude.{◌≡◌, refl, Bool, true, false, not, ◌&&◌, ◌||◌, ℕ, ◌≤◌, ltb}
use Rattle.std.proofs.Common.{sym, ◌∙◌, arith, ltb-false}
use Rattle.base.specs.Pick.{pick}

pub never : {A : Type 0} (t : Bool) → t ≡ true → t ≡ false → A
never t h k = let z : ◌≡◌ {A = ℕ} 0 1 = cc in absurd (omega arith)

pub none_left : (n : ℕ) → ltb 0 n ≡ false → n ≡ 0
none_left n e = let h : n ≤ 0 = ltb-false 0 n e in omega arith

-- what a function answered
pub told : (t b : Bool) → t ≡ b → t ≡ true → b ≡ true
told t b h k = sym h ∙ k

pub not_told : (s t : Bool) → s ≡ t → not s ≡ not t
not_told s t h = rw h

pub and_told : (a s t : Bool) → s ≡ t → (a && s) ≡ (a && t)
and_told a s t h = rw h

-- tests joined by `&&`
pub and_again : (a b c : Bool) → ((a && b) && c) ≡ (a && (b && c))
and_again true b c = refl
and_again false b c = refl

pub and_end : (a : Bool) → (a && true) ≡ a
and_end true = refl
and_end false = refl

pub and_none : (a b : Bool) → b ≡ false → (a && b) ≡ false
and_none true b h = h
and_none false b h = refl

pub and_not : (a : Bool) → (a && not a) ≡ false
and_not true = refl
and_not false = refl

pub and_first : (a b : Bool) → (a && b) ≡ false → b ≡ true → a ≡ false
and_first true b h k = sym k ∙ h
and_first false b h k = refl

pub and_last : (a b : Bool) → (a && b) ≡ false → a ≡ true → b ≡ false
and_last true b h k = h
and_last false b h k = never false k refl

-- tests joined by `||`
pub or_left : (a b : Bool) → a ≡ true → (a || b) ≡ true
or_left a b h = rw h

pub or_true : (a : Bool) → (a || true) ≡ true
or_true true = refl
or_true false = refl

pub or_end : (a : Bool) → (a || false) ≡ true → a ≡ true
or_end true h = refl
or_end false h = h

pub or_none : (a b : Bool) → b ≡ false → (a || b) ≡ a
or_none true b h = refl
or_none false b h = h

pub or_l : (a b : Bool) → (a || b) ≡ false → a ≡ false
or_l true b h = h
or_l false b h = refl

pub or_r : (a b : Bool) → (a || b) ≡ false → b ≡ false
or_r true b h = cc
or_r false b h = h

-- a choice that passed, though one of its outcomes is a refusal
pub denied : (c x : Bool) → pick c false x ≡ true → c ≡ false
unfolding pick
denied true x h = sym h
denied false x h = refl

pub allowed : (c x : Bool) → pick c false x ≡ true → x ≡ true
unfolding pick
allowed true x h = cc
allowed false x h = h

pub chosen_by : (c x : Bool) → pick c x false ≡ true → c ≡ true
unfolding pick
chosen_by true x h = refl
chosen_by false x h = h

pub chosen : (c x : Bool) → pick c x false ≡ true → x ≡ true
unfolding pick
chosen true x h = h
chosen false x h = cc
