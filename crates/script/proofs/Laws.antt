-- Laws of the script's definitions, as the functions' proofs ask them. Assumes nothing.
use Rattle.std.specs.Prelude.{List, [], ◌∷◌, ◌<◌, eqb, length, take, Option, None, Some}
use Rattle.std.specs.Bool.{then_some}
use Rattle.std.specs.Cmp.Lexicographic.{pointwise}
use Rattle.std.proofs.Common.{eq-eqb, ne_eqb, eqb-true}
use Rattle.std.proofs.Math.Bool.{and-false}
use mathlib.Core.Path.{◌≡◌, refl, sym, ◌∙◌, ap}
use mathlib.Core.Bool.{Bool, true, false}
use Prim.Native.Nat.{ℕ, suc, ◌-◌, ◌≤◌, zero-le}
use native.Mathlib.Omega.{arith}
use Rattle.base.specs.Arms.{past}
use Rattle.base.specs.Pick.{pick, pick_lt, pick_not_lt}
use Rattle.base.specs.Truth.{never, and_again, and_end}
use Rattle.events.specs.declared.Event.{Event}
use Rattle.script.specs.Script.{is_head, power_record, record_of, sign}

-- an arm knows the kind
pub to_kind : (kind value k : ℕ) (x : Option Event) → kind ≡ k → x ≡ record_of k value → x ≡ record_of kind value
to_kind kind value k x e f = f ∙ ap (λ (n : ℕ). record_of n value) (sym e)

beyond : (kind value : ℕ) → 5 ≤ kind → None ≡ record_of kind value
unfolding record_of
beyond kind value h = let e : kind ≡ suc (suc (suc (suc (suc (kind - 5))))) = omega arith in to_kind kind value _ None e refl

pub to_bad : (kind value : ℕ) → (kind ≡ 0 → ⊥) → (kind ≡ 1 → ⊥) → (kind ≡ 2 → ⊥) → (kind ≡ 3 → ⊥) → (kind ≡ 4 → ⊥) → None ≡ record_of kind value
to_bad kind value h0 h1 h2 h3 h4 = beyond kind value (past 4 h4 (past 3 h3 (past 2 h2 (past 1 h1 (past 0 h0 zero-le)))))

-- an arm knows the value
pub to_value : (value k : ℕ) (x : Option Event) → value ≡ k → x ≡ power_record k → x ≡ power_record value
to_value value k x e f = f ∙ ap (λ (n : ℕ). power_record n) (sym e)

unknown : (value : ℕ) → 4 ≤ value → None ≡ power_record value
unfolding power_record
unknown value h = let e : value ≡ suc (suc (suc (suc (value - 4)))) = omega arith in to_value value _ None e refl

pub to_no_power : (value : ℕ) → (value ≡ 0 → ⊥) → (value ≡ 1 → ⊥) → (value ≡ 2 → ⊥) → (value ≡ 3 → ⊥) → None ≡ power_record value
to_no_power value h0 h1 h2 h3 = unknown value (past 3 h3 (past 2 h2 (past 1 h1 (past 0 h0 zero-le))))

-- a bit's sign
pub sign_one : (b : Bool) → b ≡ true → 0x31 ≡ sign b
unfolding sign
sign_one b e = rw e

pub sign_zero : (b : Bool) → b ≡ false → 0x30 ≡ sign b
unfolding sign
sign_zero b e = rw e

-- a value where a test passes
pub to_some : {A : Type 0} (t : Bool) (x : A) → then_some t x ≡ pick t (Some x) None
unfolding pick
to_some true x = refl
to_some false x = refl

-- the mark's bytes, as `starts_with` compares them
byte_by : (a b : ℕ) (t : Bool) → eqb b a ≡ t → eqb a b ≡ t
byte_by a b true h = eq-eqb a b (sym (eqb-true b a h))
byte_by a b false h = ne_eqb a b (λ e. never _ (eq-eqb b a (sym e)) h)

same_byte : (a b : ℕ) → eqb a b ≡ eqb b a
same_byte a b = byte_by a b _ refl

abbrev mark : List ℕ
mark = 0x43 ∷ 0x57 ∷ 0x42 ∷ 0 ∷ 1 ∷ []

short : (s : List ℕ) (t : Bool) → t ≡ false → length s < 5 → t ≡ is_head s
short s t e h = pick_lt (length s) 5 t _ _ h e

pub to_head : (s : List ℕ) → pointwise eqb mark (take 5 s) ≡ is_head s
to_head [] = short [] _ refl (omega arith)
to_head (a ∷ []) = short (a ∷ []) _ (simp and-false) (omega arith)
to_head (a ∷ b ∷ []) = short (a ∷ b ∷ []) _ (simp and-false) (omega arith)
to_head (a ∷ b ∷ c ∷ []) = short (a ∷ b ∷ c ∷ []) _ (simp and-false) (omega arith)
to_head (a ∷ b ∷ c ∷ d ∷ []) = short (a ∷ b ∷ c ∷ d ∷ []) _ (simp and-false) (omega arith)
to_head (a ∷ b ∷ c ∷ d ∷ e ∷ r) =
    pick_not_lt (length (a ∷ b ∷ c ∷ d ∷ e ∷ r)) 5 _ _ _ (omega arith)
    (rw (same_byte a 0x43, same_byte b 0x57, same_byte c 0x42, same_byte d 0, same_byte e 1, and_end) (simp and_again))
