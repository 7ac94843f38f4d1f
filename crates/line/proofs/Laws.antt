-- Laws of the definitions, in the form in which the functions' proofs ask them. Assumes nothing.
use mathlib.Core.Path.{◌≡◌, refl, sym}
use mathlib.Core.Bool.{Bool, true, false, not}
use mathlib.Core.Logic.{◌≢◌}
use Prim.Native.Nat.{ℕ, ◌+◌, ◌*◌, ◌%◌, ◌≤◌, ◌<◌, min}
use native.Mathlib.Omega.{arith}
use lib.Dec.{ltb, eqb}
use borrow.Author.Tests.{eq-eqb, ne_eqb, eqb-true, eqb-false, ltb-true, ltb-false}
use Rattle.std.specs.Int.{from_bool}
use Rattle.base.specs.Pick.{pick_keeps}
use Rattle.base.specs.Bits.{val, odd}
use Rattle.line.specs.declared.Piece.{Piece}
use Rattle.line.specs.declared.Ear.{Ear}
use Rattle.line.specs.declared.Heard.{Heard}
use Rattle.line.specs.Format.{check_bit, piece_bit}
use Rattle.line.specs.declared.Ear.TheVariants.{Group}
use Rattle.line.specs.declared.Found.TheVariants.{Nothing, Word}
use Rattle.line.specs.Reader.{heard, run_on, shift_in, next_number, hear, in_group, in_lost}

-- a test by 0 is the other test by 1
pub is_check : (w : ℕ) → eqb (w % 2) 0 ≡ check_bit w
unfolding check_bit odd
is_check w = go (eqb (w % 2) 1) refl
  where
    go : (t : Bool) → eqb (w % 2) 1 ≡ t → eqb (w % 2) 0 ≡ not t
    go true e = let o : w % 2 ≡ 1 = eqb-true (w % 2) 1 e in ne_eqb (w % 2) 0 (λ z. omega arith)
    go false e = let n : w % 2 ≢ 1 = eqb-false (w % 2) 1 e in eq-eqb (w % 2) 0 (omega arith)

-- a run by the bit
pub to_run : (ones : ℕ) (b : Bool) (s x : ℕ) → b ≡ true → s ≡ min (ones + 1) 65535 → x ≡ min s 18 → x ≡ run_on ones b
unfolding run_on
to_run ones b s x h e f =
    rw h
    (pick_keeps (λ (m : ℕ). x ≡ m) (ltb ones 18) (ones + 1) 18
    (λ t. let l : ones < 18 = ltb-true ones 18 t in omega arith)
    (λ t. let l : 18 ≤ ones = ltb-false ones 18 t in omega arith))

pub to_break : (ones : ℕ) (b : Bool) → b ≡ false → 0 ≡ run_on ones b
unfolding run_on
to_break ones b h = rw h

-- a bit by its number
number_of : (n : ℕ) (b : Bool) → n ≡ from_bool b → n ≡ val b
unfolding val
number_of n true h = h
number_of n false h = h

pub told_sum : (n k : ℕ) (b : Bool) → n ≡ from_bool b → n + k ≡ 1 → val b + k ≡ 1
told_sum n k b h e = rw (number_of n b h) at e

pub denied_sum : (n k : ℕ) (b : Bool) → n ≡ from_bool b → (n + k ≡ 1 → ⊥) → val b + k ≡ 1 → ⊥
denied_sum n k b h e = rw (number_of n b h) at e

pub to_shifted : (i value bits ones n : ℕ) (b : Bool) → n ≡ from_bool b
    → heard (Group i (value % 32768 * 2 + n) (bits + 1) ones) Nothing ≡ heard (Group i (shift_in value b) (bits + 1) ones) Nothing
unfolding shift_in
to_shifted i value bits ones n b h = rw (number_of n b h)

-- a word, by the number that its follower got
pub to_numbered : (i n value ones : ℕ) → n ≡ next_number i
    → heard (Group n 0 0 ones) (Word value) ≡ heard (Group (next_number i) 0 0 ones) (Word value)
to_numbered i n value ones h = rw h

-- an arm knows the constructor
pub to_piece_bit : (p q : Piece) (i : ℕ) (x : Bool) → p ≡ q → x ≡ piece_bit q i → x ≡ piece_bit p i
to_piece_bit p q i x h e = rw h e

pub to_hear : (e v : Ear) (b : Bool) (x : Heard) → v ≡ e → x ≡ hear e b → x ≡ hear v b
to_hear e v b x h f = rw h f

-- the parts of a bit in a group or after a check error, by what the run has become
pub to_group : (i value bits ones run : ℕ) (b : Bool) (x : Heard) → run ≡ run_on ones b → x ≡ in_group i value bits run b
    → x ≡ in_group i value bits (run_on ones b) b
to_group i value bits ones run b x h f = rw (sym h) f

pub to_lost : (ones run : ℕ) (b : Bool) (x : Heard) → run ≡ run_on ones b → x ≡ in_lost run → x ≡ in_lost (run_on ones b)
to_lost ones run b x h f = rw (sym h) f
