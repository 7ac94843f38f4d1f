-- Numbers as bits: the words in which documents 01 and 001 speak of registers, command words and the line. Assumes nothing.
use Rattle.std.specs.Prelude.{◌≡◌, refl, Bool, true, false, List, [], ◌∷◌, ◌≢◌, ℕ, zero, suc, ◌/◌, ◌%◌, ◌^◌, ◌≤◌, eqb}
use Rattle.std.proofs.Common.{sym, arith, eqb-true}
use Rattle.std.proofs.lemmas.Bool.{eqb-false}

-- A word of sixteen bits (01 What the bridge is; 001 7.3.2.1): its length, the number past the last one, the number whose one 1 is its first
-- bit, and the one of 1s alone.
abbrev pub word_length : ℕ
word_length = 16

abbrev pub word_end : ℕ
word_end = 65536

abbrev pub top_bit : ℕ
top_bit = 32768

abbrev pub all_ones : ℕ
all_ones = 0xFFFF

-- a bit as a number
unfoldable pub val : Bool → ℕ
val true = 1
val false = 0

-- the lowest bit
unfoldable pub odd : ℕ → Bool
odd n = eqb (n % 2) 1

-- bit k
unfoldable pub bit : ℕ → ℕ → Bool
bit k n = odd (n / 2 ^ k)

-- a flag in its place of a word
unfoldable pub flag : ℕ → Bool → ℕ
flag k true = 2 ^ k
flag k false = 0

-- the low k bits, high bit first
unfoldable pub high_first : ℕ → ℕ → List Bool
high_first zero n = []
high_first (suc k) n = bit k n ∷ high_first k n

-- a bit's number is 0 or 1, and the lowest bit's is the remainder by 2
pub val_le : (b : Bool) → val b ≤ 1
unfolding val
val_le true = omega arith
val_le false = omega arith

pub val_odd : (n : ℕ) → val (odd n) ≡ n % 2
unfolding odd val
val_odd n = go (eqb (n % 2) 1) refl
  where
    go : (t : Bool) → eqb (n % 2) 1 ≡ t → val t ≡ n % 2
    go true e = sym (eqb-true (n % 2) 1 e)
    go false e = let k : n % 2 ≢ 1 = eqb-false (n % 2) 1 e in omega arith
