-- The code's nibbles against the definitions. Assumes nothing.
use mathlib.Core.Path.{◌≡◌, refl, ap, ap₂, ◌∙◌}
use Prim.Native.Nat.{ℕ, ◌*◌, ◌/◌, ◌%◌, ◌≤◌, ◌<◌}
use native.Mathlib.Nat.{div-lt_iff_lt-mul}
use native.Mathlib.Omega.{arith}
use lib.Bits.{bit_xor, xor_lt}
use Rattle.crc16.specs.Crc.{crc_byte}
use Rattle.crc16.specs.Tables.{entry_of, fed, fed_pieces}
use Rattle.crc16.proofs.Pieces.{piece_in, pieces_in}

-- what is looked up is below 16: the bits at the top of the CRC, four at most, and the nibble
pub top_lt : (c d : ℕ) → c < 65536 → 4096 ≤ d → c / d < 16
top_lt c d h k = let p : 0 < d = omega arith in let m : c < 16 * d = omega arith in (div-lt_iff_lt-mul p).1 m

pub in_table : (a p : ℕ) → a < 16 → p < 16 → bit_xor a p < 16
in_table a p ha hp = xor_lt 4 a p ha hp

pub nibble_in : (c p x : ℕ) → x ≡ entry_of 4 (bit_xor (c / 4096) p) → bit_xor (c % 4096 * 16) x ≡ fed 4 c p
nibble_in c p x h = piece_in 4 12 refl c p x h

-- a byte by its nibbles, the high one first
pub to_byte : (c b a r : ℕ) → c < 65536 → b < 256 → a ≡ fed 4 c (b / 16) → r ≡ fed 4 a (b % 16) → r ≡ crc_byte c b
unfolding crc_byte fed_pieces
to_byte c b a r hc hb e f =
    let i : b / 16 ≡ b / 16 % 16 = omega arith in
    let j : b % 16 ≡ b / 1 % 16 = omega arith in
    f ∙ ap₂ (λ (x y : ℕ). fed 4 x y) (e ∙ ap (λ (y : ℕ). fed 4 c y) i) j ∙ pieces_in 4 12 refl 2 c b hc
