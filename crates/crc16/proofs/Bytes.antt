-- Bytes by a table of 256 entries, and a word by its bytes, whatever the table. Assumes nothing.
use mathlib.Core.Path.{◌≡◌, refl, sym, ap, ap₂, ◌∙◌}
use Prim.Native.Nat.{ℕ, ◌/◌, ◌%◌, ◌<◌}
use native.Mathlib.Omega.{arith}
use Rattle.crc16.specs.Crc.{crc_byte, crc_word}
use Rattle.crc16.specs.Tables.{fed, fed_pieces, by_bytes}
use Rattle.crc16.proofs.Laws.{byte_lt}
use Rattle.crc16.proofs.Pieces.{pieces_in, by_bytes_lem}

-- a byte is one lookup in the table of 256
pub one_lookup : (c b : ℕ) → c < 65536 → b < 256 → fed 8 c b ≡ crc_byte c b
unfolding crc_byte fed_pieces
one_lookup c b hc hb = let j : b ≡ b / 1 % 256 = omega arith in ap (λ (y : ℕ). fed 8 c y) j ∙ pieces_in 8 8 refl 1 c b hc

-- a word by its bytes, the high one first
pub two_bytes : (c w : ℕ) → c < 65536 → w < 65536 → crc_byte (crc_byte c (w / 256)) (w % 256) ≡ crc_word c w
unfolding by_bytes fed_pieces
two_bytes c w hc hw =
    let i : w / 256 ≡ w / 256 % 256 = omega arith in
    let j : w % 256 ≡ w / 1 % 256 = omega arith in
    let l : w / 256 < 256 = omega arith in
    let m : w % 256 < 256 = omega arith in
    sym (one_lookup (crc_byte c (w / 256)) (w % 256) (byte_lt c (w / 256) hc) m)
    ∙ ap₂ (λ (x y : ℕ). fed 8 x y) (sym (one_lookup c (w / 256) hc l) ∙ ap (λ (y : ℕ). fed 8 c y) i) j
    ∙ by_bytes_lem c w hc

pub to_word : (c w a r : ℕ) → c < 65536 → w < 65536 → a ≡ crc_byte c (w / 256) → r ≡ crc_byte a (w % 256) → r ≡ crc_word c w
to_word c w a r hc hw e f = f ∙ ap (λ (x : ℕ). crc_byte x (w % 256)) e ∙ two_bytes c w hc hw
