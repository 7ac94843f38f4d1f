-- The CRC of words: it is a word, and a list's goes on word by word. Assumes nothing.
use mathlib.Core.Path.{◌≡◌, refl}
use mathlib.Core.Bool.{Bool}
use mathlib.Core.List.{List, [], ◌∷◌}
use Prim.Native.Nat.{ℕ, ◌+◌, ◌*◌, ◌≤◌, ◌<◌}
use native.Mathlib.Numerals.{add-one}
use native.Mathlib.Omega.{arith}
use lib.Bits.{xor_lt}
use lib.ListN.{length, drop, get_or}
use lib.Seq.{drop-cons, drop-length}
use Rattle.base.specs.Bits.{val, val_le}
use Rattle.crc16.specs.Crc.{crc_bit, crc_bits, crc_byte, crc_word, crc_from}
use Rattle.crc16.proofs.Linear.{shift_lt}

pub bit_lt : (c : ℕ) (b : Bool) → c < 65536 → crc_bit c b < 65536
unfolding crc_bit
bit_lt c b h = let v : val b ≤ 1 = val_le b in shift_lt _ (xor_lt 16 c (val b * 32768) h (omega arith))

bits_lt : (bs : List Bool) (c : ℕ) → c < 65536 → crc_bits c bs < 65536
unfolding crc_bits
bits_lt [] c h = h
bits_lt (b ∷ bs) c h = bits_lt bs (crc_bit c b) (bit_lt c b h)

pub byte_lt : (c b : ℕ) → c < 65536 → crc_byte c b < 65536
unfolding crc_byte
byte_lt c b h = bits_lt _ c h

pub crc_lt : (c w : ℕ) → c < 65536 → w < 65536 → crc_word c w < 65536
unfolding crc_word
crc_lt c w h k = bits_lt _ c h

-- the words from i on bring the CRC so far to the whole list's
pub record Inv (start : ℕ) (words : List ℕ) (crc i : ℕ) : Type 0 where
  pub bound : i ≤ length words
  pub rest : crc_from crc (drop i words) ≡ crc_from start words

module _ (start : ℕ) (words : List ℕ) where
  pub first : Inv start words start 0
  first = record { bound = omega arith; rest = refl }

  module _ (crc i : ℕ) (v : Inv start words crc i) where
    pub next : (r : ℕ) → i < length words → r ≡ crc_word crc (get_or words i 0) → Inv start words r (i + 1)
    unfolding crc_from
    next r h e = record {
      bound = omega arith;
      rest = rw (e, add-one) (rw (drop-cons words i 0) at v.rest);
    }

    pub last : length words ≤ i → crc ≡ crc_from start words
    unfolding crc_from
    last h = let z : i ≡ length words = omega (arith, v.bound) in rw (z, drop-length) at v.rest
