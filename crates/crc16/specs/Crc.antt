-- CRC-16, bit by bit from its polynomial (01 Frames, "CRC (ours)"). Assumes nothing.
use Rattle.std.specs.Prelude.{Bool, List, [], ◌∷◌, ℕ, zero, suc, ◌*◌, ◌/◌, ◌%◌}
use Rattle.std.specs.Int.Bits.{bit_xor}
use Rattle.base.specs.Bits.{word_length, word_end, top_bit, val, high_first}

-- x^16 + x^12 + x^5 + 1, without its x^16. 01 Frames (ours), as 001 7.5.3
abbrev pub polynomial : ℕ
polynomial = 0x1021

-- where the CRC starts. 01 Frames (ours)
abbrev pub start : ℕ
start = 0xFFFF

-- one polynomial shift: the top bit goes out, and where it was 1 the polynomial is taken off
unfoldable pub shift : ℕ → ℕ
shift c = bit_xor (c * 2 % word_end) (c / top_bit * polynomial)

unfoldable pub shifts : ℕ → ℕ → ℕ
shifts zero c = c
shifts (suc n) c = shifts n (shift c)

-- one bit of the message is added to the top bit, then one shift
unfoldable pub crc_bit : ℕ → Bool → ℕ
crc_bit c b = shift (bit_xor c (val b * top_bit))

unfoldable pub crc_bits : ℕ → List Bool → ℕ
crc_bits c [] = c
crc_bits c (b ∷ bs) = crc_bits (crc_bit c b) bs

-- a byte, high bit first
unfoldable pub crc_byte : ℕ → ℕ → ℕ
crc_byte c b = crc_bits c (high_first 8 b)

-- a word, high bit first
unfoldable pub crc_word : ℕ → ℕ → ℕ
crc_word c w = crc_bits c (high_first word_length w)

-- words, from a CRC so far
unfoldable pub crc_from : ℕ → List ℕ → ℕ
crc_from c [] = c
crc_from c (w ∷ ws) = crc_from (crc_word c w) ws

-- the CRC of a list of words, with no final change
unfoldable pub crc_of : List ℕ → ℕ
crc_of ws = crc_from start ws
