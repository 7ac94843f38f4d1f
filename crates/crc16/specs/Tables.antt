-- The CRC by a table, n bits of the message with one lookup: n is 8 in document 01 and 4 since 02 item 5. Assumes nothing.
use Rattle.std.specs.Prelude.{ℕ, zero, suc, ◌-◌, ◌*◌, ◌/◌, ◌%◌, ◌^◌}
use Rattle.std.specs.Int.Bits.{bit_xor}
use Rattle.base.specs.Bits.{word_length, word_end}
use Rattle.crc16.specs.Crc.{shifts}

-- the table's rule: entry k is n polynomial shifts of k at the top of the CRC. 01 Frames, 02 item 5
unfoldable pub entry_of : ℕ → ℕ → ℕ
entry_of n k = shifts n (k * 2 ^ (word_length - n))

-- n bits p into the CRC, with one lookup: c := (c << n) xor table[(c >> (16 - n)) xor p]. Ours, for 01's "steps by a table" and 02 item 5's "two
-- lookups a byte"
unfoldable pub fed : ℕ → ℕ → ℕ → ℕ
fed n c p = bit_xor (c * 2 ^ n % word_end) (entry_of n (bit_xor (c / 2 ^ (word_length - n)) p))

-- the j lowest pieces of a word, each of n bits, the high one first. Ours
unfoldable pub fed_pieces : ℕ → ℕ → ℕ → ℕ → ℕ
fed_pieces n zero c w = c
fed_pieces n (suc j) c w = fed_pieces n j (fed n c (w / 2 ^ (n * j) % 2 ^ n)) w

-- a word by the table of sixteen entries (02 item 5), and by that of 256 (01 Frames)
unfoldable pub by_nibbles : ℕ → ℕ → ℕ
by_nibbles c w = fed_pieces 4 4 c w

unfoldable pub by_bytes : ℕ → ℕ → ℕ
by_bytes c w = fed_pieces 8 2 c w
