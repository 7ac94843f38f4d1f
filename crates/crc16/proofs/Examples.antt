-- The sheet's own numbers: its reset word 0xE1E1 with either start, bit by bit and by both tables (001 7.5.4). Assumes nothing.
use mathlib.Core.Path.{◌≡◌, refl}
use Rattle.base.specs.Bits.{val, odd, bit, high_first}
use Rattle.crc16.specs.Crc.{start, shift, shifts, crc_bit, crc_bits, crc_word}
use Rattle.crc16.specs.Tables.{entry_of, fed, fed_pieces, by_nibbles, by_bytes}

-- CCITT-FALSE
reset_word : crc_word start 0xE1E1 ≡ 0xD383
unfolding crc_word crc_bits crc_bit shift high_first bit odd val
reset_word = refl

-- CRC-16/XMODEM
reset_word_from_0 : crc_word 0 0xE1E1 ≡ 0xCE8C
unfolding crc_word crc_bits crc_bit shift high_first bit odd val
reset_word_from_0 = refl

by_sixteen : by_nibbles start 0xE1E1 ≡ 0xD383
unfolding by_nibbles fed_pieces fed entry_of shifts shift
by_sixteen = refl

by_256 : by_bytes start 0xE1E1 ≡ 0xD383
unfolding by_bytes fed_pieces fed entry_of shifts shift
by_256 = refl
