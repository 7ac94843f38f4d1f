-- The command words: 01's table (01 Frames, "command number in bits 15..12"), with the fields where the layout has them (02 item 7). Assumes nothing.
use Rattle.std.specs.Prelude.{Bool, true, false, ◌&&◌, List, [], ◌∷◌, ℕ, ◌+◌, ◌/◌, ◌%◌, ltb, leb, eqb, get_or}
use Rattle.base.specs.Pick.{pick}
use Rattle.layout.specs.declared.Layout.{Layout}
use Rattle.layout.specs.declared.Layout.TheVariants.{Ours, Makers}
use Rattle.command.specs.declared.Command.{Command}
use Rattle.command.specs.declared.Command.TheVariants.{Filler, Malformed, Forward, DataRead, RegisterWrite, RegisterRead, SoftReset}
use Rattle.command.specs.declared.Fields.{Fields}

-- The most words of FWD_WR_CRC, of any forward, extra ENDs of one, words read at once (001 table 7-2, 7.5.3), and the end of the registers
-- ("01's address limit becomes 12", 02 item 4; that a span past it is malformed is 01 Frames, ours)
abbrev pub most_checked : ℕ
most_checked = 512

abbrev pub most_words : ℕ
most_words = 4096

abbrev pub most_ends : ℕ
most_ends = 127

abbrev pub most_read : ℕ
most_read = 256

abbrev pub registers_end : ℕ
registers_end = 12

-- "SOFTRESET_CRC 0xE 0x1E1": the maker's fixed low bits of number 14. 001 table 7-2
abbrev pub reset_bits : ℕ
reset_bits = 0x1E1

-- The fields of the low twelve bits, where a layout has them.
-- Ours (01 Frames). 4 to 7: "bits 4..0 words .., bits 11..5 extra ENDs". 10 to 13: "bits 11..8 count minus 1; bits 7..4 zero; bits 3..0 address". 14: "0".
-- The maker's (001 table 7-2). 4 to 7: data_length 11..7, extra_end_bytes 6..0. 10 to 13: 0x0 11..10, address 9..6, 0x0 5..4, data_length 3..0. 14: 0x1E1.
unfoldable pub fields_of : Layout → ℕ → Fields
fields_of Ours low = record {
  words = low % 32;
  ends = low / 32;
  zeros = eqb (low / 16 % 16) 0;
  address = low % 16;
  count = low / 256 + 1;
  reset = eqb low 0;
}
fields_of Makers low = record {
  words = low / 128;
  ends = low % 128;
  zeros = eqb (low / 1024) 0 && eqb (low / 16 % 4) 0;
  address = low / 64 % 16;
  count = low % 16 + 1;
  reset = eqb low reset_bits;
}

-- The rows of the table, by the low twelve bits or the fields in them. `crc`: the command is named _CRC.

-- 2, 3: "words minus 1; at most 512 for 2, 4,096 for 3"; data_length[8:0] under 0x0, data_length[11:0] (001 table 7-2)
unfoldable pub write : Bool → ℕ → ℕ → Command
write crc most low = pick (leb (low + 1) most) (Forward crc (low + 1) 0 false) Malformed

-- 4, 5: "words, 0 to 31", and extra ENDs
abbrev pub write_ends : Bool → Fields → Command
write_ends crc f = Forward crc f.words f.ends false

-- 6, 7: "words minus 1 (to 32)", and extra ENDs
abbrev pub read_ends : Bool → Fields → Command
read_ends crc f = Forward crc (f.words + 1) f.ends true

-- 8, 9: "bits 7..0 words minus 1; rest 0"; data_length[7:0] under 0x0 (001 table 7-2)
unfoldable pub data_read : Bool → ℕ → Command
data_read crc low = pick (ltb low most_read) (DataRead crc (low + 1)) Malformed

-- 10 to 13: the zero bits are zero, and "address + count at most" 12 (02 item 4)
unfoldable pub spans : Fields → Bool
spans f = f.zeros && leb (f.address + f.count) registers_end

unfoldable pub register_write : Bool → Fields → Command
register_write crc f = pick (spans f) (RegisterWrite crc f.address f.count) Malformed

unfoldable pub register_read : Bool → Fields → Command
register_read crc f = pick (spans f) (RegisterRead crc f.address f.count) Malformed

-- 14: the fixed low bits
unfoldable pub soft_reset : Fields → Command
soft_reset f = pick f.reset SoftReset Malformed

-- the table: a row for each number
unfoldable pub rows : Fields → ℕ → List Command
rows f low =
    Malformed
    ∷ Malformed
    ∷ write true most_checked low
    ∷ write false most_words low
    ∷ write_ends true f
    ∷ write_ends false f
    ∷ read_ends true f
    ∷ read_ends false f
    ∷ data_read true low
    ∷ data_read false low
    ∷ register_write true f
    ∷ register_write false f
    ∷ register_read true f
    ∷ register_read false f
    ∷ soft_reset f
    ∷ []

-- one decision by number; "Everything else is malformed"
unfoldable pub by_number : Layout → ℕ → ℕ → Command
by_number layout number low = get_or (rows (fields_of layout low) low) number Malformed

-- "Outside a frame 0xFFFF is filler"
unfoldable pub decode_by : Layout → ℕ → Command
decode_by layout word = pick (eqb word 0xFFFF) Filler (by_number layout (word / 4096) (word % 4096))
