-- The fields of SPICTRL, where each layout has them (01 Registers; 001 7.6.2, table 7-6; 02 item 7). Bit 0, no answer, is the same in both. Assumes
-- nothing.
use Rattle.std.specs.Prelude.{Bool, false, [], ◌∷◌, ℕ, ◌/◌, ◌%◌, get_or}
use Rattle.base.specs.Bits.{bit}
use Rattle.layout.specs.declared.Layout.{Layout}
use Rattle.layout.specs.declared.Layout.TheVariants.{Ours, Makers}
use Rattle.registers.specs.declared.Regs.{Regs}

-- the maker's watchdog by code, in milliseconds: "0x0 = 40ms 0x1 = 20ms 0x2 = 10ms 0x3 = Disabled". 001 table 7-6
unfoldable pub dog_code : ℕ → ℕ
dog_code code = get_or (40 ∷ 20 ∷ 10 ∷ 0 ∷ []) code 0

-- the watchdog's milliseconds, 0 off: "bits 15..8 watchdog ms (0 off)" (01 Registers, ours); the maker's SPI_WDT_CFG, bits 13..12
unfoldable pub dog_limit_in : Layout → ℕ → ℕ
dog_limit_in Ours spictrl = spictrl / 256
dog_limit_in Makers spictrl = dog_code (spictrl / 4096 % 4)

abbrev pub dog_limit : Regs → ℕ
dog_limit r = dog_limit_in r.layout r.spictrl

-- the algorithm that "the next SPI command uses": ours has one; the maker's SPI_CRC_ALG, bit 2, "0x1 = CRC-16/XMODEM is used"
unfoldable pub is_xmodem_in : Layout → ℕ → Bool
is_xmodem_in Ours spictrl = false
is_xmodem_in Makers spictrl = bit 2 spictrl

abbrev pub is_xmodem : Regs → Bool
is_xmodem r = is_xmodem_in r.layout r.spictrl
