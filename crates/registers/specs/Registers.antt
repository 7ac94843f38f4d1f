-- The registers and what each address reads (01 Registers; 02 items 4 and 7; 001 7.6.1 to 7.6.11). Assumes nothing.
use Rattle.std.specs.Prelude.{Bool, true, false, not, ◌&&◌, ◌||◌, List, [], ◌∷◌, ℕ, ◌+◌, ◌*◌, min, ltb, eqb, get_or}
use Rattle.std.specs.Int.Bits.{bit_and}
use Rattle.base.specs.Bits.{bit, flag}
use Rattle.layout.specs.declared.Layout.{Layout}
use Rattle.layout.specs.declared.Layout.TheVariants.{Ours, Makers}
use Rattle.registers.specs.declared.Register.{Register}
use Rattle.registers.specs.declared.Mode.{Mode}
use Rattle.registers.specs.declared.Mode.TheVariants.{Normal, Init, Failsafe}
use Rattle.registers.specs.declared.Flags.{Flags}
use Rattle.registers.specs.declared.Regs.{Regs}
use Rattle.registers.specs.declared.Control.{Control}

-- a row of a table: what the register reads after power-up, and the bits that a write reaches
abbrev pub row : ℕ → ℕ → Register
row reset writable = record { reset = reset; writable = writable }

-- The rows that both tables have.
abbrev pub from_rxfflvl : List Register
from_rxfflvl =
    row 0x00FF 0x80FF  -- 4 RXFFLVL: bits 7..0; bit 15 clears. 001 7.6.5
    ∷ row 0x0000 0x0005  -- 5 DEVCTRL: 2 force, 0 exit failsafe. 001 7.6.6
    ∷ row 0x0000 0x0B01  -- 6 DIAGMASK: bits 11, 9, 8, 0. 001 7.6.7
    ∷ row 0x0403 0x8000  -- 7 STATUS: bit 15 clears flags. 001 7.6.8
    ∷ row 0x0000 0x0000  -- 8 IFST. 001 7.6.9
    ∷ row 0x0000 0x0000  -- 9 TXFFST. 001 7.6.10
    ∷ row 0x0000 0x0000  -- 10 RXFFST. 001 7.6.11
    ∷ row 0x0000 0x0000  -- 11 BADWORD: the word whose check bit was bad. 02 item 4; its name is ours
    ∷ []

-- The tables (01 Registers, where 0 to 3 and the clear bits are ours; 001 7.6, 02 item 7; docs/NUMBERS.md has them side by side).
unfoldable pub table_of : Layout → List Register
table_of Ours =
    row 0x0000 0x0000  -- 0 DEVID. ours
    ∷ row 0x0000 0xFF01  -- 1 SPICTRL: bits 15..8 watchdog ms (0 off), bit 0 no answer. ours; bit 0 as 001 7.6.2
    ∷ row 0x0000 0xFFFF  -- 2 CCSICTRL. ours, as 001 7.6.3
    ∷ row 0x003F 0x81FF  -- 3 TXFFLVL: bits 8..0; bit 15 clears. ours, as 001 7.6.4; its reset value 02 item 2
    ∷ from_rxfflvl
table_of Makers =
    row 0xED99 0x0000  -- 0 DEVID. 001 7.6.1
    ∷ row 0x00A0 0x30F7  -- 1 SPICTRL: bits 13..12 watchdog, 7..4 timeout, 2 CRC algorithm, 1 SDO disable, 0 no answer. 001 7.6.2
    ∷ row 0x0000 0xFFFF  -- 2 CCSICTRL. as ours (docs/DECISIONS.md)
    ∷ row 0x01FF 0x81FF  -- 3 TXFFLVL. 001 7.6.4
    ∷ from_rxfflvl

abbrev pub row_of : Layout → ℕ → Register
row_of layout address = get_or (table_of layout) address (row 0 0)

-- the registers that hold what was written, after power-up
unfoldable pub reset_regs : Layout → Regs
reset_regs layout = record {
  layout = layout;
  spictrl = (row_of layout 1).reset;
  ccsictrl = (row_of layout 2).reset;
  txfflvl = (row_of layout 3).reset;
  rxfflvl = (row_of layout 4).reset;
  diagmask = (row_of layout 6).reset;
}

-- the levels that TXFFLVL's and RXFFLVL's fields can hold: bits 8..0 and 7..0. 001 7.6.4, 7.6.5
abbrev pub tx_levels : ℕ
tx_levels = 512

abbrev pub rx_levels : ℕ
rx_levels = 256

-- Record rule: the registers hold no bit that a write cannot reach, so that bits that are not writable read 0 (docs/DECISIONS.md).
abbrev pub regs_sound : Regs → Bool
regs_sound r =
    eqb (bit_and r.spictrl (row_of r.layout 1).writable) r.spictrl && ltb r.txfflvl tx_levels && ltb r.rxfflvl rx_levels
    && eqb (bit_and r.diagmask (row_of r.layout 6).writable) r.diagmask

-- "Clearing clears all but OTP"; the number of the bad word goes with its flag (02 item 4)
unfoldable pub cleared : Flags → Flags
cleared f = record {
  otp = f.otp;
  por = false;
  srst = false;
  reg_write = false;
  spi_crc = false;
  spi_cs = false;
  queue_ovf = false;
  check_bit = false;
  line_crc = false;
  sin = false;
  txffovf = false;
  txffuvf = false;
  rxffovf = false;
  rxffuvf = false;
  bad_word = 0;
}

-- "Blocking flags are TXFFOVF, TXFFUVF and QUEUE_OVF." 01 Notes
unfoldable pub blocking : Flags → Bool
blocking f = f.txffovf || f.txffuvf || f.queue_ovf

-- "state (0 NORMAL, 1 INIT, 3 FAILSAFE)". 001 7.6.8
abbrev pub mode_number : Mode → ℕ
mode_number Normal = 0
mode_number Init = 1
mode_number Failsafe = 3

abbrev pub is_normal : Mode → Bool
is_normal Normal = true
is_normal Init = false
is_normal Failsafe = false

abbrev pub is_failsafe : Mode → Bool
is_failsafe Normal = false
is_failsafe Init = false
is_failsafe Failsafe = true

-- "CCSI (IFST 4, 3, 1, 0), SPI (IFST 9), TXFF and RXFF only sum up those flags". SPI is SPI_CS itself.
abbrev pub ccsi : Flags → Bool
ccsi f = f.queue_ovf || f.check_bit || f.line_crc || f.sin

abbrev pub txff : Flags → Bool
txff f = f.txffovf || f.txffuvf

abbrev pub rxff : Flags → Bool
rxff f = f.rxffovf || f.rxffuvf

-- the flags that no DIAGMASK bit masks
abbrev pub unmasked : Flags → Bool
unmasked f =
    f.otp || f.por || f.srst || f.reg_write || f.spi_cs || f.queue_ovf || f.txffovf || f.txffuvf || f.rxffovf || f.rxffuvf

-- the others, each with its "DIAGMASK bit (11 CHECK_BIT, 9 line CRC, 8 SIN, 0 SPI_CRC)"
abbrev pub unhidden : Flags → ℕ → Bool
unhidden f mask =
    (f.check_bit && not (bit 11 mask)) || (f.line_crc && not (bit 9 mask)) || (f.sin && not (bit 8 mask))
    || (f.spi_crc && not (bit 0 mask))

-- "ERR is 1 when any flag is up whose DIAGMASK bit .. is not set, or in FAILSAFE."
unfoldable pub err : Control → Bool
err c = unmasked c.flags || unhidden c.flags c.regs.diagmask || is_failsafe c.mode

-- "STATUS, high to low". 001 7.6.8
unfoldable pub status_of : Control → ℕ
status_of c =
    flag 14 (ccsi c.flags) + flag 12 (txff c.flags) + flag 11 (rxff c.flags) + flag 10 c.drdy + flag 9 c.flags.srst
    + flag 8 c.flags.spi_cs + flag 7 c.flags.reg_write + flag 6 c.flags.spi_crc + mode_number c.mode * 16
    + flag 3 c.flags.otp + flag 1 c.flags.por + flag 0 (err c)

-- "IFST: 9 SPI_CS, 4 QUEUE_OVF, 3 CHECK_BIT, 1 line CRC, 0 SIN". 001 7.6.9
unfoldable pub ifst_of : Flags → ℕ
ifst_of f = flag 9 f.spi_cs + flag 4 f.queue_ovf + flag 3 f.check_bit + flag 1 f.line_crc + flag 0 f.sin

-- "FIFO registers: 15 OVF, 14 UVF"; "the status fields read at most 511 and 255". 001 7.6.10, 7.6.11
unfoldable pub fifo_of : Bool → Bool → ℕ → ℕ → ℕ
fifo_of ovf uvf most count = flag 15 ovf + flag 14 uvf + min count most

-- what each address reads, with so many words in TX and RX; there are no others
unfoldable pub read_of : Control → ℕ → ℕ → ℕ → ℕ
read_of c txCount rxCount address =
    get_or
    ((row_of c.regs.layout 0).reset
    ∷ c.regs.spictrl
    ∷ c.regs.ccsictrl
    ∷ c.regs.txfflvl
    ∷ c.regs.rxfflvl
    ∷ (row_of c.regs.layout 5).reset
    ∷ c.regs.diagmask
    ∷ status_of c
    ∷ ifst_of c.flags
    ∷ fifo_of c.flags.txffovf c.flags.txffuvf 511 txCount
    ∷ fifo_of c.flags.rxffovf c.flags.rxffuvf 255 rxCount
    ∷ c.flags.bad_word
    ∷ [])
    address
    0

-- "The power-up state ..: NORMAL, every register at reset"; POR is up and DRDY is 1, as STATUS's reset value says
unfoldable pub power_up_flags : Flags
power_up_flags = record {
  otp = false;
  por = true;
  srst = false;
  reg_write = false;
  spi_crc = false;
  spi_cs = false;
  queue_ovf = false;
  check_bit = false;
  line_crc = false;
  sin = false;
  txffovf = false;
  txffuvf = false;
  rxffovf = false;
  rxffuvf = false;
  bad_word = 0;
}

unfoldable pub power_up_control : Layout → Control
power_up_control layout = record { mode = Normal; drdy = true; flags = power_up_flags; regs = reset_regs layout }
