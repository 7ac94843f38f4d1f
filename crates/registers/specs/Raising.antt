-- A flag raised by name: that one is up, the others stay (01 Notes, Registers); CHECK_BIT goes up with a number (02 item 4). Assumes nothing.
use Rattle.std.specs.Prelude.{true, ◌||◌, ℕ, eqb}
use Rattle.base.specs.Pick.{pick}
use Rattle.registers.specs.declared.Flag.{Flag}
use Rattle.registers.specs.declared.Flag.TheVariants.{Srst, RegWrite, SpiCrc, SpiCs, QueueOvf, LineCrc, SinStuck, TxOvf, TxUvf, RxOvf, RxUvf}
use Rattle.registers.specs.declared.Flags.{Flags}
use Rattle.registers.specs.declared.Control.{Control}

-- a number for each name, to tell them apart
abbrev pub flag_number : Flag → ℕ
flag_number Srst = 0
flag_number RegWrite = 1
flag_number SpiCrc = 2
flag_number SpiCs = 3
flag_number QueueOvf = 4
flag_number LineCrc = 5
flag_number SinStuck = 6
flag_number TxOvf = 7
flag_number TxUvf = 8
flag_number RxOvf = 9
flag_number RxUvf = 10

-- flag n is up, the others stay
abbrev pub raised_by : Flags → ℕ → Flags
raised_by f n = record {
  otp = f.otp;
  por = f.por;
  srst = eqb n 0 || f.srst;
  reg_write = eqb n 1 || f.reg_write;
  spi_crc = eqb n 2 || f.spi_crc;
  spi_cs = eqb n 3 || f.spi_cs;
  queue_ovf = eqb n 4 || f.queue_ovf;
  check_bit = f.check_bit;
  line_crc = eqb n 5 || f.line_crc;
  sin = eqb n 6 || f.sin;
  txffovf = eqb n 7 || f.txffovf;
  txffuvf = eqb n 8 || f.txffuvf;
  rxffovf = eqb n 9 || f.rxffovf;
  rxffuvf = eqb n 10 || f.rxffuvf;
  bad_word = f.bad_word;
}

unfoldable pub raised : Flags → Flag → Flags
raised f name = raised_by f (flag_number name)

-- "on which word a bad check bit came": CHECK_BIT, and "the first such number since the flags were last cleared". 02 item 4
unfoldable pub went_bad : Flags → ℕ → Flags
went_bad f n = record {
  otp = f.otp;
  por = f.por;
  srst = f.srst;
  reg_write = f.reg_write;
  spi_crc = f.spi_crc;
  spi_cs = f.spi_cs;
  queue_ovf = f.queue_ovf;
  check_bit = true;
  line_crc = f.line_crc;
  sin = f.sin;
  txffovf = f.txffovf;
  txffuvf = f.txffuvf;
  rxffovf = f.rxffovf;
  rxffuvf = f.rxffuvf;
  bad_word = pick f.check_bit f.bad_word n;
}

abbrev pub raised_in : Control → Flag → Control
raised_in c name = record { mode = c.mode; drdy = c.drdy; flags = raised c.flags name; regs = c.regs }
