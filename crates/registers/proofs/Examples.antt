-- 01's numbers of STATUS ("Numbers on both sides"). Assumes nothing.
use mathlib.Core.Path.{◌≡◌, refl}
use mathlib.Core.Bool.{true, false}
use Rattle.base.specs.Bits.{bit, odd, flag}
use Rattle.base.specs.Pick.{pick}
use Rattle.layout.specs.declared.Layout.TheVariants.{Ours}
use Rattle.registers.specs.declared.Flags.{Flags}
use Rattle.registers.specs.declared.Control.{Control}
use Rattle.registers.specs.declared.Mode.TheVariants.{Init}
use Rattle.registers.specs.Registers.{table_of, reset_regs, cleared, err, status_of, power_up_flags, power_up_control}
use Rattle.registers.specs.Writing.{mode_after, write_status, write_masked, write_of}

power_up_lem : status_of (power_up_control Ours) ≡ 0x0403
unfolding status_of err bit odd flag power_up_control power_up_flags reset_regs table_of
power_up_lem = refl

abbrev bad_otp_flags : Flags
bad_otp_flags = record {
  otp = true;
  por = true;
  srst = false;
  reg_write = false;
  spi_crc = false;
  spi_cs = false;
  queue_ovf = false;
  check_bit = false;
  line_crc = false;
  sin = false;
  txffovf = false;
  txffuvf = false;
  rxffovf = false;
  rxffuvf = false;
  bad_word = 0;
}

abbrev bad_otp : Control
bad_otp = record { mode = Init; drdy = true; flags = bad_otp_flags; regs = reset_regs Ours }

bad_otp_lem : status_of bad_otp ≡ 0x041B
unfolding status_of err bit odd flag reset_regs table_of
bad_otp_lem = refl

abbrev after_clear : Control
after_clear = (write_of (power_up_control Ours) false 7 0x8000).control

after_clear_lem : status_of after_clear ≡ 0x0400
unfolding status_of err bit odd flag power_up_control power_up_flags reset_regs table_of write_of write_masked write_status cleared pick
after_clear_lem = refl

then_forced : status_of (write_of after_clear false 5 0x0004).control ≡ 0x0431
unfolding status_of err bit odd flag power_up_control power_up_flags reset_regs table_of write_of write_masked write_status mode_after cleared pick
then_forced = refl
