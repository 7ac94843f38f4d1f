-- The power-up state (01 What the bridge is: "one named value of the state's type"). Assumes nothing.
use Rattle.std.specs.Prelude.{true, false, replicate}
use Rattle.command.specs.Layout.{registers_end}
use Rattle.layout.specs.declared.Layout.{Layout}
use Rattle.layout.specs.declared.Layout.TheVariants.{Ours}
use Rattle.line.specs.declared.Piece.TheVariants.{Pause}
use Rattle.line.specs.declared.Ear.TheVariants.{Quiet}
use Rattle.registers.specs.Registers.{power_up_control}
use Rattle.registers.specs.declared.Mode.TheVariants.{Init}
use Rattle.registers.specs.declared.Control.{Control}
use Rattle.state.specs.Queue.{places, no_place}
use Rattle.state.specs.declared.Ring.{Ring}
use Rattle.state.specs.declared.Phase.TheVariants.{Idle}
use Rattle.state.specs.declared.Bridge.{Bridge}

abbrev pub new_ring : Ring
new_ring = record { head = 0; count = 0 }

-- "every count and the last reading 0, last SIN 1, all idle, SIN watch off"
abbrev pub powered_up : Control → Bridge
powered_up c = record {
  control = c;
  sending = record {
    tx = new_ring;
    queue = record { places = replicate places no_place; used = 0; begun = 0 };
    sender = record { piece = Pause; gone = 0; left = 0; ends = 0 };
  };
  receiving = record { rx = new_ring; reader = record { ear = Quiet; belongs = false; storing = false; stored = false } };
  frame = record { phase = Idle; held = replicate registers_end 0; xmodem = false };
  clock = record { reading = 0; mark = 0; watching = false; watch_mark = 0; sin = true };
}

-- in the layout that the event chooses (02 item 7)
unfoldable pub power_up_in : Layout → Bridge
power_up_in layout = powered_up (power_up_control layout)

abbrev pub power_up : Bridge
power_up = power_up_in Ours

-- "with bad OTP the same in INIT with that flag"
unfoldable pub bad_control : Control → Control
bad_control c = record {
  mode = Init;
  drdy = c.drdy;
  flags = record {
    otp = true;
    por = c.flags.por;
    srst = c.flags.srst;
    reg_write = c.flags.reg_write;
    spi_crc = c.flags.spi_crc;
    spi_cs = c.flags.spi_cs;
    queue_ovf = c.flags.queue_ovf;
    check_bit = c.flags.check_bit;
    line_crc = c.flags.line_crc;
    sin = c.flags.sin;
    txffovf = c.flags.txffovf;
    txffuvf = c.flags.txffuvf;
    rxffovf = c.flags.rxffovf;
    rxffuvf = c.flags.rxffuvf;
    bad_word = c.flags.bad_word;
  };
  regs = c.regs;
}

unfoldable pub power_up_bad_in : Layout → Bridge
power_up_bad_in layout = powered_up (bad_control (power_up_control layout))

abbrev pub power_up_bad : Bridge
power_up_bad = power_up_bad_in Ours
