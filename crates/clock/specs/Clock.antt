-- What a clock reading does: the SIN watch and the SPI watchdog (01 The line). Assumes nothing.
use Rattle.std.specs.Prelude.{ℕ, ◌+◌, ◌-◌, ◌/◌, ◌%◌, Bool, false, not, ◌&&◌, nat_le, nat_lt}
use Rattle.base.specs.Bits.{word_end}
use Rattle.base.specs.Pick.{pick}
use Rattle.registers.specs.Registers.{is_normal}
use Rattle.registers.specs.Spictrl.{dog_limit}
use Rattle.registers.specs.Raising.{raised}
use Rattle.registers.specs.declared.Control.{Control}
use Rattle.registers.specs.declared.Flag.TheVariants.{SinStuck}
use Rattle.registers.specs.declared.Flags.{Flags}
use Rattle.registers.specs.declared.Mode.{Mode}
use Rattle.registers.specs.declared.Mode.TheVariants.{Failsafe}
use Rattle.state.specs.declared.Bridge.{Bridge}
use Rattle.state.specs.declared.Clock.{Clock}
use Rattle.plan.specs.Plan.{settled}
use Rattle.ticks.specs.declared.Did.{Did}
use Rattle.ticks.specs.Ticks.{quietly}

-- "Elapsed time is the new reading minus the mark, modulo 65,536."
unfoldable pub elapsed : ℕ → ℕ → ℕ
elapsed reading mark = (reading + word_end - mark) % word_end

-- milliseconds without a change of SIN: 01 The line; 001 7.3.4.5.1
abbrev pub still_for : ℕ
still_for = 5

-- "at 5 or more the SIN flag rises and the watch stops"
abbrev pub watch_fires : Clock → ℕ → Bool
watch_fires c reading = c.watching && nat_le still_for (elapsed reading c.watch_mark)

-- "at or over its limit NORMAL becomes FAILSAFE"; a limit of 0 is off
abbrev pub dog_fires : Bridge → ℕ → Bool
dog_fires b reading =
    is_normal b.control.mode && nat_lt 0 (dog_limit b.control.regs) && nat_le (dog_limit b.control.regs) (elapsed reading b.clock.mark)

unfoldable pub mode_at : Mode → Bool → Mode
mode_at m bites = pick bites Failsafe m

unfoldable pub flags_at : Flags → Bool → Flags
flags_at f fires = pick fires (raised f SinStuck) f

unfoldable pub control_at : Control → Bool → Bool → ℕ → Control
control_at c bites fires count =
    settled
    (record { mode = mode_at c.mode bites; drdy = c.drdy; flags = flags_at c.flags fires; regs = c.regs })
    count
    false

-- "at 5 or more the SIN flag rises and the watch stops"
abbrev pub clock_at : Clock → ℕ → Bool → Clock
clock_at c reading fires = record {
  reading = reading;
  mark = c.mark;
  watching = c.watching && not fires;
  watch_mark = c.watch_mark;
  sin = c.sin;
}

abbrev pub clocked_by : Bridge → ℕ → Bool → Bool → Bridge
clocked_by b reading bites fires = record {
  control = control_at b.control bites fires b.receiving.rx.count;
  sending = b.sending;
  receiving = b.receiving;
  frame = b.frame;
  clock = clock_at b.clock reading fires;
}

unfoldable pub clocked : Bridge → ℕ → Did
clocked b reading = quietly (clocked_by b reading (dog_fires b reading) (watch_fires b.clock reading))
