-- Register writes by frames (01 Frames, "REG_WR writes as words come, REG_WR_CRC at the CRC word, ascending"; note 10). Assumes nothing.
use Rattle.std.specs.Prelude.{Bool, true, false, not, ◌||◌, List, [], ◌∷◌, ℕ, ◌+◌, set, None}
use Rattle.base.specs.Pick.{pick}
use Rattle.line.specs.declared.Ear.{Ear}
use Rattle.line.specs.declared.Ear.TheVariants.{Quiet, Group, Lost}
use Rattle.registers.specs.Writing.{write_of}
use Rattle.registers.specs.declared.Control.{Control}
use Rattle.registers.specs.declared.Effect.{Effect}
use Rattle.registers.specs.declared.Effect.TheVariants.{Nothing, TransmitClear, ReceiveClear, Refused}
use Rattle.registers.specs.declared.Written.{Written}
use Rattle.state.specs.Sending.{idle}
use Rattle.state.specs.declared.Bridge.{Bridge}
use Rattle.state.specs.declared.Deed.TheVariants.{Leave, ClearAll}
use Rattle.state.specs.declared.Note.TheVariants.{Done, LineBusy}
use Rattle.state.specs.declared.Phase.{Phase}
use Rattle.plan.specs.Plan.{no_answer}
use Rattle.writes.specs.declared.Effects.{Effects}
use Rattle.plan.specs.declared.Plan.{Plan}
use Rattle.plan.specs.declared.Receive.TheVariants.{LeaveRx, EmptyRx}

-- "sender or reader is busy": the reader from its 0 to its END, discarding included (docs/DECISIONS.md)
unfoldable pub is_quiet : Ear → Bool
is_quiet Quiet = true
is_quiet (Group number value bits ones) = false
is_quiet (Lost ones) = false

abbrev pub busy : Bridge → Bool
busy b = not (idle b.sending.sender) || not (is_quiet b.receiving.reader.ear)

unfoldable pub is_transmit_clear : Effect → Bool
is_transmit_clear Nothing = false
is_transmit_clear TransmitClear = true
is_transmit_clear ReceiveClear = false
is_transmit_clear Refused = false

unfoldable pub is_receive_clear : Effect → Bool
is_receive_clear Nothing = false
is_receive_clear TransmitClear = false
is_receive_clear ReceiveClear = true
is_receive_clear Refused = false

unfoldable pub is_refused : Effect → Bool
is_refused Nothing = false
is_refused TransmitClear = false
is_refused ReceiveClear = false
is_refused Refused = true

-- one write more
unfoldable pub with_write : Effects → Written → Effects
with_write e w = record {
  control = w.control;
  clears_tx = is_transmit_clear w.effect || e.clears_tx;
  clears_rx = is_receive_clear w.effect || e.clears_rx;
  refused = is_refused w.effect || e.refused;
}

-- words to consecutive registers, "ascending"
unfoldable pub write_all : Effects → Bool → ℕ → List ℕ → Effects
write_all e busy address [] = e
write_all e busy address (v ∷ vs) = write_all (with_write e (write_of e.control busy address v)) busy (address + 1) vs

abbrev pub no_effects : Control → Effects
no_effects c = record { control = c; clears_tx = false; clears_rx = false; refused = false }

-- what they do beyond the registers; note 10
abbrev pub effected : Bridge → Phase → Effects → Bool → Plan
effected b p e status = record {
  phase = p;
  held = b.frame.held;
  control = e.control;
  store = None;
  deed = pick e.clears_tx ClearAll Leave;
  receive = pick e.clears_rx EmptyRx LeaveRx;
  note = pick e.refused LineBusy Done;
  sdo = no_answer;
  status = status;
}

-- a data word: "REG_WR writes as words come"; REG_WR_CRC's are held.
unfoldable pub held_word : Bridge → Phase → ℕ → ℕ → Plan
held_word b p got w = record {
  phase = p;
  held = set b.frame.held got w;
  control = b.control;
  store = None;
  deed = Leave;
  receive = LeaveRx;
  note = Done;
  sdo = no_answer;
  status = false;
}

unfoldable pub register_word : Bridge → Bool → ℕ → ℕ → Phase → ℕ → Plan
register_word b crc address got p w =
    pick crc (held_word b p got w)
    (effected b p (with_write (no_effects b.control) (write_of b.control (busy b) (address + got) w)) false)
