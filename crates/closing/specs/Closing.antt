-- The CRC word (01 Frames; notes 6, 7, 9, 10 and 11): what a right and a wrong one do. Assumes nothing.
use Rattle.std.specs.Prelude.{Bool, true, not, ◌&&◌, ℕ, eqb, take, None}
use Rattle.base.specs.Pick.{pick}
use Rattle.command.specs.Layouts.{Layouts}
use Rattle.command.specs.declared.Command.{Command}
use Rattle.command.specs.declared.Command.TheVariants.{Filler, Malformed, Forward, DataRead, RegisterWrite, RegisterRead, SoftReset}
use Rattle.registers.specs.Raising.{raised_in}
use Rattle.registers.specs.declared.Control.{Control}
use Rattle.registers.specs.declared.Flag.TheVariants.{Srst, SpiCrc}
use Rattle.state.specs.Queue.{new_place}
use Rattle.state.specs.Sending.{idle}
use Rattle.state.specs.declared.Bridge.{Bridge}
use Rattle.state.specs.declared.Deed.{Deed}
use Rattle.state.specs.declared.Deed.TheVariants.{Leave, TakeBack, ResetAll}
use Rattle.state.specs.declared.Note.{Note}
use Rattle.state.specs.declared.Note.TheVariants.{Done, CrcRefused, CrcWrong, ResetRefused}
use Rattle.state.specs.declared.Phase.TheVariants.{Idle, Answering}
use Rattle.state.specs.declared.Reply.{Reply}
use Rattle.state.specs.declared.Reply.TheVariants.{Data, Registers}
use Rattle.plan.specs.Plan.{no_answer, plain}
use Rattle.forwards.specs.Forward.{wish, guard, faulted}
use Rattle.forwards.specs.declared.Granted.{Granted}
use Rattle.plan.specs.declared.Plan.{Plan}
use Rattle.plan.specs.declared.Receive.{Receive}
use Rattle.plan.specs.declared.Receive.TheVariants.{LeaveRx, ResetRx}
use Rattle.writes.specs.Writes.{no_effects, write_all, effected, busy}

abbrev pub closed : Bridge → Control → Deed → Receive → Note → Plan
closed b c d r n = record {
  phase = Idle;
  held = b.frame.held;
  control = c;
  store = None;
  deed = d;
  receive = r;
  note = n;
  sdo = no_answer;
  status = true;
}

-- note 6 where the command is named _CRC: "its words taken back"; else note 7: "effects stand"
unfoldable pub wrong_crc : Bridge → Bool → ℕ → Plan
wrong_crc b crc mine =
    pick crc (closed b (raised_in b.control SpiCrc) (TakeBack mine) LeaveRx CrcRefused)
    (closed b (raised_in b.control SpiCrc) Leave LeaveRx CrcWrong)

-- "for _CRC at a right CRC word"
unfoldable pub forward_closed : Bridge → Bool → ℕ → ℕ → Bool → Bool → Plan
forward_closed b crc words ends reads blocked =
    granted_closed (guard blocked b.sending.tx.count b.sending.queue
    (wish None (crc && not (eqb words 0 && eqb ends 0)) (new_place words ends reads)))
  where
    granted_closed : Granted → Plan
    granted_closed g = closed b (faulted b.control g.note) g.deed LeaveRx g.note

unfoldable pub registers_closed : Bridge → Bool → ℕ → ℕ → Plan
registers_closed b crc address count =
    pick crc (effected b Idle (write_all (no_effects b.control) (busy b) address (take count b.frame.held)) true)
    (closed b b.control Leave LeaveRx Done)

-- reads: "after note 6 they answer nothing"
unfoldable pub read_closed : Layouts → Bridge → Bool → Bool → Reply → Plan
read_closed l b crc right reply =
    pick right (plain b (Answering reply (l.crc_start b.frame.xmodem)) Done)
    (pick crc (flagged (plain b Idle CrcRefused)) (flagged (plain b (Answering reply (l.crc_start b.frame.xmodem)) CrcWrong)))
  where
    flagged : Plan → Plan
    flagged p = record {
      phase = p.phase;
      held = p.held;
      control = raised_in p.control SpiCrc;
      store = p.store;
      deed = p.deed;
      receive = p.receive;
      note = p.note;
      sdo = p.sdo;
      status = p.status;
    }

-- note 11; "Soft reset (note 0): both, without the END, and reader to idle; registers and flags stay."
unfoldable pub reset_closed : Bridge → Plan
reset_closed b =
    pick (idle b.sending.sender) (closed b b.control ResetAll ResetRx Done)
    (closed b (raised_in b.control Srst) Leave LeaveRx ResetRefused)

unfoldable pub crc_due : Layouts → Bridge → Command → ℕ → Bool → Bool → Plan
crc_due l b Filler mine blocked right = plain b Idle Done
crc_due l b Malformed mine blocked right = plain b Idle Done
crc_due l b (Forward crc words ends reads) mine blocked right =
    pick right (forward_closed b crc words ends reads blocked) (wrong_crc b crc mine)
crc_due l b (DataRead crc words) mine blocked right = read_closed l b crc right (Data words)
crc_due l b (RegisterWrite crc address count) mine blocked right =
    pick right (registers_closed b crc address count) (wrong_crc b crc mine)
crc_due l b (RegisterRead crc address count) mine blocked right = read_closed l b crc right (Registers address count)
crc_due l b SoftReset mine blocked right = pick right (reset_closed b) (wrong_crc b true mine)
