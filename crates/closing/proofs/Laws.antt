-- The rules of the CRC word by their parts and arms, as the proofs of src/lib.rt ask them. Assumes nothing.
use Rattle.std.specs.Prelude.{None}
use mathlib.Core.Path.{◌≡◌}
use mathlib.Core.Bool.{Bool, true, false, not, ◌&&◌}
use Prim.Native.Nat.{ℕ, ◌+◌, ◌≤◌}
use lib.Dec.{eqb}
use lib.ListN.{take}
use Rattle.base.specs.Pick.{pick, pick_true, pick_false}
use Rattle.command.specs.Layouts.{layouts}
use Rattle.command.specs.declared.Command.{Command}
use Rattle.command.specs.declared.Command.TheVariants.{RegisterWrite}
use Rattle.registers.specs.Raising.{raised_in}
use Rattle.registers.specs.declared.Control.{Control}
use Rattle.registers.specs.declared.Flag.TheVariants.{Srst, SpiCrc}
use Rattle.state.specs.Queue.{new_place}
use Rattle.state.specs.Sending.{idle}
use Rattle.state.specs.declared.Bridge.{Bridge}
use Rattle.state.specs.declared.Deed.TheVariants.{Leave, TakeBack, ResetAll}
use Rattle.state.specs.declared.Note.TheVariants.{Done, CrcRefused, CrcWrong, ResetRefused}
use Rattle.state.specs.declared.Phase.TheVariants.{Idle, Answering}
use Rattle.state.specs.declared.Place.{Place}
use Rattle.state.specs.declared.Reply.{Reply}
use Rattle.plan.specs.Plan.{plain}
use Rattle.plan.specs.declared.Plan.{Plan}
use Rattle.plan.specs.declared.Receive.TheVariants.{LeaveRx, ResetRx}
use Rattle.forwards.specs.Forward.{wish, guard, faulted}
use Rattle.forwards.specs.declared.Granted.{Granted}
use Rattle.writes.specs.Writes.{busy, no_effects, write_all, effected}
use Rattle.writes.specs.declared.Effects.{Effects}
use Rattle.closing.specs.Closing.{closed, wrong_crc, forward_closed, registers_closed, read_closed, reset_closed, crc_due}

abbrev with_control : Bridge → Control → Bridge
with_control b c = record { control = c; sending = b.sending; receiving = b.receiving; frame = b.frame; clock = b.clock }

-- each rule by what its calls answered
module _ (b : Bridge) (x : Plan) where
  module _ (flagged : Control) where
    pub to_wrong : (crc : Bool) (mine : ℕ) → flagged ≡ raised_in b.control SpiCrc
        → x ≡ pick crc (closed b flagged (TakeBack mine) LeaveRx CrcRefused) (closed b flagged Leave LeaveRx CrcWrong) → x ≡ wrong_crc b crc mine
    unfolding wrong_crc
    to_wrong crc mine f e = rw f at e

    pub to_reset : flagged ≡ raised_in b.control Srst
        → x ≡ pick (idle b.sending.sender) (closed b b.control ResetAll ResetRx Done) (closed b flagged Leave LeaveRx ResetRefused) → x ≡ reset_closed b
    unfolding reset_closed
    to_reset f e = rw f at e

  -- reads, with the start of the frame's algorithm
  module _ (start : ℕ) (s : start ≡ layouts.crc_start b.frame.xmodem) (crc right : Bool) (reply : Reply) where
    pub to_answered : right ≡ true → x ≡ plain b (Answering reply start) Done → x ≡ read_closed layouts b crc right reply
    unfolding read_closed
    to_answered h e = pick_true _ _ _ _ h (rw s at e)

    pub to_read : (flagged : Control) → flagged ≡ raised_in b.control SpiCrc → right ≡ false
        → x ≡ pick crc (plain (with_control b flagged) Idle CrcRefused) (plain (with_control b flagged) (Answering reply start) CrcWrong)
        → x ≡ read_closed layouts b crc right reply
    unfolding read_closed
    to_read flagged f h e = pick_false _ _ _ _ h (rw (f, s) at e)

  pub to_registers : (crc now : Bool) (address count : ℕ) (done : Effects) → now ≡ busy b
      → done ≡ write_all (no_effects b.control) now address (take count b.frame.held)
      → x ≡ pick crc (effected b Idle done true) (closed b b.control Leave LeaveRx Done) → x ≡ registers_closed b crc address count
  unfolding registers_closed
  to_registers crc now address count done q d e = rw (← q, ← d) e

  pub to_closed : (crc : Bool) (words ends : ℕ) (reads blocked : Bool) (p : Place) (g : Granted) (c : Control) → p ≡ new_place words ends reads
      → g ≡ guard blocked b.sending.tx.count b.sending.queue (wish None (crc && not (eqb words 0 && eqb ends 0)) p)
      → c ≡ faulted b.control g.note → x ≡ closed b c g.deed LeaveRx g.note → x ≡ forward_closed b crc words ends reads blocked
  unfolding forward_closed
  to_closed crc words ends reads blocked p g c hp hg hc e = rw (← hp, ← hg, ← hc) e

-- an arm of the CRC word
pub to_due : (b : Bridge) (command k : Command) (mine : ℕ) (blocked right : Bool) (x : Plan) → command ≡ k → x ≡ crc_due layouts b k mine blocked right
    → x ≡ crc_due layouts b command mine blocked right
to_due b command k mine blocked right x h e = rw h e

-- the registers of a write exist
pub spanned : (command : Command) (crc : Bool) (address count : ℕ)
    → ((crc : Bool) (address count : ℕ) → command ≡ RegisterWrite crc address count → address + count ≤ 12)
    → command ≡ RegisterWrite crc address count → address + count ≤ 12
spanned command crc address count f h = f crc address count h
