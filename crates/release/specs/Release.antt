-- Chip select released (01 Frames; note 12). Assumes nothing.
use Rattle.std.specs.Prelude.{Bool, false, ℕ, ltb, None}
use Rattle.base.specs.Pick.{pick}
use Rattle.command.specs.declared.Command.{Command}
use Rattle.registers.specs.Raising.{raised_in}
use Rattle.registers.specs.declared.Flag.TheVariants.{SpiCs}
use Rattle.state.specs.Frame.{data_words}
use Rattle.state.specs.declared.Bridge.{Bridge}
use Rattle.state.specs.declared.Deed.{Deed}
use Rattle.state.specs.declared.Deed.TheVariants.{Leave, TakeBack, ClearAll}
use Rattle.state.specs.declared.Note.TheVariants.{Done, CutShort}
use Rattle.state.specs.declared.Phase.TheVariants.{Idle, Answering, Collecting, Discarding}
use Rattle.plan.specs.Plan.{no_answer, plain}
use Rattle.plan.specs.declared.Plan.{Plan}
use Rattle.plan.specs.declared.Receive.TheVariants.{LeaveRx}
use Rattle.state.specs.declared.Phase.{Phase}

-- Note 12: "an unreleased forward takes its words back; a released one with data missing causes a transmit clear; one
-- with all data stands". Only a forward has words of its own.
unfoldable pub cut_deed : Command → ℕ → ℕ → Bool → Deed
cut_deed command got mine released = pick released (pick (ltb got (data_words command)) ClearAll Leave) (TakeBack mine)

unfoldable pub cut : Bridge → Deed → Plan
cut b d = record {
  phase = Idle;
  held = b.frame.held;
  control = raised_in b.control SpiCs;
  store = None;
  deed = d;
  receive = LeaveRx;
  note = CutShort;
  sdo = no_answer;
  status = false;
}

unfoldable pub released_in : Bridge → Phase → Plan
released_in b Idle = plain b Idle Done
released_in b (Collecting command got sum mine released blocked) = cut b (cut_deed command got mine released)
released_in b (Answering reply sum) = plain b Idle Done
released_in b Discarding = plain b Idle Done
