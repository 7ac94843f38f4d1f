-- What a line tick does (01 The line; Notes 13 and 14). A rule sees the state and the oldest word of TX. Assumes nothing.
use Rattle.std.specs.Prelude.{Bool, true, false, not, ◌&&◌, ◌||◌, ℕ, None}
use Rattle.base.specs.Pick.{pick}
use Rattle.registers.specs.Raising.{raised}
use Rattle.registers.specs.declared.Control.{Control}
use Rattle.registers.specs.declared.Flag.TheVariants.{LineCrc, TxUvf}
use Rattle.registers.specs.declared.Flags.{Flags}
use Rattle.state.specs.Frame.{is_forward}
use Rattle.state.specs.declared.Bridge.{Bridge}
use Rattle.state.specs.declared.Clock.{Clock}
use Rattle.state.specs.declared.Note.{Note}
use Rattle.state.specs.declared.Note.TheVariants.{Done, TxEmpty, RxFull}
use Rattle.state.specs.declared.Phase.{Phase}
use Rattle.state.specs.declared.Phase.TheVariants.{Idle, Collecting, Answering, Discarding}
use Rattle.next.specs.Next.{may_start}
use Rattle.sender.specs.Sender.{tick_sender}
use Rattle.sender.specs.declared.Sent.{Sent}
use Rattle.reader.specs.Reader.{tick_reader}
use Rattle.reader.specs.declared.Taken.{Taken}
use Rattle.plan.specs.Plan.{no_answer, settled}
use Rattle.ticks.specs.declared.Did.{Did}

-- a state, with nothing on either line
abbrev pub quietly : Bridge → Did
quietly b = record { bridge = b; sdo = no_answer; sout = true; note = Done; tx = None; rx = None }

-- "while a blocking flag is or was up during this frame"
unfoldable pub blocked_in : Phase → Phase
blocked_in Idle = Idle
blocked_in (Collecting command got sum mine released blocked) = Collecting command got sum mine released (is_forward command || blocked)
blocked_in (Answering reply sum) = Answering reply sum
blocked_in Discarding = Discarding

unfoldable pub same : Bool → Bool → Bool
same true b = b
same false b = not b

-- "A start bit marks the last reading if the SIN watch is off; any change of SIN stops it". The sender comes first.
unfoldable pub mark_after : Clock → Bool → ℕ
mark_after c started = pick (started && not c.watching) c.reading c.watch_mark

unfoldable pub watched : Clock → Bool → Bool → Clock
watched c started sin = record {
  reading = c.reading;
  mark = c.mark;
  watching = same sin c.sin && (started || c.watching);
  watch_mark = mark_after c started;
  sin = sin;
}

abbrev pub with_flags_of : Control → Flags → Control
with_flags_of c f = record { mode = c.mode; drdy = c.drdy; flags = f; regs = c.regs }

-- the flags that the sender's half raises
unfoldable pub starved_flags : Flags → Bool → Flags
starved_flags f starved = pick starved (raised f TxUvf) f

unfoldable pub flags_sent : Flags → Sent → Flags
flags_sent f s = pick s.differs (raised (starved_flags f s.starved) LineCrc) (starved_flags f s.starved)

unfoldable pub phase_after : Phase → Bool → Phase
phase_after p starved = pick starved (blocked_in p) p

-- DRDY after a tick, with the flags that it raised
unfoldable pub control_ticked : Control → Taken → Control
control_ticked c t = settled (with_flags_of c t.flags) t.receiving.rx.count t.ended

-- "Notes 13 and 14 may both act in one tick (sender first, then reader); 13 is reported."
unfoldable pub tick_note : Bool → Bool → Note
tick_note starved full = pick starved TxEmpty (pick full RxFull Done)

unfoldable pub tick_ends : Bridge → Sent → Taken → Bool → Did
tick_ends b s t sin = record {
  bridge = record {
    control = control_ticked b.control t;
    sending = record { tx = s.sending.tx; queue = t.queue; sender = s.sending.sender };
    receiving = t.receiving;
    frame = record { phase = phase_after b.frame.phase s.starved; held = b.frame.held; xmodem = b.frame.xmodem };
    clock = watched b.clock s.started sin;
  };
  sdo = no_answer;
  sout = s.sout;
  note = tick_note s.starved t.full;
  tx = None;
  rx = t.store;
}

unfoldable pub tick_hears : Bridge → Sent → Bool → Did
tick_hears b s sin = tick_ends b s (tick_reader b.receiving s.sending.queue (flags_sent b.control.flags s) sin) sin

-- "sender first, then reader"; w is the oldest word of TX
unfoldable pub ticked : Bridge → Bool → ℕ → Did
ticked b sin w = tick_hears b (tick_sender b.sending (may_start b.control) w) sin
