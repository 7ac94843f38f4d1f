-- A host's plan and how it is carried out (01 Frames; Registers, "Transmit clear", "RX clear", "Soft reset"; The line, DRDY). Assumes nothing.
use Rattle.std.specs.Prelude.{Bool, true, false, ◌&&◌, ◌||◌, ℕ, ltb, eqb, None}
use Rattle.base.specs.Pick.{pick}
use Rattle.base.specs.Bits.{bit}
use Rattle.command.specs.Layouts.{Layouts}
use Rattle.line.specs.declared.Ear.TheVariants.{Quiet}
use Rattle.registers.specs.Registers.{status_of}
use Rattle.registers.specs.Spictrl.{is_xmodem}
use Rattle.registers.specs.declared.Control.{Control}
use Rattle.state.specs.Rings.{rx_size, popped, emptied}
use Rattle.state.specs.Sending.{stored, done}
use Rattle.state.specs.declared.Bridge.{Bridge}
use Rattle.state.specs.declared.Clock.{Clock}
use Rattle.state.specs.declared.Deed.{Deed}
use Rattle.state.specs.declared.Deed.TheVariants.{Leave, Enqueue, TakeBack, ClearAll, ResetAll}
use Rattle.state.specs.declared.Note.{Note}
use Rattle.state.specs.declared.Phase.{Phase}
use Rattle.state.specs.declared.Phase.TheVariants.{Idle, Collecting, Answering, Discarding}
use Rattle.state.specs.declared.Receiving.{Receiving}
use Rattle.state.specs.declared.Reply.TheVariants.{Status}
use Rattle.plan.specs.declared.Plan.{Plan}
use Rattle.plan.specs.declared.Receive.{Receive}
use Rattle.plan.specs.declared.Receive.TheVariants.{LeaveRx, PopRx, StopRx, EmptyRx, ResetRx}

-- "SDO word (0xFFFF unless stated)"
abbrev pub no_answer : ℕ
no_answer = 0xFFFF

-- a plan that only moves the phase and gives a note
abbrev pub plain : Bridge → Phase → Note → Plan
plain b p n = record {
  phase = p;
  held = b.frame.held;
  control = b.control;
  store = None;
  deed = Leave;
  receive = LeaveRx;
  note = n;
  sdo = no_answer;
  status = false;
}

abbrev pub with_reader : Receiving → Bool → Bool → Receiving
with_reader r belongs storing = record {
  rx = r.rx;
  reader = record { ear = r.reader.ear; belongs = belongs; storing = storing; stored = r.reader.stored };
}

-- "once that place is cleared away, it is neither stored nor compared"
unfoldable pub cleared_away : Receiving → Deed → Receiving
cleared_away r Leave = r
cleared_away r (Enqueue p) = r
cleared_away r (TakeBack n) = r
cleared_away r ClearAll = with_reader r false false
cleared_away r ResetAll = r

-- "RX clear: RX emptied, no more of the present command stored." A soft reset is that "and reader to idle".
unfoldable pub received : Receiving → Receive → Receiving
received r LeaveRx = r
received r PopRx = record { rx = popped rx_size r.rx; reader = r.reader }
received r StopRx = with_reader r r.reader.belongs false
received r EmptyRx = record {
  rx = emptied r.rx;
  reader = record { ear = r.reader.ear; belongs = r.reader.belongs; storing = false; stored = r.reader.stored };
}
received r ResetRx = record { rx = emptied r.rx; reader = record { ear = Quiet; belongs = false; storing = false; stored = false } }

-- "After each event DRDY is 1 if RX is empty, else 0 if its count exceeds RXFFLVL or END came of a command that stored a word, else as before."
unfoldable pub settled : Control → ℕ → Bool → Control
settled c count ended = record {
  mode = c.mode;
  drdy = pick (eqb count 0) true (pick (ltb c.regs.rxfflvl count || ended) false c.drdy);
  flags = c.flags;
  regs = c.regs;
}

-- "answer STATUS and its CRC .. unless SPICTRL bit 0 is 1, both taken at the CRC word after its effects"
unfoldable pub concluded : Layouts → Bool → Bool → Control → Phase → Phase
concluded l xmodem status c p = pick status (pick (bit 0 c.regs.spictrl) Idle (Answering (Status (status_of c)) (l.crc_start xmodem))) p

abbrev pub awaits_command : Phase → Bool
awaits_command Idle = true
awaits_command (Collecting command got sum mine released blocked) = false
awaits_command (Answering reply sum) = false
awaits_command Discarding = false

abbrev pub is_collecting : Phase → Bool
is_collecting Idle = false
is_collecting (Collecting command got sum mine released blocked) = true
is_collecting (Answering reply sum) = false
is_collecting Discarding = false

-- "After changing the CRC algorithm, the next SPI command uses the new algorithm" (001 7.5.3): a frame keeps, for its CRC word and its answer's CRC,
-- the one in force at its command word. 02 item 7
abbrev pub xmodem_after : Bridge → Phase → Bool
xmodem_after b after = pick (is_collecting after && awaits_command b.frame.phase) (is_xmodem b.control.regs) b.frame.xmodem

-- "Every host word marks the watchdog": with the last reading
abbrev pub marked : Clock → Clock
marked c = record { reading = c.reading; mark = c.reading; watching = c.watching; watch_mark = c.watch_mark; sin = c.sin }

abbrev pub receiving_after : Bridge → Plan → Receiving
receiving_after b p = received (cleared_away b.receiving p.deed) p.receive

abbrev pub control_after : Bridge → Plan → Control
control_after b p = settled p.control (receiving_after b p).rx.count false

-- a plan carried out
unfoldable pub performed : Layouts → Bridge → Clock → Plan → Bridge
performed l b clock p = record {
  control = control_after b p;
  sending = done (stored b.sending p.store) p.deed;
  receiving = receiving_after b p;
  frame = record {
    phase = concluded l b.frame.xmodem p.status (control_after b p) p.phase;
    held = p.held;
    xmodem = xmodem_after b p.phase;
  };
  clock = clock;
}
