-- The bridge's record in twenty-three cells of sixty-four bits: what a program in C keeps (include/icelichen_bridge.h). Every number of the record has one
-- place, four to a cell, and five marks are a number; a variant is as `parts` has it. Ours. Assumes nothing.
use Rattle.std.specs.Prelude.{Bool, false, List, [], ◌∷◌, ℕ, get_or}
use Rattle.base.specs.Bits.{bit}
use Rattle.line.specs.declared.Ear.{Ear}
use Rattle.registers.specs.declared.Control.{Control}
use Rattle.registers.specs.declared.Flags.{Flags}
use Rattle.state.specs.Queue.{place_at}
use Rattle.state.specs.declared.Bridge.{Bridge}
use Rattle.state.specs.declared.Clock.{Clock}
use Rattle.state.specs.declared.Frame.{Frame}
use Rattle.state.specs.declared.Phase.{Phase}
use Rattle.state.specs.declared.Place.{Place}
use Rattle.state.specs.declared.Queue.{Queue}
use Rattle.state.specs.declared.Reader.{Reader}
use Rattle.state.specs.declared.Sender.{Sender}
use Rattle.parts.specs.Numbers.{four, first, second, third, fourth, five}
use Rattle.parts.specs.Variants.{parts, mode_number, mode_of, layout_number, layout_of, piece_parts, piece_of, ear_parts, ear_of, phase_parts, open_parts, phase_of}
use Rattle.parts.specs.declared.Parts.{Parts}

-- the first number of a record's cells: memory that no power-up wrote does not have it
abbrev pub mark : ℕ
mark = 0x1CE1

-- marks, five together
abbrev pub state_marks : Control → ℕ
state_marks c = five c.drdy c.flags.otp c.flags.por c.flags.srst c.flags.reg_write

abbrev pub host_marks : Flags → ℕ
host_marks f = five f.spi_crc f.spi_cs f.queue_ovf f.check_bit f.line_crc

abbrev pub store_marks : Flags → ℕ
store_marks f = five f.sin f.txffovf f.txffuvf f.rxffovf f.rxffuvf

abbrev pub line_marks : Reader → Clock → ℕ
line_marks r k = five r.belongs r.storing r.stored k.watching k.sin

abbrev pub frame_marks : Frame → ℕ
frame_marks f = five (phase_parts f.phase).x (phase_parts f.phase).y (open_parts f.phase).x (open_parts f.phase).y f.xmodem

abbrev pub place_marks : Place → ℕ
place_marks p = five p.store p.compare p.damaged p.sent p.read

abbrev pub place_cell : Place → ℕ
place_cell p = four p.words p.ends p.crc_sent p.crc_read

abbrev pub marks_cell : Place → Place → Place → Place → ℕ
marks_cell p q r s = four (place_marks p) (place_marks q) (place_marks r) (place_marks s)

abbrev pub held_at : Frame → ℕ → ℕ
held_at f i = get_or f.held i 0

abbrev pub held_cell : Frame → ℕ → ℕ → ℕ → ℕ → ℕ
held_cell f i j k l = four (held_at f i) (held_at f j) (held_at f k) (held_at f l)

-- cells 0 to 22
abbrev pub control_cells : Control → List ℕ → List ℕ
control_cells c rest =
    four mark (mode_number c.mode) (layout_number c.regs.layout) (state_marks c)
    ∷ four (host_marks c.flags) (store_marks c.flags) c.flags.bad_word c.regs.spictrl
    ∷ four c.regs.ccsictrl c.regs.txfflvl c.regs.rxfflvl c.regs.diagmask
    ∷ rest

abbrev pub line_cells : Bridge → List ℕ → List ℕ
line_cells b rest =
    four b.sending.tx.head b.sending.tx.count b.receiving.rx.head b.receiving.rx.count
    ∷ four b.sending.queue.used b.sending.queue.begun b.sending.sender.gone b.sending.sender.left
    ∷ four b.sending.sender.ends (piece_parts b.sending.sender.piece).kind (piece_parts b.sending.sender.piece).a
    (line_marks b.receiving.reader b.clock)
    ∷ four (ear_parts b.receiving.reader.ear).kind (ear_parts b.receiving.reader.ear).a (ear_parts b.receiving.reader.ear).b
    (ear_parts b.receiving.reader.ear).c
    ∷ four (ear_parts b.receiving.reader.ear).d b.clock.reading b.clock.mark b.clock.watch_mark
    ∷ rest

abbrev pub frame_cells : Frame → List ℕ → List ℕ
frame_cells f rest =
    four (phase_parts f.phase).kind (phase_parts f.phase).a (phase_parts f.phase).b (phase_parts f.phase).c
    ∷ four (open_parts f.phase).kind (open_parts f.phase).a (open_parts f.phase).b (frame_marks f)
    ∷ held_cell f 0 1 2 3
    ∷ held_cell f 4 5 6 7
    ∷ held_cell f 8 9 10 11
    ∷ rest

abbrev pub queue_cells : Queue → List ℕ
queue_cells q =
    place_cell (place_at q 0)
    ∷ place_cell (place_at q 1)
    ∷ place_cell (place_at q 2)
    ∷ place_cell (place_at q 3)
    ∷ place_cell (place_at q 4)
    ∷ place_cell (place_at q 5)
    ∷ place_cell (place_at q 6)
    ∷ place_cell (place_at q 7)
    ∷ marks_cell (place_at q 0) (place_at q 1) (place_at q 2) (place_at q 3)
    ∷ marks_cell (place_at q 4) (place_at q 5) (place_at q 6) (place_at q 7)
    ∷ []

unfoldable pub cells_of : Bridge → List ℕ
cells_of b = control_cells b.control (line_cells b (frame_cells b.frame (queue_cells b.sending.queue)))

-- The record by its cells: whatever they hold, there is one.
unfoldable pub flags_of : ℕ → ℕ → Flags
flags_of n0 n1 = record {
  otp = bit 1 (fourth n0);
  por = bit 2 (fourth n0);
  srst = bit 3 (fourth n0);
  reg_write = bit 4 (fourth n0);
  spi_crc = bit 0 (first n1);
  spi_cs = bit 1 (first n1);
  queue_ovf = bit 2 (first n1);
  check_bit = bit 3 (first n1);
  line_crc = bit 4 (first n1);
  sin = bit 0 (second n1);
  txffovf = bit 1 (second n1);
  txffuvf = bit 2 (second n1);
  rxffovf = bit 3 (second n1);
  rxffuvf = bit 4 (second n1);
  bad_word = third n1;
}

unfoldable pub control_of : ℕ → ℕ → ℕ → Control
control_of n0 n1 n2 = record {
  mode = mode_of (second n0);
  drdy = bit 0 (fourth n0);
  flags = flags_of n0 n1;
  regs = record {
    layout = layout_of (third n0);
    spictrl = fourth n1;
    ccsictrl = first n2;
    txfflvl = second n2;
    rxfflvl = third n2;
    diagmask = fourth n2;
  };
}

unfoldable pub place_of : ℕ → ℕ → Place
place_of n marks = record {
  words = first n;
  ends = second n;
  store = bit 0 marks;
  compare = bit 1 marks;
  damaged = bit 2 marks;
  sent = bit 3 marks;
  read = bit 4 marks;
  crc_sent = third n;
  crc_read = fourth n;
}

abbrev pub at : List ℕ → ℕ → ℕ
at cells i = get_or cells i 0

unfoldable pub queue_of : List ℕ → Queue
queue_of cells = record {
  places =
      place_of (at cells 13) (first (at cells 21))
      ∷ place_of (at cells 14) (second (at cells 21))
      ∷ place_of (at cells 15) (third (at cells 21))
      ∷ place_of (at cells 16) (fourth (at cells 21))
      ∷ place_of (at cells 17) (first (at cells 22))
      ∷ place_of (at cells 18) (second (at cells 22))
      ∷ place_of (at cells 19) (third (at cells 22))
      ∷ place_of (at cells 20) (fourth (at cells 22))
      ∷ [];
  used = first (at cells 4);
  begun = second (at cells 4);
}

unfoldable pub sender_of : ℕ → ℕ → Sender
sender_of n4 n5 = record { piece = piece_of (second n5) (third n5); gone = third n4; left = fourth n4; ends = first n5 }

unfoldable pub reader_of : ℕ → ℕ → ℕ → Reader
reader_of n5 n6 n7 = record {
  ear = ear_of (first n6) (second n6) (third n6) (fourth n6) (first n7);
  belongs = bit 0 (fourth n5);
  storing = bit 1 (fourth n5);
  stored = bit 2 (fourth n5);
}

unfoldable pub clock_of : ℕ → ℕ → Clock
clock_of n5 n7 = record {
  reading = second n7;
  mark = third n7;
  watching = bit 3 (fourth n5);
  watch_mark = fourth n7;
  sin = bit 4 (fourth n5);
}

unfoldable pub phase_at : ℕ → ℕ → Phase
phase_at n8 n9 =
    phase_of (parts (first n8) (second n8) (third n8) (fourth n8) 0 (bit 0 (fourth n9)) (bit 1 (fourth n9)))
    (parts (first n9) (second n9) (third n9) 0 0 (bit 2 (fourth n9)) (bit 3 (fourth n9)))

unfoldable pub held_of : ℕ → ℕ → ℕ → List ℕ
held_of n10 n11 n12 =
    first n10
    ∷ second n10
    ∷ third n10
    ∷ fourth n10
    ∷ first n11
    ∷ second n11
    ∷ third n11
    ∷ fourth n11
    ∷ first n12
    ∷ second n12
    ∷ third n12
    ∷ fourth n12
    ∷ []

unfoldable pub frame_of : ℕ → ℕ → ℕ → ℕ → ℕ → Frame
frame_of n8 n9 n10 n11 n12 = record { phase = phase_at n8 n9; held = held_of n10 n11 n12; xmodem = bit 4 (fourth n9) }

unfoldable pub record_of : List ℕ → Bridge
record_of cells = record {
  control = control_of (at cells 0) (at cells 1) (at cells 2);
  sending = record {
    tx = record { head = first (at cells 3); count = second (at cells 3) };
    queue = queue_of cells;
    sender = sender_of (at cells 4) (at cells 5);
  };
  receiving = record {
    rx = record { head = third (at cells 3); count = fourth (at cells 3) };
    reader = reader_of (at cells 5) (at cells 6) (at cells 7);
  };
  frame = frame_of (at cells 8) (at cells 9) (at cells 10) (at cells 11) (at cells 12);
  clock = clock_of (at cells 5) (at cells 7);
}
