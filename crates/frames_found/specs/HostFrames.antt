-- What was asked of the host's frames, in the words of 02 item 1, which stand here in quotes, for either layout and either CRC (02 item 7): `k` is the layout,
-- `s` where the CRC starts. Read this file from top to bottom; `proofs/HostFrames.antt` cites the theorem behind each. `within`, `frame_of`, `written_of` and
-- `told_of` are crates/frames/specs, and the contracts of `frames::write` and `frames::read_answer` say that the code does what `written_of` and `told_of` say, for
-- every input. Assumes nothing.
use Rattle.std.specs.Prelude.{◌≡◌, true, false, List, [], ◌∷◌, ◌++◌, ℕ, ◌+◌, ◌≤◌, ◌<◌, length, Some, Ok, Err}
use Rattle.layout.specs.declared.Layout.{Layout}
use Rattle.command.specs.Layout.{decode_by}
use Rattle.command.specs.Layouts.{Layouts, layouts}
use Rattle.state.specs.declared.Bridge.{Bridge}
use Rattle.events.specs.declared.Event.{Event}
use Rattle.events.specs.declared.Event.TheVariants.{Word}
use Rattle.bridge.specs.Runs.{Config, end_of}
use Rattle.order.specs.Framed.{host_words}
use Rattle.frames.specs.Answers.{due_of, told_of}
use Rattle.frames.specs.Orders.{number_of, fields_within, within, command_word, meant, order_of}
use Rattle.frames.specs.Frames.{checked, beside, frame_of, over, out, written_of}
use Rattle.frames.specs.declared.Order.{Order}
use Rattle.frames.specs.declared.Told.TheVariants.{Status, Data}
use Rattle.frames.specs.declared.WriteError.TheVariants.{OutsideLimits, BufferShort}
use Rattle.frames_found.specs.Answered.{answered_with, ReadsBack}
use Rattle.frames_found.specs.Found.{part_of, Ruled, start_in, frame_in, Awaits, unbroken, Found}
use Rattle.frames_found.specs.Frames.{WellFormed, OneWay}
use Rattle.frames_found.specs.Silence.{Silent}

-- an order's row of numbers: its command's number and its fields, in one way
pub record Numbers (o : Order) : Type 0 where
  pub ends : ℕ
  pub address : ℕ
  pub count : ℕ
  pub is : order_of (number_of o) ends address count ≡ Some o
  pub only : (n e a c : ℕ) → order_of n e a c ≡ Some o → ((n ≡ number_of o) × (e ≡ ends)) × ((a ≡ address) × (c ≡ count))

-- a number of data words that an order takes
pub record SomeWords (o : Order) : Type 0 where
  pub some : ℕ
  pub allowed : within o some ≡ true

-- so many words, and their CRC, which starts at s, and no word more
pub record Exactly (s n : ℕ) (words : List ℕ) : Type 0 where
  pub given : List ℕ
  pub so_many : length given ≡ n
  pub words_are : words ≡ checked s given

pub record HostFrames : Type 0 where
  -- "Every command that 01 allows can be written": by its numbers too, and in a buffer with room for it.
  pub numbered : (o : Order) → Numbers o
  pub written : (k : Layout) (s : ℕ) (o : Order) (words buffer : List ℕ) → within o (length words) ≡ true → length words + beside ≤ length buffer
      → written_of k s o words buffer ≡ out (Ok (length words + beside)) (over (frame_of k s o words) buffer)
  -- "Refusals: 20 command outside 01's limits .., 21 buffer too short, in that order, buffer untouched."
  pub outside : (k : Layout) (s : ℕ) (o : Order) (words buffer : List ℕ) → within o (length words) ≡ false → written_of k s o words buffer ≡ out (Err OutsideLimits) buffer
  pub short : (k : Layout) (s : ℕ) (o : Order) (words buffer : List ℕ) → within o (length words) ≡ true → length buffer < length words + beside
      → written_of k s o words buffer ≡ out (Err BufferShort) buffer
  -- ".. and the bridge's reader finds that same command": its decoding does, of the command word, and the frame has that command's data words and a right CRC word.
  pub decodes : (k : Layout) (o : Order) (n : ℕ) → within o n ≡ true → decode_by k (command_word k o n) ≡ meant o n
  pub well_formed : (k : Layout) (s : ℕ) (o : Order) (words : List ℕ) → within o (length words) ≡ true → WellFormed k s (frame_of k s o words)
  -- "every well-formed frame is one the writer gives", and for exactly one order and words.
  pub one_way : (k : Layout) (s : ℕ) (frame : List ℕ) → WellFormed k s frame → OneWay k s frame
  -- What a host word is to the bridge, by its own rules.
  pub ruled : (l : Layouts) (b : Bridge) (w x : ℕ) → Ruled l b w x (part_of l b.control.regs.layout b.frame.phase w)
  -- The bridge itself finds it, from any record that obeys the rules with its frame idle and whatever ticks and clock readings come between the words, where
  -- the host wrote it for the registers as they are: in their layout and by their CRC.
  pub found : (o : Order) (words : List ℕ) (c : Config) (es : List Event) → within o (length words) ≡ true → Awaits c → unbroken es ≡ true
      → host_words es ≡ frame_in c.bridge.control.regs o words → Found o words c es
  -- "read the answer back as STATUS or data": what the bridge answers after the frame's CRC word, w, reads back as what it answered, by the CRC in force at
  -- the command word, whatever the frame did to it.
  pub reads_back : (o : Order) (words : List ℕ) (c : Config) (es : List Event) (w : ℕ) (after : List Event) → within o (length words) ≡ true → Awaits c
      → unbroken es ≡ true → host_words (es ++ (Word w ∷ [])) ≡ frame_in c.bridge.control.regs o words → unbroken after ≡ true
      → ReadsBack (start_in c.bridge.control.regs) o (end_of layouts c (es ++ (Word w ∷ []))) after
  -- ".. or an answer of wrong length or CRC": what is told is an answer of the right length and CRC, of the kind that the bridge gives to the command.
  pub due_is : (o : Order) (n : ℕ) → within o n ≡ true → due_of o ≡ answered_with (meant o n)
  pub status_right : (s : ℕ) (o : Order) (words : List ℕ) (value : ℕ) → told_of s o words ≡ Some (Status value) → words ≡ checked s (value ∷ [])
  pub data_right : (s : ℕ) (o : Order) (words : List ℕ) (count : ℕ) → told_of s o words ≡ Some (Data count) → Exactly s count words
  -- An order whose fields are within their limits has a number of words with which it is written; the reader of answers refuses the others.
  pub answerable : (o : Order) → fields_within o ≡ true → SomeWords o
  -- Words of 1s alone are no answer.
  pub silent : Silent
