-- What the bridge finds in a host's words, over its own rules (02 item 1, "the bridge's reader finds that same command").
-- Assumes nothing.
use Rattle.std.specs.Prelude.{◌≡◌, Bool, true, false, ◌&&◌, ◌||◌, List, [], ◌∷◌, map, ℕ, suc, ltb, eqb, length}
use Rattle.base.specs.Pick.{pick}
use Rattle.layout.specs.declared.Layout.{Layout}
use Rattle.command.specs.Layouts.{Layouts, start_by, layouts}
use Rattle.command.specs.declared.Command.{Command}
use Rattle.registers.specs.Spictrl.{is_xmodem}
use Rattle.registers.specs.declared.Regs.{Regs}
use Rattle.rules.specs.Sound.{sound}
use Rattle.state.specs.Frame.{data_words}
use Rattle.state.specs.Notes.{note_number}
use Rattle.state.specs.Queue.{places}
use Rattle.state.specs.declared.Bridge.{Bridge}
use Rattle.state.specs.declared.Note.{Note}
use Rattle.state.specs.declared.Phase.{Phase}
use Rattle.state.specs.declared.Phase.TheVariants.{Idle, Collecting, Answering, Discarding}
use Rattle.state.specs.declared.Progress.{Progress}
use Rattle.closing.specs.Closing.{crc_due}
use Rattle.host.specs.Frames.{opened, data_word, planned}
use Rattle.events.specs.declared.Event.{Event}
use Rattle.events.specs.declared.Event.TheVariants.{Power, Word, Release, Tick, Clock as ClockReading}
use Rattle.bridge.specs.Runs.{Config, RightStores}
use Rattle.frames.specs.Frames.{frame_of}
use Rattle.frames.specs.Orders.{meant}
use Rattle.frames.specs.declared.Order.{Order}
use Rattle.frames_found.specs.Moments.{Moment, moments_in}

-- What a host word is to the frame that it meets: it opens one with this command, brings the data word of this number (from 0), or closes it with a CRC word,
-- right or not. During an answer, and while words are discarded, it is none of these.
pub data Part : Type 0 where
  opens : Command → Part
  brings : Command → ℕ → ℕ → Part
  closes : Command → Bool → Part
  apart : Part

-- `k`: the layout in force there
unfoldable pub part_of : Layouts → Layout → Phase → ℕ → Part
part_of l k Idle w = opens (l.decode k w)
part_of l k (Collecting command got sum mine released blocked) w =
    pick (ltb got (data_words command)) (brings command got w) (closes command (eqb w sum))
part_of l k (Answering reply sum) w = apart
part_of l k Discarding w = apart

-- What each part does is the rule of crates/host for it: the command's opening, the data word's rule for this very word, the CRC word's rule. x is the oldest
-- word of RX.
pub record Brings (l : Layouts) (b : Bridge) (w x : ℕ) (command : Command) (number word : ℕ) : Type 0 where
  pub so_far : Progress
  pub number_is : so_far.got ≡ number
  pub rule_is : planned l b w x ≡ data_word b command so_far word

pub record Closes (l : Layouts) (b : Bridge) (w x : ℕ) (command : Command) (right : Bool) : Type 0 where
  pub mine : ℕ
  pub blocked : Bool
  pub rule_is : planned l b w x ≡ crc_due l b command mine blocked right

abbrev pub Ruled : Layouts → Bridge → ℕ → ℕ → Part → Type 0
Ruled l b w x (opens command) = planned l b w x ≡ opened b command (l.crc_step (l.crc_start (is_xmodem b.control.regs)) w)
Ruled l b w x (brings command number word) = Brings l b w x command number word
Ruled l b w x (closes command right) = Closes l b w x command right
Ruled l b w x apart = Unit {0}

-- the parts and the notes of a run, one for each host word
unfoldable pub parts_in : Layouts → Config → List Event → List Part
parts_in l c es = map (λ (m : Moment). part_of l m.at.bridge.control.regs.layout m.at.bridge.frame.phase m.word) (moments_in l c es)

unfoldable pub notes_in : Layouts → Config → List Event → List Note
notes_in l c es = map (λ (m : Moment). m.answer.note) (moments_in l c es)

-- done, or refused for what the bridge holds: notes 5, 8, 9, 10, 11; never for the frame's form or CRC (01 Notes)
abbrev pub is_of_state : Note → Bool
is_of_state n =
    eqb (note_number n) 0 || eqb (note_number n) 5 || eqb (note_number n) 8 || eqb (note_number n) 9 || eqb (note_number n) 10 || eqb (note_number n) 11

unfoldable pub all_of_state : List Note → Bool
all_of_state [] = true
all_of_state (n ∷ ns) = is_of_state n && all_of_state ns

-- the parts that an order's frame should be: "open that command, bring exactly those words and close with a right CRC word"
unfoldable pub parts_from : Command → ℕ → List ℕ → List Part
parts_from command got [] = closes command true ∷ []
parts_from command got (w ∷ ws) = brings command got w ∷ parts_from command (suc got) ws

unfoldable pub parts_for : Order → List ℕ → List Part
parts_for o ws = opens (meant o (length ws)) ∷ parts_from (meant o (length ws)) 0 ws

-- Chip select stays and the supply does: words, with ticks and clock readings between them at will.
unfoldable pub unbroken : List Event → Bool
unbroken [] = true
unbroken (Power good layout ∷ es) = false
unbroken (Word w ∷ es) = unbroken es
unbroken (Release ∷ es) = false
unbroken (Tick sin ∷ es) = unbroken es
unbroken (ClockReading reading ∷ es) = unbroken es

-- Where the CRC of a frame starts whose command word finds these registers, and the frame that a host writes for them: in their layout, by their CRC (02 item 7).
abbrev pub start_in : Regs → ℕ
start_in r = start_by (is_xmodem r)

abbrev pub frame_in : Regs → Order → List ℕ → List ℕ
frame_in r o words = frame_of r.layout (start_in r) o words

-- "from any record that obeys the rules with its frame idle". The code's type has an array of eight places.
pub record Awaits (c : Config) : Type 0 where
  pub stores : RightStores c.tx c.rx
  pub rules : sound c.bridge ≡ true
  pub eight : length c.bridge.sending.queue.places ≡ places
  pub idle : c.bridge.frame.phase ≡ Idle

-- what a run is, in which the words of an order's frame came
pub record Found (o : Order) (words : List ℕ) (c : Config) (es : List Event) : Type 0 where
  pub parts_are : parts_in layouts c es ≡ parts_for o words
  pub notes_are : all_of_state (notes_in layouts c es) ≡ true
