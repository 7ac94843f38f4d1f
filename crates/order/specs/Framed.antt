-- The accepted commands as the host sent them, told from its words alone (01 Frames, "Command word, data words, CRC word"). Assumes nothing.
use Rattle.std.specs.Prelude.{◌≡◌, Bool, List, [], ◌∷◌, ◌++◌, ℕ, ◌≤◌, length, get_or}
use Rattle.layout.specs.declared.Layout.{Layout}
use Rattle.layout.specs.declared.Layout.TheVariants.{Ours}
use Rattle.command.specs.Layouts.{Layouts}
use Rattle.command.specs.declared.Command.TheVariants.{Forward}
use Rattle.events.specs.declared.Event.{Event}
use Rattle.bridge.specs.Runs.{Config, next}
use Rattle.events.specs.declared.Event.TheVariants.{Power, Word, Release, Tick, Clock as ClockReading}

unfoldable pub word_of : Event → List ℕ
word_of (Power good layout) = []
word_of (Word w) = w ∷ []
word_of Release = []
word_of (Tick sin) = []
word_of (ClockReading reading) = []

-- the host's words of a run
unfoldable pub host_words : List Event → List ℕ
host_words [] = []
host_words (e ∷ es) = word_of e ++ host_words es

-- the layout in force at each of them
unfoldable pub layout_at : Config → Event → List Layout
layout_at c (Power good layout) = []
layout_at c (Word w) = c.bridge.control.regs.layout ∷ []
layout_at c Release = []
layout_at c (Tick sin) = []
layout_at c (ClockReading reading) = []

unfoldable pub spoken_in : Layouts → Config → List Event → List Layout
spoken_in l c [] = []
spoken_in l c (e ∷ es) = layout_at c e ++ spoken_in l (next l c e) es

-- The commands stand in the words, in order, none over another: each is an unbroken run of words right behind its command word, and that is
-- a forward's of at least so many words, in the layout in force there (02 item 7). `spoken`: the layout of each word.
pub data Framed (l : Layouts) (spoken : List Layout) : List (List ℕ) → List ℕ → Type 0 where
  start : Framed l spoken [] []
  more : (commands : List (List ℕ)) (sent : List ℕ) (w : ℕ) → Framed l spoken commands sent → Framed l spoken commands (sent ++ (w ∷ []))
  frame : (commands : List (List ℕ)) (sent : List ℕ) (command_word : ℕ) (words : List ℕ) (crc : Bool) (most ends : ℕ) (reads : Bool)
      → Framed l spoken commands sent → l.decode (get_or spoken (length sent) Ours) command_word ≡ Forward crc most ends reads → length words ≤ most
      → Framed l spoken (commands ++ (words ∷ [])) (sent ++ (command_word ∷ words))
