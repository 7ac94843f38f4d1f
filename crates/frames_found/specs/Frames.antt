-- Frames as the bridge reads them in a layout: by its own decoding (`decode_by`) and its own count of data words (`data_words`), with no word about how they
-- are written (02 item 1, "every well-formed frame is one the writer gives"; item 7). `k` is the layout, `s` where the CRC starts. Assumes nothing.
use Rattle.std.specs.Prelude.{◌≡◌, Bool, true, false, List, ◌∷◌, ◌++◌, [], ℕ, length}
use Rattle.layout.specs.declared.Layout.{Layout}
use Rattle.crc16.specs.Crc.{crc_from}
use Rattle.command.specs.Layout.{decode_by}
use Rattle.command.specs.declared.Command.{Command}
use Rattle.command.specs.declared.Command.TheVariants.{Filler, Malformed, Forward, DataRead, RegisterWrite, RegisterRead, SoftReset}
use Rattle.state.specs.Frame.{data_words}
use Rattle.frames.specs.Orders.{within}
use Rattle.frames.specs.Frames.{frame_of}
use Rattle.frames.specs.declared.Order.{Order}

-- a word that opens a frame: neither filler nor malformed
abbrev pub is_command : Command → Bool
is_command Filler = false
is_command Malformed = false
is_command (Forward crc words ends reads) = true
is_command (DataRead crc words) = true
is_command (RegisterWrite crc address count) = true
is_command (RegisterRead crc address count) = true
is_command SoftReset = true

-- "Command word, data words, CRC word" (01 Frames; 001 7.5.3)
pub record WellFormed (k : Layout) (s : ℕ) (frame : List ℕ) : Type 0 where
  pub word : ℕ
  pub words : List ℕ
  pub crc : ℕ
  pub is : frame ≡ word ∷ (words ++ (crc ∷ []))
  pub opens : is_command (decode_by k word) ≡ true
  pub all_there : length words ≡ data_words (decode_by k word)
  pub right : crc ≡ crc_from s (word ∷ words)

-- what the writer writes, for these
pub record Writes (k : Layout) (s : ℕ) (o : Order) (words frame : List ℕ) : Type 0 where
  pub within_limits : within o (length words) ≡ true
  pub frame_is : frame_of k s o words ≡ frame

-- "for exactly one order and words"
pub record OneWay (k : Layout) (s : ℕ) (frame : List ℕ) : Type 0 where
  pub order : Order
  pub words : List ℕ
  pub writes : Writes k s order words frame
  pub only : (o : Order) (ws : List ℕ) → Writes k s o ws frame → (o ≡ order) × (ws ≡ words)
