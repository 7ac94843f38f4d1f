-- The frame of an order in a layout, and what the writer leaves in a lent buffer (02 items 1 and 7). Assumes nothing.
use Rattle.std.specs.Prelude.{List, [], ◌∷◌, ◌++◌, ℕ, ◌+◌, leb, length, drop, Result, Ok, Err}
use Rattle.base.specs.Pick.{pick}
use Rattle.layout.specs.declared.Layout.{Layout}
use Rattle.crc16.specs.Crc.{crc_from}
use Rattle.frames.specs.Orders.{within, command_word}
use Rattle.frames.specs.declared.Order.{Order}
use Rattle.frames.specs.declared.WriteError.{WriteError}
use Rattle.frames.specs.declared.WriteError.TheVariants.{OutsideLimits, BufferShort}

-- words, and then their CRC word, by a CRC that starts at s: "over command and data words" (01 Frames)
abbrev pub checked : ℕ → List ℕ → List ℕ
checked s ws = ws ++ (crc_from s ws ∷ [])

-- "Command word, data words, CRC word" (01 Frames; 001 7.5.3)
abbrev pub frame_of : Layout → ℕ → Order → List ℕ → List ℕ
frame_of k s o ws = checked s (command_word k o (length ws) ∷ ws)

-- the words of a frame beside its data words: command word and CRC word
abbrev pub beside : ℕ
beside = 2

-- the front of a buffer written over; the cells beyond stay
abbrev pub over : List ℕ → List ℕ → List ℕ
over ws buffer = ws ++ drop (length ws) buffer

-- what the writer answers, and the buffer as it leaves it
pub record Out : Type 0 where
  pub answer : Result ℕ WriteError
  pub buffer : List ℕ

abbrev pub out : Result ℕ WriteError → List ℕ → Out
out answer buffer = record { answer = answer; buffer = buffer }

-- the refusals by 02's numbers; 0 is none
abbrev pub written_refusal : Result ℕ WriteError → ℕ
written_refusal (Ok words) = 0
written_refusal (Err OutsideLimits) = 20
written_refusal (Err BufferShort) = 21

-- "Refusals: 20 command outside 01's limits .., 21 buffer too short, in that order, buffer untouched"
unfoldable pub written_of : Layout → ℕ → Order → List ℕ → List ℕ → Out
written_of k s o ws buffer =
    pick (within o (length ws))
    (pick (leb (length ws + beside) (length buffer)) (out (Ok (length ws + beside)) (over (frame_of k s o ws) buffer)) (out (Err BufferShort) buffer))
    (out (Err OutsideLimits) buffer)
