-- A host that reads nothing but 1s (02 item 1): the line of a bridge that does not answer. Assumes nothing.
use Rattle.std.specs.Prelude.{◌≡◌, Bool, ℕ, replicate, None}
use Rattle.base.specs.Bits.{all_ones}
use Rattle.command.specs.Layouts.{start_by}
use Rattle.frames.specs.Answers.{told_of}
use Rattle.frames.specs.declared.Order.{Order}

-- however many words of 0xFFFF came back, for whatever order and by either CRC (02 item 7): refusal 20
abbrev pub Silent : Type 0
Silent = (xmodem : Bool) (o : Order) (n : ℕ) → told_of (start_by xmodem) o (replicate n all_ones) ≡ None
