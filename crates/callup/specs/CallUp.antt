-- A call-up as events of the bridge (02 item 13, "It goes out as FWD_WR_CRC, followed by a VSYNC command of one word"). Assumes nothing.
use Rattle.std.specs.Prelude.{◌≡◌, Bool, true, false, List, [], ◌∷◌, ◌++◌, ℕ, ◌+◌, ◌*◌, ◌≤◌, ◌<◌, length}
use Rattle.base.specs.Bits.{word_end}
use Rattle.layout.specs.declared.Layout.{Layout}
use Rattle.command.specs.Layouts.{Layouts, start_by}
use Rattle.command.specs.declared.Command.TheVariants.{Forward}
use Rattle.registers.specs.declared.Regs.{Regs}
use Rattle.verdict.specs.Verdicts.{call_up_most}
use Rattle.frames.specs.Frames.{frame_of}
use Rattle.frames_found.specs.Found.{frame_in}
use Rattle.frames.specs.Orders.{command_word}
use Rattle.frames.specs.declared.Order.TheVariants.{FwdWrCrc}
use Rattle.events.specs.declared.Event.{Event}
use Rattle.events.specs.declared.Event.TheVariants.{Word, Release}
use Rattle.bridge.specs.Runs.{Config}

-- VSYNC. 001 7.3.4.6.2
abbrev pub vsync : ℕ
vsync = 0xAAF0

-- the words of a frame given to the bridge, and chip select released behind them; no answer word is fetched (ours)
unfoldable pub given : List ℕ → List Event
given [] = Release ∷ []
given (w ∷ ws) = Word w ∷ given ws

-- both frames, as the writer of item 1 writes them for these registers; neither writes a register, so the second is for the same ones (`Same`)
unfoldable pub call_up : Regs → List ℕ → List Event
call_up r ws = given (frame_in r FwdWrCrc ws) ++ given (frame_in r FwdWrCrc (vsync ∷ []))

-- for the bridge as it stands
abbrev pub call_up_to : Config → List ℕ → List Event
call_up_to c ws = call_up c.bridge.control.regs ws

-- the ticks of a call-up: "19 + 17 x words", and 36 for its VSYNC. 01 The line, "Draining"
abbrev pub ticks_for : ℕ → ℕ
ticks_for words = 19 + 17 * words + 36

-- what the line shows of call-ups: the words of each, and then VSYNC
unfoldable pub pairs : List (List ℕ) → List (List ℕ)
pairs [] = []
pairs (ws ∷ wss) = ws ∷ (vsync ∷ []) ∷ pairs wss

-- the CRC of words, from a sum so far
unfoldable pub sum_by : Layouts → ℕ → List ℕ → ℕ
sum_by l sum [] = sum
sum_by l sum (w ∷ ws) = sum_by l (l.crc_step sum w) ws

-- Layouts by which the writer's frames are these commands, with a right CRC word: in every layout, by either algorithm.
pub record Speaks (l : Layouts) : Type 0 where
  pub forward : (k : Layout) (n : ℕ) → 1 ≤ n → n ≤ call_up_most → l.decode k (command_word k FwdWrCrc n) ≡ Forward true n 0 false
  pub frame : (k : Layout) (xmodem : Bool) (ws : List ℕ)
      → frame_of k (start_by xmodem) FwdWrCrc ws
      ≡ command_word k FwdWrCrc (length ws) ∷ (ws ++ (sum_by l (l.crc_step (l.crc_start xmodem) (command_word k FwdWrCrc (length ws))) ws ∷ []))
  pub start_lt : (xmodem : Bool) → l.crc_start xmodem < word_end
  pub step_lt : (s w : ℕ) → s < word_end → w < word_end → l.crc_step s w < word_end
