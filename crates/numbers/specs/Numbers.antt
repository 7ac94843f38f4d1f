-- The P rows of 01 Numbers on both sides, and the numbers that 001 prints of the maker's layout (02 item 7): what the definitions give, and what the page says.
-- Assumes nothing.
use Rattle.std.specs.Prelude.{Bool, true, false, List, [], ◌∷◌, ◌++◌, map, ℕ, zero, suc, ◌+◌, replicate}
use Rattle.layout.specs.declared.Layout.TheVariants.{Ours, Makers}
use Rattle.layout.specs.declared.Layout.{Layout}
use Rattle.base.specs.Pick.{pick}
use Rattle.crc16.specs.Crc.{crc_from, crc_of}
use Rattle.command.specs.Layouts.{start_xmodem, layouts}
use Rattle.line.specs.Reader.{hear}
use Rattle.line.specs.declared.Found.{Found}
use Rattle.line.specs.declared.Found.TheVariants.{Nothing, Start, Word as WordFound, End, CheckError, Over}
use Rattle.registers.specs.Registers.{status_of, read_of}
use Rattle.state.specs.Rings.{tx_size, rx_size}
use Rattle.state.specs.Notes.{note_number}
use Rattle.state.specs.Power.{power_up}
use Rattle.events.specs.Turn.{Out}
use Rattle.events.specs.declared.Event.{Event}
use Rattle.events.specs.declared.Event.TheVariants.{Power, Word, Release, Tick}
use Rattle.bridge.specs.Step.{step}
use Rattle.drain.specs.Drain.{drain}

-- what the definitions give, what the page says
pub record Row : Type 0 where
  pub gives : ℕ
  pub says : ℕ

abbrev pub row : ℕ → ℕ → Row
row gives says = record { gives = gives; says = says }

-- an event on the state and stores that the last one left
unfoldable pub then : Out → Event → Out
then o e = step layouts o.answer.state o.tx o.rx e

unfoldable pub after : Out → List Event → Out
after o [] = o
after o (e ∷ es) = after (then o e) es

-- a power-up event, with stores of zeros
unfoldable pub power_on : Bool → Layout → Out
power_on good layout = step layouts power_up (replicate tx_size 0) (replicate rx_size 0) (Power good layout)

-- a frame: its words, their CRC, chip select released
unfoldable pub frame : List ℕ → List Event
frame ws = map Word ws ++ (Word (crc_of ws) ∷ (Release ∷ []))

-- the note of a command word from power-up
unfoldable pub note_in : Layout → ℕ → ℕ
note_in layout word = note_number (then (power_on true layout) (Word word)).answer.note

-- what an address reads at power-up
unfoldable pub register_in : Layout → ℕ → ℕ
register_in layout address = read_of (power_on true layout).answer.state.control 0 0 address

unfoldable pub status_after : Out → ℕ
status_after o = status_of o.answer.state.control

-- "after a clear": REG_WR of STATUS bit 15
unfoldable pub once_cleared : Out
once_cleared = after (power_on true Ours) (frame (0xB007 ∷ 0x8000 ∷ []))

-- "then forced to failsafe": REG_WR of DEVCTRL bit 2
unfoldable pub once_forced : Out
once_forced = after once_cleared (frame (0xB005 ∷ 0x0004 ∷ []))

-- POR cleared, then a command of this one word: FWD_WR_CRC
unfoldable pub queued : ℕ → Out
queued word = after once_cleared (frame (0x2000 ∷ word ∷ []))

-- ticks with SIN 1 until it is sent
unfoldable pub ticks_of : ℕ → ℕ
ticks_of word = (drain layouts (queued word).answer.state (queued word).tx (queued word).rx 100).drained.ticks

-- "looped straight back": a tick's SIN is its own SOUT, which does not wait for SIN
unfoldable pub own_bit : Out → Bool
own_bit o = (then o (Tick true)).answer.sout

unfoldable pub is_end : Found → Bool
is_end Nothing = false
is_end Start = false
is_end (WordFound word) = false
is_end End = true
is_end (CheckError n) = false
is_end Over = false

-- whether the bridge's reader finds END at the next looped tick
unfoldable pub ends_next : Out → Bool
ends_next o = is_end (hear o.answer.state.receiving.reader.ear (own_bit o)).found

-- the tick at which END is read, after so many; 0 where it is in none of the next `budget`
unfoldable pub end_from : ℕ → ℕ → Out → ℕ
end_from zero ticks o = 0
end_from (suc budget) ticks o = pick (ends_next o) (ticks + 1) (end_from budget (ticks + 1) (then o (Tick (own_bit o))))

unfoldable pub end_tick_of : ℕ → ℕ
end_tick_of word = end_from 100 0 (queued word)

unfoldable pub table : List Row
table =
    row (crc_of []) 0xFFFF  -- "CRC of no words 0xFFFF"
    ∷ row (crc_of (0xFFFF ∷ [])) 0x0000  -- "of 0xFFFF 0x0000"
    ∷ row (crc_of (0xFFFE ∷ [])) 0x1021  -- "of 0xFFFE 0x1021"
    ∷ row (crc_of (0xFFFD ∷ [])) 0x2042  -- "of 0xFFFD 0x2042"
    ∷ row (note_in Ours 0x21FF) 0  -- "Word 0x21FF accepted"
    ∷ row (note_in Ours 0x2200) 3  -- "0x2200 note 3"
    ∷ row (note_in Ours 0xA10A) 0  -- "0xA10A is accepted". 02 item 4
    ∷ row (note_in Ours 0xA10B) 3  -- "and 0xA10B takes its row". 02 item 4
    ∷ row (note_in Ours 0xF000) 3  -- "0xF000 note 3"
    ∷ row (status_after (power_on true Ours)) 0x0403  -- "STATUS 0x0403 at power-up"
    ∷ row (status_after (power_on false Ours)) 0x041B  -- "0x041B with bad OTP"
    ∷ row (status_after once_cleared) 0x0400  -- "0x0400 after a clear"
    ∷ row (status_after once_forced) 0x0431  -- "0x0431 when then forced to failsafe"
    ∷ row (ticks_of 0xAAF0) 36  -- "One word 0xAAF0 takes 36 ticks"
    ∷ row (end_tick_of 0xAAF0) 35  -- "looped straight back, END is read at tick 35"
    ∷ row (end_tick_of 0xAA0F) 36  -- "With 0xAA0F, at tick 36"
    ∷ row (crc_of (0xE1E1 ∷ [])) 0xD383  -- "using CCITT-FALSE algorithm is 0xD383". 001 7.5.4
    ∷ row (crc_from start_xmodem (0xE1E1 ∷ [])) 0xCE8C  -- "when using CRC-16/XMODEM algorithm 0xCE8C". 001 7.5.4
    ∷ row (note_in Makers 0xE1E1) 0  -- "SOFTRESET_CRC 0xE 0x1E1". 001 table 7-2
    ∷ row (note_in Makers 0xE000) 3  -- a fixed field with another value is malformed (docs/DECISIONS.md)
    ∷ row (note_in Ours 0xE1E1) 3  -- "14: 0". 01 Frames
    ∷ row (note_in Makers 0xA281) 0  -- registers 10 and 11: address 9..6, count 3..0 (001 table 7-2; 02 item 4)
    ∷ row (note_in Makers 0xA282) 3  -- past register 11 (02 item 4)
    ∷ row (note_in Makers 0xA410) 3  -- bits 11..10 and 5..4 are 0x0. 001 table 7-2
    ∷ row (register_in Makers 0) 0xED99  -- "DEVID .. [Reset = 0xED99]". 001 7.6.1
    ∷ row (register_in Makers 1) 0x00A0  -- "SPICTRL .. [Reset = 0x00A0]". 001 7.6.2
    ∷ row (register_in Makers 3) 0x01FF  -- "TXFFLVL .. [Reset = 0x01FF]". 001 7.6.4
    ∷ row (register_in Makers 4) 0x00FF  -- "RXFFLVL .. [Reset = 0x00FF]". 001 7.6.5
    ∷ row (register_in Makers 7) 0x0403  -- "STATUS .. [Reset = 0x0403]". 001 7.6.8
    ∷ row (status_after (power_on false Makers)) 0x041B  -- with bad OTP, as in ours
    ∷ []

unfoldable pub given : List Row → List ℕ
given [] = []
given (r ∷ rs) = r.gives ∷ given rs

unfoldable pub said : List Row → List ℕ
said [] = []
said (r ∷ rs) = r.says ∷ said rs
