-- The layouts as a value that the rules take: how a host's command words are decoded, and the CRC of its frames. What is proved of the rules is
-- proved for any such value, and so once for both layouts. Assumes nothing.
use Rattle.std.specs.Prelude.{Bool, ℕ}
use Rattle.base.specs.Pick.{pick}
use Rattle.layout.specs.declared.Layout.{Layout}
use Rattle.crc16.specs.Crc.{start, crc_word}
use Rattle.command.specs.Layout.{decode_by}
use Rattle.command.specs.declared.Command.{Command}

-- `crc_start`: of a frame, by whether its algorithm is CRC-16/XMODEM
pub record Layouts : Type 0 where
  pub decode : Layout → ℕ → Command
  pub crc_start : Bool → ℕ
  pub crc_step : ℕ → ℕ → ℕ

-- where CRC-16/XMODEM starts; CCITT-FALSE, "the default algorithm" (001 7.5.3), starts as 01's does
abbrev pub start_xmodem : ℕ
start_xmodem = 0

-- "Both algorithms are based on the polynomial" of 01 (001 7.5.3): they differ in their start. 02 item 7
unfoldable pub start_by : Bool → ℕ
start_by xmodem = pick xmodem start_xmodem start

-- 01 Frames and 001 7.5.3, beside each other (02 item 7)
abbrev pub layouts : Layouts
layouts = record { decode = decode_by; crc_start = start_by; crc_step = crc_word }
