-- What an open frame has in TX and has still to bring. Assumes nothing.
use Rattle.std.specs.Prelude.{Bool, true, false, not, ◌&&◌, ◌||◌, ℕ, ◌+◌, ◌-◌, ltb, leb, eqb}
use Rattle.base.specs.Pick.{pick}
use Rattle.command.specs.Layout.{most_words, most_ends, most_read, registers_end}
use Rattle.command.specs.declared.Command.{Command}
use Rattle.command.specs.declared.Command.TheVariants.{Filler, Malformed, Forward, DataRead, RegisterWrite, RegisterRead, SoftReset}
use Rattle.state.specs.declared.Fwd.{Fwd}
use Rattle.state.specs.declared.Phase.{Phase}
use Rattle.state.specs.declared.Phase.TheVariants.{Idle, Collecting, Answering, Discarding}
use Rattle.state.specs.declared.Progress.{Progress}
use Rattle.state.specs.declared.Reply.{Reply}
use Rattle.state.specs.declared.Reply.TheVariants.{Status, Data, Registers, Check}

-- what a forward's command word says (01 Frames, rows 2 to 7)
abbrev pub fwd : Bool → ℕ → ℕ → Bool → Fwd
fwd crc words ends reads = record { crc = crc; words = words; ends = ends; reads = reads }

-- what an open frame's phase keeps beside its command: the words that came, the CRC so far, its own words still in TX and unreleased, whether it is
-- released, and whether it is blocked (01 Notes, 5). ours
abbrev pub progress : ℕ → ℕ → ℕ → Bool → Bool → Progress
progress got crc mine released blocked = record { got = got; crc = crc; mine = mine; released = released; blocked = blocked }

-- the data words between the command word and the CRC word: "Reads and the reset carry no data words"
abbrev pub data_words : Command → ℕ
data_words Filler = 0
data_words Malformed = 0
data_words (Forward crc words ends reads) = words
data_words (DataRead crc words) = 0
data_words (RegisterWrite crc address count) = count
data_words (RegisterRead crc address count) = 0
data_words SoftReset = 0

abbrev pub is_forward : Command → Bool
is_forward Filler = false
is_forward Malformed = false
is_forward (Forward crc words ends reads) = true
is_forward (DataRead crc words) = false
is_forward (RegisterWrite crc address count) = false
is_forward (RegisterRead crc address count) = false
is_forward SoftReset = false

unfoldable pub mine_of : Phase → ℕ
mine_of Idle = 0
mine_of (Collecting command got crc mine released blocked) = mine
mine_of (Answering reply crc) = 0
mine_of Discarding = 0

-- the words that a released forward, not blocked, has still to bring for the place that it queued
unfoldable pub owed_by : Command → ℕ → Bool → Bool → ℕ
owed_by command got released blocked = pick (released && not blocked) (data_words command - got) 0

unfoldable pub to_come : Phase → ℕ
to_come Idle = 0
to_come (Collecting command got crc mine released blocked) = owed_by command got released blocked
to_come (Answering reply crc) = 0
to_come Discarding = 0

-- Record rules of a frame. A forward's unreleased words are all that came; released or blocked it has none. One that is not named _CRC is
-- released or blocked at the latest when all data words have come, unless it has nothing to send; one named _CRC is not released while it
-- collects.
abbrev pub forward_sound : Fwd → Progress → Bool
forward_sound f at =
    leb at.got f.words && leb f.words most_words && leb f.ends most_ends && eqb at.mine (pick (at.released || at.blocked) 0 at.got)
    && not (at.released && f.crc)
    && (f.crc || at.released || at.blocked || ltb at.got f.words || (eqb f.words 0 && eqb f.ends 0))

unfoldable pub collect_sound : Command → Progress → Bool
collect_sound Filler at = false
collect_sound Malformed at = false
collect_sound (Forward crc words ends reads) at = forward_sound (fwd crc words ends reads) at
collect_sound (DataRead crc words) at = eqb at.got 0 && eqb at.mine 0 && not at.released && ltb 0 words && leb words most_read
collect_sound (RegisterWrite crc address count) at =
    leb at.got count && eqb at.mine 0 && not at.released && ltb 0 count && leb (address + count) registers_end
collect_sound (RegisterRead crc address count) at =
    eqb at.got 0 && eqb at.mine 0 && not at.released && ltb 0 count && leb (address + count) registers_end
collect_sound SoftReset at = eqb at.got 0 && eqb at.mine 0 && not at.released

unfoldable pub reply_sound : Reply → Bool
reply_sound (Status w) = true
reply_sound (Data left) = ltb 0 left && leb left most_read
reply_sound (Registers address left) = ltb 0 left && leb (address + left) registers_end
reply_sound Check = true

unfoldable pub phase_sound : Phase → Bool
phase_sound Idle = true
phase_sound (Collecting command got crc mine released blocked) = collect_sound command (progress got crc mine released blocked)
phase_sound (Answering reply crc) = reply_sound reply
phase_sound Discarding = true
