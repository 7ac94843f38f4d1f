-- What a host word asks for, by the frame's phase (01 Frames; notes 3 to 11 and 15). Assumes nothing.
use Rattle.std.specs.Prelude.{false, ℕ, ltb, eqb}
use Rattle.base.specs.Pick.{pick}
use Rattle.command.specs.Layouts.{Layouts}
use Rattle.command.specs.declared.Command.{Command}
use Rattle.command.specs.declared.Command.TheVariants.{Filler, Malformed, Forward, DataRead, RegisterWrite, RegisterRead, SoftReset}
use Rattle.registers.specs.Registers.{blocking}
use Rattle.registers.specs.Spictrl.{is_xmodem}
use Rattle.state.specs.Frame.{fwd, progress, data_words}
use Rattle.state.specs.declared.Bridge.{Bridge}
use Rattle.state.specs.declared.Note.TheVariants.{Done, MalformedWord, Discarded}
use Rattle.state.specs.declared.Phase.{Phase}
use Rattle.state.specs.declared.Phase.TheVariants.{Idle, Collecting, Answering, Discarding}
use Rattle.state.specs.declared.Progress.{Progress}
use Rattle.plan.specs.Plan.{plain}
use Rattle.forwards.specs.Forward.{word_counted, forward_word, forward_begun}
use Rattle.plan.specs.declared.Plan.{Plan}
use Rattle.writes.specs.Writes.{register_word}
use Rattle.closing.specs.Closing.{crc_due}
use Rattle.answers.specs.Answers.{answered}

-- 1. The command word.

-- a frame other than a forward's begins to collect
abbrev pub collects : Bridge → Command → ℕ → Plan
collects b command sum = plain b (Collecting command 0 sum 0 false false) Done

-- outside a frame: "0xFFFF is filler"; note 3. A blocking flag that "is .. up during this frame" blocks a forward from its start.
unfoldable pub opened : Bridge → Command → ℕ → Plan
opened b Filler sum = plain b Idle Done
opened b Malformed sum = plain b Discarding MalformedWord
opened b (Forward crc words ends reads) sum = forward_begun b (fwd crc words ends reads) sum (blocking b.control.flags)
opened b (DataRead crc words) sum = collects b (DataRead crc words) sum
opened b (RegisterWrite crc address count) sum = collects b (RegisterWrite crc address count) sum
opened b (RegisterRead crc address count) sum = collects b (RegisterRead crc address count) sum
opened b SoftReset sum = collects b SoftReset sum

-- 2. Data words; `at` is before the word, but for the CRC.

-- a frame that goes on collecting
abbrev pub collecting : Command → Progress → Phase
collecting command at = Collecting command at.got at.crc at.mine at.released at.blocked

-- the CRC with the word in it: "over command and data words" (01 Frames)
abbrev pub summed : ℕ → Progress → Progress
summed sum at = record { got = at.got; crc = sum; mine = at.mine; released = at.released; blocked = at.blocked }

unfoldable pub data_word : Bridge → Command → Progress → ℕ → Plan
data_word b Filler at w = plain b Idle Done
data_word b Malformed at w = plain b Idle Done
data_word b (Forward crc words ends reads) at w = forward_word b (fwd crc words ends reads) at w
data_word b (DataRead crc words) at w = plain b Idle Done
data_word b (RegisterWrite crc address count) at w =
    register_word b crc address at.got (collecting (RegisterWrite crc address count) (word_counted at)) w
data_word b (RegisterRead crc address count) at w = plain b Idle Done
data_word b SoftReset at w = plain b Idle Done

-- "Command word, data words, CRC word" (01 Frames): a data word while one is due, then the CRC word
abbrev pub collected : Layouts → Bridge → Command → Progress → ℕ → Plan
collected l b command at w =
    pick (ltb at.got (data_words command)) (data_word b command (summed (l.crc_step at.crc w) at) w)
    (crc_due l b command at.mine at.blocked (eqb w at.crc))

-- 3. A host word, by phase; x is the oldest word of RX.
unfoldable pub planned_in : Layouts → Bridge → Phase → ℕ → ℕ → Plan
planned_in l b Idle w x = opened b (l.decode b.control.regs.layout w) (l.crc_step (l.crc_start (is_xmodem b.control.regs)) w)
planned_in l b (Collecting command got sum mine released blocked) w x =
    collected l b command (progress got sum mine released blocked) w
planned_in l b (Answering reply sum) w x = answered l b reply sum x
planned_in l b Discarding w x = plain b Discarding Discarded

unfoldable pub planned : Layouts → Bridge → ℕ → ℕ → Plan
planned l b w x = planned_in l b b.frame.phase w x
