-- Host events that move the phase and nothing else. No rule: what they do is what `turn` says of them. Assumes nothing.
use Rattle.std.specs.Prelude.{Bool, true, false, ℕ, eqb}
use Rattle.base.specs.Pick.{pick}
use Rattle.crc16.specs.Crc.{crc_word}
use Rattle.plan.specs.Plan.{no_answer}
use Rattle.state.specs.declared.Phase.{Phase}
use Rattle.state.specs.declared.Phase.TheVariants.{Idle, Collecting, Answering, Discarding}
use Rattle.state.specs.declared.Reply.{Reply}
use Rattle.state.specs.declared.Reply.TheVariants.{Status, Data, Registers, Check}
use Rattle.night_parts.specs.declared.moving.Move.{Move}

abbrev pub move : Bool → ℕ → Phase → Move
move moves sdo phase = record { moves = moves; sdo = sdo; phase = phase }

abbrev pub no_move : Move
no_move = move false no_answer Idle

-- a release that cuts nothing short
unfoldable pub release_move : Phase → Move
release_move Idle = move true no_answer Idle
release_move (Collecting command got sum mine released blocked) = no_move
release_move (Answering reply sum) = move true no_answer Idle
release_move Discarding = move true no_answer Idle

-- a word that takes a status, or the CRC of what was answered
unfoldable pub reply_move : Reply → ℕ → Move
reply_move (Status status) sum = move true status (Answering Check (crc_word sum status))
reply_move (Data left) sum = no_move
reply_move (Registers address left) sum = no_move
reply_move Check sum = move true sum Idle

unfoldable pub word_move : Phase → Move
word_move Idle = no_move
word_move (Collecting command got sum mine released blocked) = no_move
word_move (Answering reply sum) = reply_move reply sum
word_move Discarding = no_move

-- by the record's kind
unfoldable pub move_of : ℕ → Phase → Move
move_of kind phase = pick (eqb kind 1) (word_move phase) (pick (eqb kind 2) (release_move phase) no_move)
