-- The variants that the bridge's record holds, as numbers: a variant's own in the order of its type, and those that it holds; what it does not hold
-- is 0. And the variant by its numbers. Ours. Assumes nothing.
use Rattle.std.specs.Prelude.{Bool, false, ℕ, eqb}
use Rattle.base.specs.Pick.{pick}
use Rattle.command.specs.declared.Command.{Command}
use Rattle.command.specs.declared.Command.TheVariants.{Filler, Malformed, Forward, DataRead, RegisterWrite, RegisterRead, SoftReset}
use Rattle.layout.specs.declared.Layout.{Layout}
use Rattle.layout.specs.declared.Layout.TheVariants.{Ours, Makers}
use Rattle.line.specs.declared.Ear.{Ear}
use Rattle.line.specs.declared.Ear.TheVariants.{Quiet, Group, Lost}
use Rattle.line.specs.declared.Piece.{Piece}
use Rattle.line.specs.declared.Piece.TheVariants.{Pause, StartBit, WordPiece, EndPiece}
use Rattle.registers.specs.declared.Mode.{Mode}
use Rattle.registers.specs.declared.Mode.TheVariants.{Normal, Init, Failsafe}
use Rattle.state.specs.declared.Phase.{Phase}
use Rattle.state.specs.declared.Phase.TheVariants.{Idle, Collecting, Answering, Discarding}
use Rattle.state.specs.declared.Reply.{Reply}
use Rattle.state.specs.declared.Reply.TheVariants.{Status, Data, Registers, Check}
use Rattle.parts.specs.declared.Parts.{Parts}

abbrev pub parts : ℕ → ℕ → ℕ → ℕ → ℕ → Bool → Bool → Parts
parts kind a b c d x y = record { kind = kind; a = a; b = b; c = c; d = d; x = x; y = y }

abbrev pub mode_number : Mode → ℕ
mode_number Normal = 0
mode_number Init = 1
mode_number Failsafe = 2

unfoldable pub mode_of : ℕ → Mode
mode_of kind = pick (eqb kind 0) Normal (pick (eqb kind 1) Init Failsafe)

abbrev pub layout_number : Layout → ℕ
layout_number Ours = 0
layout_number Makers = 1

unfoldable pub layout_of : ℕ → Layout
layout_of kind = pick (eqb kind 0) Ours Makers

abbrev pub piece_parts : Piece → Parts
piece_parts Pause = parts 0 0 0 0 0 false false
piece_parts StartBit = parts 1 0 0 0 0 false false
piece_parts (WordPiece word) = parts 2 word 0 0 0 false false
piece_parts EndPiece = parts 3 0 0 0 0 false false

unfoldable pub piece_of : ℕ → ℕ → Piece
piece_of kind word = pick (eqb kind 0) Pause (pick (eqb kind 1) StartBit (pick (eqb kind 2) (WordPiece word) EndPiece))

abbrev pub ear_parts : Ear → Parts
ear_parts Quiet = parts 0 0 0 0 0 false false
ear_parts (Group number value bits ones) = parts 1 number value bits ones false false
ear_parts (Lost ones) = parts 2 0 0 0 ones false false

unfoldable pub ear_of : ℕ → ℕ → ℕ → ℕ → ℕ → Ear
ear_of kind number value bits ones = pick (eqb kind 0) Quiet (pick (eqb kind 1) (Group number value bits ones) (Lost ones))

abbrev pub command_parts : Command → Parts
command_parts Filler = parts 0 0 0 0 0 false false
command_parts Malformed = parts 1 0 0 0 0 false false
command_parts (Forward crc words ends reads) = parts 2 words ends 0 0 crc reads
command_parts (DataRead crc words) = parts 3 words 0 0 0 crc false
command_parts (RegisterWrite crc address count) = parts 4 address count 0 0 crc false
command_parts (RegisterRead crc address count) = parts 5 address count 0 0 crc false
command_parts SoftReset = parts 6 0 0 0 0 false false

unfoldable pub command_of : Parts → Command
command_of p =
    pick (eqb p.kind 0) Filler
    (pick (eqb p.kind 1) Malformed
    (pick (eqb p.kind 2) (Forward p.x p.a p.b p.y)
    (pick (eqb p.kind 3) (DataRead p.x p.a)
    (pick (eqb p.kind 4) (RegisterWrite p.x p.a p.b)
    (pick (eqb p.kind 5) (RegisterRead p.x p.a p.b)
    SoftReset)))))

abbrev pub reply_parts : Reply → Parts
reply_parts (Status value) = parts 0 value 0 0 0 false false
reply_parts (Data left) = parts 1 left 0 0 0 false false
reply_parts (Registers address left) = parts 2 address left 0 0 false false
reply_parts Check = parts 3 0 0 0 0 false false

unfoldable pub reply_of : Parts → Reply
reply_of p =
    pick (eqb p.kind 0) (Status p.a) (pick (eqb p.kind 1) (Data p.a) (pick (eqb p.kind 2) (Registers p.a p.b) Check))

-- the phase itself
unfoldable pub phase_parts : Phase → Parts
phase_parts Idle = parts 0 0 0 0 0 false false
phase_parts (Collecting command got crc mine released blocked) = parts 1 got crc mine 0 released blocked
phase_parts (Answering reply crc) = parts 2 0 crc 0 0 false false
phase_parts Discarding = parts 3 0 0 0 0 false false

-- the command or the reply that it holds
unfoldable pub open_parts : Phase → Parts
open_parts Idle = parts 0 0 0 0 0 false false
open_parts (Collecting command got crc mine released blocked) = command_parts command
open_parts (Answering reply crc) = reply_parts reply
open_parts Discarding = parts 0 0 0 0 0 false false

unfoldable pub phase_of : Parts → Parts → Phase
phase_of p held =
    pick (eqb p.kind 0) Idle
    (pick (eqb p.kind 1) (Collecting (command_of held) p.a p.b p.c p.x p.y)
    (pick (eqb p.kind 2) (Answering (reply_of held) p.b)
    Discarding))
