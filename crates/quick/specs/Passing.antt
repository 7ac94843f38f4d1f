-- Which ticks `quick::turn` answers by a short way. No rule: what such a tick does is what `turn` says of it; proofs/Between.antt shows that
-- the short way gives that.
use Rattle.std.specs.Prelude.{Bool, true, false, ◌&&◌, ◌+◌, ltb}
use Rattle.base.specs.Pick.{pick}
use Rattle.line.specs.Format.{piece_length}
use Rattle.line.specs.Reader.{hear}
use Rattle.line.specs.declared.Found.{Found}
use Rattle.line.specs.declared.Found.TheVariants.{Nothing, Start, Word as WordFound, End, CheckError, Over}
use Rattle.next.specs.Next.{may_start}
use Rattle.state.specs.Queue.{under_way}
use Rattle.state.specs.Sending.{idle}
use Rattle.state.specs.declared.Bridge.{Bridge}
use Rattle.state.specs.declared.Sender.{Sender}
use Rattle.state.specs.declared.Sending.{Sending}
use Rattle.events.specs.declared.Event.{Event}
use Rattle.events.specs.declared.Event.TheVariants.{Power, Word, Release, Tick, Clock}

abbrev pub is_nothing : Found → Bool
is_nothing Nothing = true
is_nothing Start = false
is_nothing (WordFound w) = false
is_nothing End = false
is_nothing (CheckError n) = false
is_nothing Over = false

-- more than one bit of the piece is left: with its last bit a place may be sent
abbrev pub in_piece : Sender → Bool
in_piece s = ltb (s.gone + 1) (piece_length s.piece)

-- nothing to send, and nothing that waits may begin
abbrev pub rests : Sending → Bool → Bool
rests s may = pick (ltb s.queue.begun s.queue.used && may) false (pick (under_way s.queue) false (idle s.sender))

unfoldable pub passes_by : Bridge → Found → Bool
passes_by b f = pick (is_nothing f) (pick (in_piece b.sending.sender) true (rests b.sending (may_start b.control))) false

abbrev pub sin_of : Event → Bool
sin_of (Power good layout) = false
sin_of (Word word) = false
sin_of Release = false
sin_of (Tick sin) = sin
sin_of (Clock reading) = false

unfoldable pub passes : Bridge → Event → Bool
passes b (Power good layout) = false
passes b (Word word) = false
passes b Release = false
passes b (Tick sin) = passes_by b (hear b.receiving.reader.ear sin).found
passes b (Clock reading) = false
