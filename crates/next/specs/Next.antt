-- What a tick does, chosen before it is done (01 The line), and the bit that goes out. Assumes nothing.
use Rattle.std.specs.Prelude.{Bool, true, false, not, ◌&&◌, ℕ, ltb}
use Rattle.base.specs.Pick.{pick}
use Rattle.line.specs.Format.{piece_length, piece_bit}
use Rattle.line.specs.declared.Piece.TheVariants.{WordPiece}
use Rattle.registers.specs.Registers.{is_normal, blocking}
use Rattle.registers.specs.declared.Control.{Control}
use Rattle.state.specs.Queue.{place_at}
use Rattle.state.specs.declared.Sender.{Sender}
use Rattle.state.specs.declared.Sending.{Sending}
use Rattle.next.specs.declared.Next.{Next}
use Rattle.next.specs.declared.Next.TheVariants.{GoOn, LoadWord, Starve, LoadEnd, StartWords, StartEnds, Stay}

-- "A tick that finds NORMAL, POR clear, no blocking flag": what the registers say of a start
abbrev pub may_start : Control → Bool
may_start c = is_normal c.mode && not c.flags.por && not (blocking c.flags)

-- the piece under way goes on; then this command's words, and its ENDs; then, the sender idle, "the oldest place not yet begun"
unfoldable pub choose : Sending → Bool → Next
choose s may =
    pick (ltb s.sender.gone (piece_length s.sender.piece)) GoOn
    (pick (ltb 0 s.sender.left)
    (pick (ltb 0 s.tx.count) LoadWord Starve)
    (pick (ltb 0 s.sender.ends) LoadEnd
    (pick may
    (pick (ltb s.queue.begun s.queue.used) (pick (ltb 0 (place_at s.queue s.queue.begun).words) StartWords StartEnds) Stay)
    Stay)))

-- the bit that goes out; w is the oldest word of TX
unfoldable pub bit_sent : Next → Sender → ℕ → Bool
bit_sent GoOn s w = piece_bit s.piece s.gone
bit_sent LoadWord s w = piece_bit (WordPiece w) 0
bit_sent Starve s w = true
bit_sent LoadEnd s w = true
bit_sent StartWords s w = false
bit_sent StartEnds s w = true
bit_sent Stay s w = true

abbrev pub is_starve : Next → Bool
is_starve GoOn = false
is_starve LoadWord = false
is_starve Starve = true
is_starve LoadEnd = false
is_starve StartWords = false
is_starve StartEnds = false
is_starve Stay = false

abbrev pub is_start : Next → Bool
is_start GoOn = false
is_start LoadWord = false
is_start Starve = false
is_start LoadEnd = false
is_start StartWords = true
is_start StartEnds = false
is_start Stay = false
