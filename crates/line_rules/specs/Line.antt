-- The record rules of the sender and of the reader (01 Notes, note 2). docs/RECORD-RULES.md says what each is for. Assumes nothing.
use Rattle.std.specs.Prelude.{Bool, true, not, ◌&&◌, ◌||◌, ◌+◌, ltb, leb, eqb}
use Rattle.base.specs.Pick.{pick}
use Rattle.line.specs.Format.{group_length, end_length}
use Rattle.line.specs.declared.Ear.{Ear}
use Rattle.line.specs.declared.Ear.TheVariants.{Quiet, Group, Lost}
use Rattle.line.specs.declared.Piece.{Piece}
use Rattle.line.specs.declared.Piece.TheVariants.{Pause, StartBit, WordPiece, EndPiece}
use Rattle.registers.specs.Registers.{rxff}
use Rattle.registers.specs.declared.Flags.{Flags}
use Rattle.state.specs.Queue.{place_at, last_begun, speaks, speaking, under_way}
use Rattle.state.specs.Sending.{idle}
use Rattle.state.specs.declared.Place.{Place}
use Rattle.state.specs.declared.Queue.{Queue}
use Rattle.state.specs.declared.Reader.{Reader}
use Rattle.state.specs.declared.Sender.{Sender}

-- The words' place is sent with the last 1 of its own END (02 item 3, docs/DECISIONS.md): an END before that is their own, or note 13's, with none to follow;
-- with no words, or with these sent, it is an extra one, or the words' own that has just gone out
unfoldable pub end_sound : Sender → Place → Bool
end_sound s p = pick (speaks p) (eqb s.ends p.ends || eqb s.ends 0) (ltb s.ends p.ends || leb end_length s.gone)

-- The sender by its piece: what is left is of the command under way (`busy`). A piece begins with its first bit gone. Nothing is left with none
-- under way, but for an END that a transmit clear owes.
unfoldable pub piece_sound : Piece → Sender → Bool → Place → Bool
piece_sound Pause s busy p = eqb s.gone 0 && eqb s.left 0 && leb s.ends 1 && not busy
piece_sound StartBit s busy p = eqb s.gone 1 && eqb s.left p.words && speaks p && eqb s.ends (p.ends + 1) && busy
piece_sound (WordPiece w) s busy p =
    ltb 0 s.gone && leb s.gone group_length && ltb s.left p.words && speaks p && eqb s.ends (p.ends + 1) && busy
piece_sound EndPiece s busy p =
    ltb 0 s.gone && leb s.gone end_length && eqb s.left 0 && leb s.ends (pick busy p.ends 0)
    && (not busy || end_sound s p)

-- Each place is sent with its own last bit (02 item 3, docs/DECISIONS.md): an idle sender has no command under way, and one with an END gone none
-- whose words are not sent
abbrev pub sender_sound : Sender → Queue → Bool
sender_sound s q =
    piece_sound s.piece s (under_way q) (last_begun q) && not (idle s && under_way q) && not (leb end_length s.gone && speaking q)

unfoldable pub ear_sound : Ear → Bool
ear_sound Quiet = true
ear_sound (Group number value bits ones) = leb bits group_length && ltb ones end_length
ear_sound (Lost ones) = ltb ones end_length

-- the oldest place has begun, has words and is not yet read: the command being read can belong to it
abbrev pub is_unread : Queue → Bool
is_unread q = ltb 0 q.begun && ltb 0 (place_at q 0).words && not (place_at q 0).read

abbrev pub heard_marks : Reader → Queue → Flags → Bool
heard_marks r q f =
    (not r.belongs || is_unread q) && (not r.storing || (r.belongs && (place_at q 0).store && not (rxff f)))

-- Marks of a command being read, and of none: it belongs to the oldest place; its words go to RX where that place's do, "unless an RX flag was
-- up at the command's start or rises in it".
unfoldable pub marks_sound : Ear → Reader → Queue → Flags → Bool
marks_sound Quiet r q f = not r.belongs && not r.storing && not r.stored
marks_sound (Group number value bits ones) r q f = heard_marks r q f
marks_sound (Lost ones) r q f = heard_marks r q f

abbrev pub reader_sound : Reader → Queue → Flags → Bool
reader_sound r q f = ear_sound r.ear && marks_sound r.ear r q f
