-- What a line is, bit by bit, and not just what it reads as: 1s and whole commands, the words gone of the command under way, the bits gone
-- of its piece (01 The line). Assumes nothing.
use Rattle.std.specs.Prelude.{◌≡◌, Bool, false, List, [], ◌∷◌, ◌++◌, ℕ, zero, suc, length, take, get_or, replicate}
use Rattle.line.specs.declared.Piece.{Piece}
use Rattle.line.specs.declared.Piece.TheVariants.{Pause, StartBit, WordPiece, EndPiece}
use Rattle.line.specs.Format.{end_length, words_bits, Segment, idle, command, encode, commands_of, Words, Sixteen, piece_bit}
use Rattle.state.specs.declared.Sender.{Sender}

-- Where a line stands between two pieces: after whole commands and 1s, or so many words into a command that follows these.
pub data Spot : Type 0 where
  away : List Segment → Spot
  inside : List Segment → List ℕ → Spot

unfoldable pub line_at : Spot → List Bool
line_at (away segments) = encode segments
line_at (inside segments words) = encode segments ++ (false ∷ words_bits words)

abbrev pub Proper : Spot → Type 0
Proper (away segments) = Sixteen segments
Proper (inside segments words) = Sixteen segments × Words words

unfoldable pub commands_at : Spot → List (List ℕ)
commands_at (away segments) = commands_of segments
commands_at (inside segments words) = commands_of segments

unfoldable pub words_at : Spot → List ℕ
words_at (away segments) = []
words_at (inside segments words) = words

-- the place after a piece
unfoldable pub onward : Piece → Spot → Spot
onward Pause s = s
onward StartBit (away segments) = inside segments []
onward StartBit (inside segments words) = inside segments words
onward EndPiece (away segments) = away (segments ++ replicate end_length idle)
onward EndPiece (inside segments words) = away (segments ++ (command words ∷ []))
onward (WordPiece w) (away segments) = away segments
onward (WordPiece w) (inside segments words) = inside segments (words ++ (w ∷ []))

-- the first n bits of a piece
unfoldable pub first_bits : Piece → ℕ → List Bool
first_bits u zero = []
first_bits u (suc n) = first_bits u n ++ (piece_bit u n ∷ [])

-- the commands at a place are the first so many of A, in order, every word unchanged, and the words the first of the next
pub record Follows (s : Spot) (A : List (List ℕ)) : Type 0 where
  pub first : commands_at s ≡ take (length (commands_at s)) A
  pub next : words_at s ≡ take (length (words_at s)) (get_or A (length (commands_at s)) [])

-- A line with the sender in a piece, and the commands A.
pub record Exactly (bits : List Bool) (t : Sender) (A : List (List ℕ)) : Type 0 where
  pub spot : Spot
  pub proper : Proper spot
  pub bits_are : bits ≡ line_at spot ++ first_bits t.piece t.gone
  pub gone : Follows spot A
  pub going : Follows (onward t.piece spot) A

-- A line with nothing under way: 1s and whole commands, and these are A.
pub record Whole (bits : List Bool) (A : List (List ℕ)) : Type 0 where
  pub segments : List Segment
  pub sixteen : Sixteen segments
  pub bits_are : bits ≡ encode segments
  pub commands_are : commands_of segments ≡ A
