-- The CCSI line as it is written (01 The line; 001 7.3.2): words with their check bit, END, commands, and any 1s between.
-- Whoever believes this page need not believe the reader: proofs/Trip.antt shows that it reads back what stands here.
use Rattle.std.specs.Prelude.{Bool, true, false, not, List, [], ◌∷◌, ◌++◌, ℕ, ◌+◌, ◌-◌, ◌<◌, ltb, replicate}
use Rattle.base.specs.Pick.{pick}
use Rattle.base.specs.Bits.{word_length, word_end, odd, bit, high_first}
use Rattle.line.specs.declared.Piece.{Piece}
use Rattle.line.specs.declared.Piece.TheVariants.{Pause, StartBit, WordPiece, EndPiece}

-- a word with its check bit. 01 The line; 001 7.3.2.1
abbrev pub group_length : ℕ
group_length = 17

-- the 1s of an END. 01 The line; 001 7.3.2.1
abbrev pub end_length : ℕ
end_length = 18

-- "a check bit that is NOT its last bit"
unfoldable pub check_bit : ℕ → Bool
check_bit w = not (odd w)

-- "each word high bit first with a check bit"
unfoldable pub word_bits : ℕ → List Bool
word_bits w = high_first word_length w ++ (check_bit w ∷ [])

unfoldable pub end_bits : List Bool
end_bits = replicate end_length true

-- the words of a command, one after the other
unfoldable pub words_bits : List ℕ → List Bool
words_bits [] = []
words_bits (w ∷ ws) = word_bits w ++ words_bits ws

-- A line is a list of these: one 1 that belongs to no command (idle, or part of an extra END), or a command by its words.
pub data Segment : Type 0 where
  idle : Segment
  command : List ℕ → Segment

-- "A command is one 0, then each word .., then END"
unfoldable pub encode : List Segment → List Bool
encode [] = []
encode (idle ∷ s) = true ∷ encode s
encode (command ws ∷ s) = false ∷ (words_bits ws ++ (end_bits ++ encode s))

unfoldable pub commands_of : List Segment → List (List ℕ)
commands_of [] = []
commands_of (idle ∷ s) = commands_of s
commands_of (command ws ∷ s) = ws ∷ commands_of s

-- words are of sixteen bits
abbrev pub Words : List ℕ → Type 0
Words [] = Unit {0}
Words (w ∷ ws) = (w < word_end) × Words ws

abbrev pub Sixteen : List Segment → Type 0
Sixteen [] = Unit {0}
Sixteen (idle ∷ s) = Sixteen s
Sixteen (command ws ∷ s) = Words ws × Sixteen s

-- The same bits as the sender gives them: piece by piece, bit by bit. A pause has none.
abbrev pub piece_length : Piece → ℕ
piece_length Pause = 0
piece_length StartBit = 1
piece_length (WordPiece w) = word_length + 1
piece_length EndPiece = end_length

unfoldable pub word_bit : ℕ → ℕ → Bool
word_bit w i = pick (ltb i word_length) (bit (15 - i) w) (check_bit w)

unfoldable pub piece_bit : Piece → ℕ → Bool
piece_bit Pause i = true
piece_bit StartBit i = false
piece_bit (WordPiece w) i = word_bit w i
piece_bit EndPiece i = true
