-- A line with one check bit changed, and what the reader answers on it (02 item 4, "Which word went bad").
-- Whoever believes this page need not believe how the reader counts: proofs/WhichWord.antt shows that its number is that word's.
use Rattle.std.specs.Prelude.{◌≡◌, Bool, true, false, not, ◌&&◌, ◌||◌, List, [], ◌∷◌, ◌++◌, ℕ, eqb, take}
use Rattle.base.specs.Bits.{word_length, all_ones, bit, high_first}
use Rattle.line.specs.Format.{check_bit, end_bits, words_bits, Segment, encode, commands_of}
use Rattle.line.specs.Reader.{hear, read_line}
use Rattle.line.specs.declared.Ear.{Ear}
use Rattle.line.specs.declared.Ear.TheVariants.{Quiet}
use Rattle.line.specs.declared.Found.{Found}
use Rattle.line.specs.declared.Found.TheVariants.{Nothing, Start, Word, End, CheckError, Over}

-- a word with its check bit changed
unfoldable pub wrong_bits : ℕ → List Bool
wrong_bits w = high_first word_length w ++ (not (check_bit w) ∷ [])

-- The line of s, of one command, and of t, where that command's word w has its check bit changed; `before` and `after` are its other words.
unfoldable pub damaged : List Segment → List ℕ → ℕ → List ℕ → List Segment → List Bool
damaged s before w after t = encode s ++ (false ∷ (words_bits before ++ (wrong_bits w ++ (words_bits after ++ (end_bits ++ encode t)))))

-- two lines that differ in one bit
pub record OneBit (line other : List Bool) : Type 0 where
  pub front : List Bool
  pub here : Bool
  pub back : List Bool
  pub was : line ≡ front ++ (here ∷ back)
  pub is : other ≡ front ++ (not here ∷ back)

-- what the bits of a line complete, one after the other
unfoldable pub founds : Ear → List Bool → List Found
founds e [] = []
founds e (b ∷ bs) = (hear e b).found ∷ founds (hear e b).ear bs

-- the numbers among them: one with each check error
unfoldable pub numbers_in : List Found → List ℕ
numbers_in [] = []
numbers_in (Nothing ∷ fs) = numbers_in fs
numbers_in (Start ∷ fs) = numbers_in fs
numbers_in (Word w ∷ fs) = numbers_in fs
numbers_in (End ∷ fs) = numbers_in fs
numbers_in (CheckError n ∷ fs) = n ∷ numbers_in fs
numbers_in (Over ∷ fs) = numbers_in fs

-- those of a line from idle
unfoldable pub numbers_of : List Bool → List ℕ
numbers_of bs = numbers_in (founds Quiet bs)

-- the bit before a word: the check bit of the word before it, or the start bit
unfoldable pub bit_before : Bool → List ℕ → Bool
bit_before b [] = b
bit_before b (w ∷ ws) = bit_before (check_bit w) ws

-- the bit behind it: the first of the next word, or of END
unfoldable pub bit_behind : List ℕ → Bool
bit_behind [] = true
bit_behind (w ∷ ws) = bit 15 w

-- "A group of seventeen 1s is END if it makes or the next bit makes 18, else a check error": a word of sixteen 1s whose check bit is changed, beside
-- another 1, cannot be told from an END. 01 The line
unfoldable pub passes_for_end : List ℕ → ℕ → List ℕ → Bool
passes_for_end before w after = eqb w all_ones && (bit_before false before || bit_behind after)

-- then the command reads as one of the words before it, and up to there no number is answered; what follows is read as a line of its own
pub record EndedThere (s : List Segment) (before : List ℕ) (line : List Bool) : Type 0 where
  pub bits : ℕ
  pub finished : read_line (take bits line) ≡ record { finished = commands_of s ++ (before ∷ []); words = []; ear = Quiet }
  pub none : numbers_of (take bits line) ≡ []
