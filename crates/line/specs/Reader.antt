-- The one reader of CCSI bits (01 The line, "The reader"; 001 7.3.2.2). It knows nothing of a sender.
-- It serves the SIN side of the bridge, demand 3's reading of SOUT, and recordings.
use Rattle.std.specs.Prelude.{◌≡◌, Bool, true, false, List, [], ◌∷◌, ◌++◌, ℕ, ◌+◌, ◌*◌, ◌%◌, min, ltb, eqb, length, take, get_or}
use Rattle.base.specs.Pick.{pick}
use Rattle.base.specs.Bits.{word_length, top_bit, all_ones, val}
use Rattle.line.specs.Format.{end_length}
use Rattle.line.specs.declared.Ear.{Ear}
use Rattle.line.specs.declared.Ear.TheVariants.{Quiet, Group, Lost}
use Rattle.line.specs.declared.Found.{Found}
use Rattle.line.specs.declared.Found.TheVariants.{Nothing, Start, Word, End, CheckError, Over}
use Rattle.line.specs.declared.Heard.{Heard}

-- what the reader is in after a bit, and what the bit completed
abbrev pub heard : Ear → Found → Heard
heard e f = record { ear = e; found = f }

-- the 1s in a row, with this bit; past an END's eighteen nothing is told apart
unfoldable pub run_on : ℕ → Bool → ℕ
run_on ones true = pick (ltb ones end_length) (ones + 1) end_length
run_on ones false = 0

-- the bits of a group so far, with one more at the low end; sixteen are kept
unfoldable pub shift_in : ℕ → Bool → ℕ
shift_in value b = value % top_bit * 2 + val b

-- "the number of the word in its command, counting from 0 and stopping at 65,535". 02 item 4
abbrev pub last_number : ℕ
last_number = 65535

-- the number of the word behind word n
unfoldable pub next_number : ℕ → ℕ
next_number n = min (n + 1) last_number

-- The bit after a group's sixteen: with one that is NOT their last they are a word; "a group of seventeen 1s is END if it makes or the next
-- bit makes 18, else a check error", so those seventeen are kept for one bit more. Group or seventeen 1s, the bad word is word n (02 item 4).
unfoldable pub at_check : ℕ → ℕ → ℕ → ℕ → Bool → Heard
at_check n value bits ones b =
    pick (ltb word_length bits) (heard (Lost ones) (CheckError n))
    (pick (eqb (val b + value % 2) 1) (heard (Group (next_number n) 0 0 ones) (Word value))
    (pick (eqb value all_ones) (heard (Group n value (word_length + 1) ones) Nothing) (heard (Lost ones) (CheckError n))))

-- A bit in a group of `bits` bits, word n of its command; `ones` counts the 1s in a row with this bit. "END is 18 consecutive 1s."
unfoldable pub in_group : ℕ → ℕ → ℕ → ℕ → Bool → Heard
in_group n value bits ones b =
    pick (eqb ones end_length) (heard Quiet End)
    (pick (ltb bits word_length) (heard (Group n (shift_in value b) (bits + 1) ones) Nothing) (at_check n value bits ones b))

-- "After a check error: .. discard until END"
unfoldable pub in_lost : ℕ → Heard
in_lost ones = pick (eqb ones end_length) (heard Quiet Over) (heard (Lost ones) Nothing)

-- "The reader (SIN) starts at a 0." The word that follows is word 0.
unfoldable pub hear : Ear → Bool → Heard
hear Quiet b = pick b (heard Quiet Nothing) (heard (Group 0 0 0 0) Start)
hear (Group n value bits ones) b = in_group n value bits (run_on ones b) b
hear (Lost ones) b = in_lost (run_on ones b)

-- What a line has shown so far: the commands finished, the words of the one under way, and what the reader is in.
pub record Reading : Type 0 where
  pub finished : List (List ℕ)
  pub words : List ℕ
  pub ear : Ear

unfoldable pub collect : List (List ℕ) → List ℕ → Ear → Found → Reading
collect finished words ear Nothing = record { finished = finished; words = words; ear = ear }
collect finished words ear Start = record { finished = finished; words = []; ear = ear }
collect finished words ear (Word w) = record { finished = finished; words = words ++ (w ∷ []); ear = ear }
collect finished words ear End = record { finished = finished ++ (words ∷ []); words = []; ear = ear }
collect finished words ear (CheckError n) = record { finished = finished; words = []; ear = ear }
collect finished words ear Over = record { finished = finished; words = []; ear = ear }

unfoldable pub read_bit : Reading → Bool → Reading
read_bit r b = collect r.finished r.words (hear r.ear b).ear (hear r.ear b).found

unfoldable pub read_bits : Reading → List Bool → Reading
read_bits r [] = r
read_bits r (b ∷ bs) = read_bits (read_bit r b) bs

-- a line from idle
unfoldable pub read_line : List Bool → Reading
read_line bs = read_bits (record { finished = []; words = []; ear = Quiet }) bs

-- What demand 3 says of a line and the commands A: those finished are the first so many of A, in order, every word unchanged; the one
-- under way shows the first words of the next.
pub record Sent (r : Reading) (A : List (List ℕ)) : Type 0 where
  pub first : r.finished ≡ take (length r.finished) A
  pub next : r.words ≡ take (length r.words) (get_or A (length r.finished) [])
