-- Closed lines, computed: 01's numbers of the line and the reader.
use mathlib.Core.Path.{◌≡◌, refl}
use mathlib.Core.Bool.{Bool, true, false}
use mathlib.Core.List.{List, [], ◌∷◌, ◌++◌}
use Prim.Native.Nat.{ℕ}
use lib.ListN.{length, take, replicate}
use Rattle.base.specs.Pick.{pick}
use Rattle.base.specs.Bits.{val, odd, bit, high_first}
use Rattle.line.specs.declared.Ear.TheVariants.{Quiet, Group}
use Rattle.line.specs.declared.Found.{Found}
use Rattle.line.specs.declared.Found.TheVariants.{Nothing, Start, Word, End, CheckError, Over}
use Rattle.line.specs.Format.{check_bit, word_bits, end_bits, words_bits, command, encode}
use Rattle.line.specs.Reader.{run_on, shift_in, next_number, at_check, in_group, in_lost, hear, collect, read_bit, read_bits, read_line}
use Rattle.line.specs.Damage.{wrong_bits, damaged, founds, numbers_in, numbers_of}

-- One command of one word. A definition's own `unfolding` line is opened with it.
unfoldable pub line_of : ℕ → List Bool
unfolding encode words_bits word_bits end_bits check_bit high_first bit odd
line_of w = encode (command (w ∷ []) ∷ [])

-- What the bits of a line from idle complete, and the numbers that come with check errors.
unfoldable pub founds_of : List Bool → List Found
unfolding founds hear in_group in_lost at_check shift_in next_number run_on val pick
founds_of bs = founds Quiet bs

unfoldable pub numbers_by : List Bool → List ℕ
unfolding numbers_of numbers_in founds hear in_group in_lost at_check shift_in next_number run_on val pick
numbers_by bs = numbers_of bs

-- one command of which a word has its check bit changed
unfoldable pub damaged_line : List ℕ → ℕ → List ℕ → List Bool
unfolding damaged wrong_bits encode words_bits word_bits end_bits check_bit high_first bit odd
damaged_line before w after = damaged [] before w after []

-- The commands that the first n bits of a line finish.
unfoldable pub finished_by : ℕ → List Bool → List (List ℕ)
unfolding read_line read_bits read_bit collect hear in_group in_lost at_check shift_in next_number run_on val pick
finished_by n bs = (read_line (take n bs)).finished

-- "One word 0xAAF0 takes 36 ticks; looped straight back, END is read at tick 35. With 0xAA0F, at tick 36."
pub takes_36 : length (line_of 0xAAF0) ≡ 36
unfolding line_of
takes_36 = refl

pub read_at_35 : finished_by 35 (line_of 0xAAF0) ≡ (0xAAF0 ∷ []) ∷ []
unfolding line_of finished_by
read_at_35 = refl

pub not_at_34 : finished_by 34 (line_of 0xAAF0) ≡ []
unfolding line_of finished_by
not_at_34 = refl

pub read_at_36 : finished_by 36 (line_of 0xAA0F) ≡ (0xAA0F ∷ []) ∷ []
unfolding line_of finished_by
read_at_36 = refl

pub not_at_35 : finished_by 35 (line_of 0xAA0F) ≡ []
unfolding line_of finished_by
not_at_35 = refl

-- Sixteen 1s and their check bit are a word, and no part of an END.
pub word_of_ones : founds_of (line_of 0xFFFF) ≡ Start ∷ (replicate 16 Nothing ++ (Word 0xFFFF ∷ (replicate 17 Nothing ++ (End ∷ []))))
unfolding line_of founds_of
word_of_ones = refl

pub ones_finished : finished_by 36 (line_of 0xFFFF) ≡ (0xFFFF ∷ []) ∷ []
unfolding line_of finished_by
ones_finished = refl

-- "A group of seventeen 1s is END if .. the next bit makes 18, else a check error": at the 0, and not before. Then "discard until END".
pub check_error : founds_of (false ∷ (replicate 17 true ++ (false ∷ replicate 18 true)))
    ≡ Start ∷ (replicate 17 Nothing ++ (CheckError 0 ∷ (replicate 17 Nothing ++ (Over ∷ []))))
unfolding founds_of
check_error = refl

pub error_finishes_nothing : finished_by 37 (false ∷ (replicate 17 true ++ (false ∷ replicate 18 true))) ≡ []
unfolding finished_by
error_finishes_nothing = refl

-- A 0 and eighteen 1s are a command of no words.
pub no_words : founds_of (false ∷ replicate 18 true) ≡ Start ∷ (replicate 17 Nothing ++ (End ∷ []))
unfolding founds_of
no_words = refl

pub no_words_finished : finished_by 19 (false ∷ replicate 18 true) ≡ [] ∷ []
unfolding finished_by
no_words_finished = refl

-- Which word went bad (02 item 4): the first, the third, and seventeen 1s in front of a 0.
pub first_word : numbers_by (damaged_line [] 0xAAF0 (0x0001 ∷ [])) ≡ 0 ∷ []
unfolding damaged_line numbers_by
first_word = refl

pub third_word : numbers_by (damaged_line (0xAAF0 ∷ 0xFFFF ∷ []) 0x1234 (0x5678 ∷ [])) ≡ 2 ∷ []
unfolding damaged_line numbers_by
third_word = refl

pub seventeen_ones : numbers_by (damaged_line (0x0001 ∷ []) 0xFFFF (0x1234 ∷ [])) ≡ 1 ∷ []
unfolding damaged_line numbers_by
seventeen_ones = refl

-- beside another 1 they are END
pub taken_for_end : numbers_by (damaged_line (0x0001 ∷ []) 0xFFFF []) ≡ []
unfolding damaged_line numbers_by
taken_for_end = refl

-- and what follows is read as a command of its own, whose number says nothing of word 1
pub number_of_another : numbers_by (damaged_line (0x0001 ∷ []) 0xFFFF (0xFFFD ∷ [])) ≡ 0 ∷ []
unfolding damaged_line numbers_by
number_of_another = refl

-- the number stops: two right words and a bad one, the first of them word 65,534
unfoldable pub three_words : List Bool
unfolding wrong_bits word_bits check_bit high_first bit odd
three_words = word_bits 0xAAF0 ++ (word_bits 0x1234 ++ wrong_bits 0x5678)

pub stops : numbers_in (founds (Group 65534 0 0 0) three_words) ≡ 65535 ∷ []
unfolding three_words numbers_in founds hear in_group at_check shift_in next_number run_on val pick
stops = refl
