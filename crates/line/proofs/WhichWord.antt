-- Which word went bad (02 item 4): a line whose check bits are right answers no number; with one of them changed, the first number is that
-- word's, but for the one word that then passes for an END. Assumes nothing.
use mathlib.Core.Path.{◌≡◌, refl, ap, sym, ◌∙◌}
use mathlib.Core.Bool.{Bool, true, false, not, ◌&&◌, ◌||◌}
use mathlib.Core.List.{List, [], ◌∷◌, ◌++◌, append_assoc, append-nil}
use mathlib.Core.Logic.{◌≢◌}
use Prim.Native.Nat.{ℕ, zero, suc, ◌≤◌, ◌<◌, min}
use native.Mathlib.Omega.{arith}
use lib.Dec.{eqb}
use lib.ListN.{length, take, drop, replicate}
use lib.Seq.{take-append_seam}
use borrow.Author.Tests.{eqb-true, eqb-false}
use Rattle.base.specs.Pick.{pick, and_l, and_r}
use Rattle.base.specs.Truth.{or_l, or_r}
use Rattle.base.specs.Bits.{word_end, val, odd, bit, high_first}
use Rattle.line.specs.declared.Piece.TheVariants.{WordPiece}
use Rattle.line.specs.declared.Ear.{Ear}
use Rattle.line.specs.declared.Ear.TheVariants.{Quiet, Group}
use Rattle.line.specs.declared.Found.{Found}
use Rattle.line.specs.declared.Found.TheVariants.{Nothing, Word}
use Rattle.line.specs.Format.{check_bit, word_bits, end_bits, words_bits, Segment, idle, command, encode, commands_of, Words, Sixteen, word_bit, piece_bit}
use Rattle.line.specs.Reader.{heard, run_on, shift_in, last_number, next_number, at_check, in_group, hear, collect, read_bit, read_bits, read_line}
use Rattle.line.specs.Damage.{wrong_bits, damaged, OneBit, founds, numbers_in, numbers_of, bit_before, bit_behind, passes_for_end, EndedThere}
use Rattle.line.proofs.Hears.{InWord, WordOn, word_none, word_on, word_end_lem, word_wrong}
use Rattle.line.proofs.Pieces.{number_of, number_on, within, at}
use Rattle.line.proofs.Trip.{tabulate, read_cons, read_append, read_start, read_words, read_segments}

-- These bits lead from the one ear to the other and answer no number: the numbers are those of the bits that follow.
record Past (e : Ear) (a : List Bool) (f : Ear) : Type 0 where
  on : (t : List Bool) → numbers_in (founds e (a ++ t)) ≡ numbers_in (founds f t)

-- Bits, and bits behind them.
past_both : {e f g : Ear} {a b : List Bool} → Past e a f → Past f b g → Past e (a ++ b) g
past_both {b = b} p q = record { on = λ t. rw append_assoc (p.on (b ++ t) ∙ q.on t) }

-- One bit that completes no check error.
past_bit : (e f : Ear) (b : Bool) (x : Found) → hear e b ≡ heard f x → ((fs : List Found) → numbers_in (x ∷ fs) ≡ numbers_in fs) → Past e (b ∷ []) f
unfolding founds
past_bit e f b x h n = record { on = λ t. rw h (n (founds f t)) }

-- The first number that these bits answer.
abbrev Answers : Ear → List Bool → ℕ → Type 0
Answers e a i = take 1 (numbers_in (founds e a)) ≡ i ∷ []

-- The first j bits of word i, which comes after the bit v.
record First (i w : ℕ) (v : Bool) (j : ℕ) : Type 0 where
  ear : Ear
  in_word : InWord i w j ear
  past : Past (Group i 0 0 (val v)) (tabulate (piece_bit (WordPiece w)) j) ear

module _ (i w : ℕ) (v : Bool) (fits : w < 65536) where
  past_bits : (j : ℕ) → j ≤ 16 → First i w v j
  unfolding tabulate
  past_bits zero h = record { ear = Group i 0 0 (val v); in_word = word_none i w v fits; past = record { on = λ t. refl } }
  past_bits (suc j) h = go (past_bits j (omega arith))
    where
      go : First i w v j → First i w v (suc j)
      go p =
          let o : WordOn i w j (hear p.ear (piece_bit (WordPiece w) j)) = word_on i w j p.ear fits h p.in_word in
          let n : (fs : List Found) → numbers_in (Nothing ∷ fs) ≡ numbers_in fs = λ fs. unfold numbers_in in refl in
          record { ear = o.ear; in_word = o.in_word; past = past_both p.past (past_bit p.ear o.ear (piece_bit (WordPiece w) j) Nothing o.is n) }

  -- A word with its check bit.
  past_word : Past (Group i 0 0 (val v)) (word_bits w) (Group (next_number i) 0 0 (val (check_bit w)))
  unfolding word_bits tabulate piece_bit word_bit high_first pick
  past_word =
      let p = past_bits 16 (omega arith) in
      past_both p.past (past_bit p.ear _ (check_bit w) (Word w) (word_end_lem i w p.ear p.in_word) (λ fs. unfold numbers_in in refl))

  -- A word that is not all 1s, with its check bit changed.
  wrong_word : (t : List Bool) → w ≢ 65535 → Answers (Group i 0 0 (val v)) (wrong_bits w ++ t) i
  unfolding wrong_bits tabulate piece_bit word_bit high_first pick founds numbers_in
  wrong_word t n =
      let p = past_bits 16 (omega arith) in
      ap (take 1) (p.past.on (not (check_bit w) ∷ t)) ∙ rw (word_wrong i w p.ear p.in_word n)

-- The 1s that end a command behind the bit v.
abbrev ones : Bool → List Bool
ones true = replicate 17 true
ones false = end_bits

past_ones : (i : ℕ) (v : Bool) → Past (Group i 0 0 (val v)) (ones v) Quiet
unfolding founds numbers_in end_bits hear in_group at_check run_on shift_in val pick
past_ones i true = record { on = λ t. refl }
past_ones i false = record { on = λ t. refl }

-- END: those, and after a 1 one more.
past_end : (i : ℕ) (v : Bool) → Past (Group i 0 0 (val v)) end_bits Quiet
unfolding founds numbers_in end_bits hear pick
past_end i true = record { on = λ t. (past_ones i true).on (true ∷ t) }
past_end i false = past_ones i false

-- The words of a command, behind others.
past_words : (words : List ℕ) (b : Bool) (ws : List ℕ) → Words ws
    → Past (Group (number_of words) 0 0 (val b)) (words_bits ws) (Group (number_of (words ++ ws)) 0 0 (val (bit_before b ws)))
unfolding words_bits bit_before
past_words words b [] k = rw append-nil (record { on = λ t. refl })
past_words words b (w ∷ ws) k =
    past_both (past_word (number_of words) w b k.0)
    (rw (number_on words w, ← (append_assoc words (w ∷ []) ws)) (past_words (words ++ (w ∷ [])) (check_bit w) ws k.1))

-- A start bit and the words of a command.
past_begun : (ws : List ℕ) → Words ws → Past Quiet (false ∷ words_bits ws) (Group (number_of ws) 0 0 (val (bit_before false ws)))
unfolding founds numbers_in hear number_of val pick
past_begun ws k = record { on = (past_words [] false ws k).on }

-- A line.
past_segments : (s : List Segment) → Sixteen s → Past Quiet (encode s) Quiet
unfolding encode founds numbers_in hear pick
past_segments [] k = record { on = λ t. refl }
past_segments (idle ∷ s) k = record { on = (past_segments s k).on }
past_segments (command ws ∷ s) k = past_both (past_begun ws k.0) (past_both (past_end (number_of ws) (bit_before false ws)) (past_segments s k.1))

-- Bits that lead back to where they began.
past_none : (a : List Bool) → Past Quiet a Quiet → numbers_of a ≡ []
unfolding numbers_of numbers_in founds
past_none a p = rw append-nil at (p.on [])

-- A line whose check bits are right answers no number.
pub none_in_good : (s : List Segment) → Sixteen s → numbers_of (encode s) ≡ []
none_in_good s k = past_none (encode s) (past_segments s k)

-- Lines and words, one after the other.
encode_append : (s t : List Segment) → encode (s ++ t) ≡ encode s ++ encode t
unfolding encode
encode_append [] t = refl
encode_append (idle ∷ s) t = rw (encode_append s t)
encode_append (command ws ∷ s) t = rw (append_assoc, append_assoc, encode_append s t)

words_append : (a b : List ℕ) → words_bits (a ++ b) ≡ words_bits a ++ words_bits b
unfolding words_bits
words_append [] b = refl
words_append (w ∷ a) b = rw (append_assoc, words_append a b)

-- What stands before a word, and what behind it, whose first bit is `bit_behind`.
abbrev begun : List Segment → List ℕ → List Bool
begun s before = encode s ++ (false ∷ words_bits before)

abbrev behind : List ℕ → List Segment → List Bool
behind after t = words_bits after ++ (end_bits ++ encode t)

behind_first : (after : List ℕ) (t : List Segment) → behind after t ≡ bit_behind after ∷ drop 1 (behind after t)
unfolding words_bits word_bits high_first end_bits bit_behind
behind_first [] t = refl
behind_first (w ∷ after) t = refl

-- The damaged line is the line with one bit changed.
pub one_bit : (s : List Segment) (before : List ℕ) (w : ℕ) (after : List ℕ) (t : List Segment)
    → OneBit (encode (s ++ (command (before ++ (w ∷ after)) ∷ t))) (damaged s before w after t)
unfolding encode words_bits word_bits damaged wrong_bits
one_bit s before w after t =
    record {
      front = begun s before ++ high_first 16 w;
      here = check_bit w;
      back = behind after t;
      was = simp (encode_append, words_append, append_assoc);
      is = simp append_assoc;
    }

-- Seventeen 1s with a 0 on either side.
ones_answer : (i : ℕ) (v : Bool) (after : List ℕ) (t : List Segment) → (v || bit_behind after) ≡ false
    → Answers (Group i 0 0 (val v)) (wrong_bits 65535 ++ behind after t) i
unfolding wrong_bits check_bit high_first bit odd founds numbers_in hear in_group at_check run_on shift_in val pick
ones_answer i v after t p = rw (behind_first after t, or_r v (bit_behind after) p, or_l v (bit_behind after) p)

-- A word with its check bit changed answers its number, unless it passes for END.
wrong_answers : (i w : ℕ) (v : Bool) (after : List ℕ) (t : List Segment) → w < 65536 → (eqb w 65535 && (v || bit_behind after)) ≡ false
    → Answers (Group i 0 0 (val v)) (wrong_bits w ++ behind after t) i
wrong_answers i w v after t f p = go (eqb w 65535) refl p
  where
    go : (o : Bool) → eqb w 65535 ≡ o → (o && (v || bit_behind after)) ≡ false → Answers (Group i 0 0 (val v)) (wrong_bits w ++ behind after t) i
    go true e q = rw (eqb-true w 65535 e) (ones_answer i v after t q)
    go false e q = wrong_word i w v f (behind after t) (eqb-false w 65535 e)

-- Those 1s end the command.
read_ones : (finished : List (List ℕ)) (words : List ℕ) (v : Bool)
    → read_bits (at (within finished words v)) (ones v) ≡ record { finished = finished ++ (words ∷ []); words = []; ear = Quiet }
unfolding at end_bits read_bits read_bit collect hear in_group at_check run_on shift_in val pick
read_ones finished words true = refl
read_ones finished words false = refl

-- If it passes for END, the line goes on with them.
wrong_ones : (w : ℕ) (v : Bool) (after : List ℕ) (t : List Segment) → (eqb w 65535 && (v || bit_behind after)) ≡ true
    → wrong_bits w ++ behind after t ≡ ones v ++ drop (length (ones v)) (wrong_bits w ++ behind after t)
unfolding wrong_bits end_bits check_bit high_first bit odd
wrong_ones w true after t p = rw (eqb-true w 65535 (and_l (eqb w 65535) true p))
wrong_ones w false after t p =
    rw (eqb-true w 65535 (and_l (eqb w 65535) (bit_behind after) p), behind_first after t, and_r (eqb w 65535) (bit_behind after) p)

-- The damaged line up to the word, and from there.
damaged_at : (s : List Segment) (before : List ℕ) (w : ℕ) (after : List ℕ) (t : List Segment)
    → damaged s before w after t ≡ begun s before ++ (wrong_bits w ++ behind after t)
unfolding damaged
damaged_at s before w after t = rw append_assoc

-- Up to the word no number is answered, and the words before it are read.
module _ (s : List Segment) (before : List ℕ) (k : Sixteen s) (l : Words before) where
  past_before : Past Quiet (begun s before) (Group (number_of before) 0 0 (val (bit_before false before)))
  past_before = past_both (past_segments s k) (past_begun before l)

  read_before : read_line (begun s before) ≡ at (within (commands_of s) before (bit_before false before))
  unfolding read_line at
  read_before = rw (read_append, read_segments [] s k, read_cons, read_start (commands_of s)) (read_words (commands_of s) [] false before l)

-- The first number is the damaged word's, unless the word passes for END.
pub which_word : (s : List Segment) (before : List ℕ) (w : ℕ) (after : List ℕ) (t : List Segment) → Sixteen s → Words before → w < word_end
    → passes_for_end before w after ≡ false → take 1 (numbers_of (damaged s before w after t)) ≡ min (length before) last_number ∷ []
unfolding numbers_of number_of passes_for_end
which_word s before w after t k l f p =
    rw (damaged_at s before w after t, (past_before s before k l).on (wrong_bits w ++ behind after t))
    (wrong_answers (number_of before) w (bit_before false before) after t f p)

-- Where it does, that is real: END is read there, behind the words before it, and no number is answered up to there.
pub passes_for_end_lem : (s : List Segment) (before : List ℕ) (w : ℕ) (after : List ℕ) (t : List Segment) → Sixteen s → Words before
    → passes_for_end before w after ≡ true → EndedThere s before (damaged s before w after t)
unfolding passes_for_end read_line
passes_for_end_lem s before w after t k l p =
    let v = bit_before false before in
    let ended = begun s before ++ ones v in
    let rest = drop (length (ones v)) (wrong_bits w ++ behind after t) in
    let c : begun s before ++ (wrong_bits w ++ behind after t) ≡ begun s before ++ (ones v ++ rest)
    = ap (λ (x : List Bool). begun s before ++ x) (wrong_ones w v after t p) in
    let d : damaged s before w after t ≡ ended ++ rest = damaged_at s before w after t ∙ (c ∙ sym (append_assoc (begun s before) (ones v) rest)) in
    let e : take (length ended) (damaged s before w after t) ≡ ended = rw d (take-append_seam ended rest) in
    record {
      bits = length ended;
      finished = rw (e, read_append, read_before s before k l) (read_ones (commands_of s) before v);
      none = rw e (past_none ended (past_both (past_before s before k l) (past_ones (number_of before) v)));
    }
