-- How the reader reads a whole piece, and a part of one. Assumes nothing.
use mathlib.Core.Path.{◌≡◌, refl}
use mathlib.Core.Bool.{Bool, true, false}
use mathlib.Core.List.{List, [], ◌∷◌, ◌++◌}
use mathlib.Core.Logic.{◌⊎◌, inl, inr}
use Prim.Native.Nat.{ℕ, zero, suc, ◌≤◌, ◌<◌, min}
use native.Mathlib.Omega.{arith}
use native.Mathlib.Decide.{dec_le, ℕ_discrete}
use lib.ListN.{length, length-append}
use Rattle.base.specs.Pick.{pick}
use Rattle.base.specs.Bits.{val, val_le}
use Rattle.line.specs.declared.Piece.{Piece}
use Rattle.line.specs.declared.Piece.TheVariants.{Pause, StartBit, WordPiece, EndPiece}
use Rattle.line.specs.declared.Ear.{Ear}
use Rattle.line.specs.declared.Ear.TheVariants.{Quiet, Group}
use Rattle.line.specs.Format.{check_bit, piece_length, piece_bit}
use Rattle.line.specs.Reader.{run_on, shift_in, last_number, next_number, at_check, in_group, hear, Reading, collect, read_bit}
use Rattle.line.proofs.Hears.{run_le, hear_in, InWord, WordOn, word_none, word_on, word_end_lem}

-- The number of the word that follows these in their command.
unfoldable pub number_of : List ℕ → ℕ
number_of words = min (length words) last_number

-- one word more
pub number_on : (words : List ℕ) (w : ℕ) → next_number (number_of words) ≡ number_of (words ++ (w ∷ []))
unfolding number_of next_number
number_on words w = rw length-append (omega arith)

-- Where the reader stands between two pieces: outside a command, or in one after a 0 or a 1.
pub data Pos : Type 0 where
  out : List (List ℕ) → Pos
  within : List (List ℕ) → List ℕ → Bool → Pos

unfoldable pub at : Pos → Reading
at (out finished) = record { finished = finished; words = []; ear = Quiet }
at (within finished words b) = record { finished = finished; words = words; ear = Group (number_of words) 0 0 (val b) }

-- The reading of the first n bits of f.
unfoldable pub up_to : Reading → (ℕ → Bool) → ℕ → Reading
up_to r f zero = r
up_to r f (suc n) = read_bit (up_to r f n) (f n)

-- The place after a piece.
unfoldable pub after : Piece → Pos → Pos
after Pause p = p
after StartBit (out finished) = within finished [] false
after StartBit (within finished words b) = within finished words b
after (WordPiece w) (out finished) = out finished
after (WordPiece w) (within finished words b) = within finished (words ++ (w ∷ [])) (check_bit w)
after EndPiece (out finished) = out finished
after EndPiece (within finished words b) = out (finished ++ (words ∷ []))

-- The pieces that may follow a place.
abbrev pub Fits : Piece → Pos → Type 0
Fits Pause p = Unit {0}
Fits StartBit (out finished) = Unit {0}
Fits StartBit (within finished words b) = ⊥
Fits (WordPiece w) (out finished) = ⊥
Fits (WordPiece w) (within finished words b) = w < 65536
Fits EndPiece p = Unit {0}

module _ (finished : List (List ℕ)) (words : List ℕ) where
  -- A bit that does not complete its group.
  in_group_lem : (i v c n : ℕ) (b : Bool) → c < 16 → n ≤ suc c
      → read_bit (record { finished = finished; words = words; ear = Group i v c n }) b
      ≡ record { finished = finished; words = words; ear = Group i (shift_in v b) (suc c) (run_on n b) }
  unfolding read_bit collect
  in_group_lem i v c n b h k = rw (hear_in i v c n b h k)

  end_within : (b : Bool) → up_to (at (within finished words b)) (piece_bit EndPiece) 18 ≡ at (out (finished ++ (words ∷ [])))
  unfolding up_to at piece_bit read_bit hear in_group at_check run_on shift_in collect val pick
  end_within true = refl
  end_within false = refl

-- The reader in a word of which j bits came.
record Reads (r : Reading) (finished : List (List ℕ)) (words : List ℕ) (w j : ℕ) : Type 0 where
  ear : Ear
  is : r ≡ record { finished = finished; words = words; ear = ear }
  in_word : InWord (number_of words) w j ear

module _ (finished : List (List ℕ)) (words : List ℕ) (w : ℕ) (fits : w < 65536) (b : Bool) where
  word_bits_lem : (j : ℕ) → j ≤ 16 → Reads (up_to (at (within finished words b)) (piece_bit (WordPiece w)) j) finished words w j
  unfolding up_to at read_bit collect
  word_bits_lem zero k = record { ear = Group (number_of words) 0 0 (val b); is = refl; in_word = word_none (number_of words) w b fits }
  word_bits_lem (suc j) k = go (word_bits_lem j (omega arith))
    where
      go : Reads (up_to (at (within finished words b)) (piece_bit (WordPiece w)) j) finished words w j
          → Reads (read_bit (up_to (at (within finished words b)) (piece_bit (WordPiece w)) j) (piece_bit (WordPiece w) j)) finished words w (suc j)
      go i =
          let o : WordOn (number_of words) w j (hear i.ear (piece_bit (WordPiece w) j)) = word_on (number_of words) w j i.ear fits k i.in_word in
          record { ear = o.ear; is = rw (i.is, o.is) refl; in_word = o.in_word }

  word_within : up_to (at (within finished words b)) (piece_bit (WordPiece w)) 17 ≡ at (within finished (words ++ (w ∷ [])) (check_bit w))
  unfolding up_to at read_bit collect
  word_within =
      let i : Reads (up_to (at (within finished words b)) (piece_bit (WordPiece w)) 16) finished words w 16 = word_bits_lem 16 (omega arith) in
      rw (i.is, word_end_lem (number_of words) w i.ear i.in_word, number_on words w) refl

end_out : (finished : List (List ℕ)) (n : ℕ) → up_to (at (out finished)) (piece_bit EndPiece) n ≡ at (out finished)
unfolding up_to at piece_bit read_bit hear collect pick
end_out finished zero = refl
end_out finished (suc n) = rw (end_out finished n)

-- A whole piece leads from its place to the next.
pub whole : (u : Piece) (p : Pos) → Fits u p → up_to (at p) (piece_bit u) (piece_length u) ≡ at (after u p)
unfolding after val
whole Pause p f = unfold up_to in refl
whole StartBit (out finished) f = unfold up_to piece_bit read_bit hear collect at number_of pick in refl
whole StartBit (within finished words b) f = absurd f
whole EndPiece (out finished) f = end_out finished 18
whole EndPiece (within finished words b) f = end_within finished words b
whole (WordPiece w) (out finished) f = absurd f
whole (WordPiece w) (within finished words b) f = word_within finished words w f b

-- What a reading shows: the commands finished, and the words of the one under way.
unfoldable pub finished_at : Pos → List (List ℕ)
finished_at (out finished) = finished
finished_at (within finished words b) = finished

unfoldable pub words_at : Pos → List ℕ
words_at (out finished) = []
words_at (within finished words b) = words

pub record Shows (r : Reading) (p : Pos) : Type 0 where
  pub same_finished : r.finished ≡ finished_at p
  pub same_words : r.words ≡ words_at p

pub shows_at : (p : Pos) → Shows (at p) p
unfolding at finished_at words_at
shows_at (out finished) = record { same_finished = refl; same_words = refl }
shows_at (within finished words b) = record { same_finished = refl; same_words = refl }

shows_equal : (r : Reading) (p : Pos) → r ≡ at p → Shows r p
shows_equal r p e = rw e (shows_at p)

-- The reader in a group of n bits of any value.
record Early (r : Reading) (finished : List (List ℕ)) (words : List ℕ) (c : ℕ) : Type 0 where
  value : ℕ
  run : ℕ
  is : r ≡ record { finished = finished; words = words; ear = Group (number_of words) value c run }
  few : run ≤ suc c

module _ (finished : List (List ℕ)) (words : List ℕ) (b : Bool) where
  early : (f : ℕ → Bool) (n : ℕ) → n ≤ 16 → Early (up_to (at (within finished words b)) f n) finished words n
  unfolding up_to at
  early f zero h = record { value = 0; run = val b; is = refl; few = val_le b }
  early f (suc n) h = go (early f n (omega arith))
    where
      go : Early (up_to (at (within finished words b)) f n) finished words n → Early (read_bit (up_to (at (within finished words b)) f n) (f n)) finished words (suc n)
      go i =
          record {
            value = shift_in i.value (f n);
            run = run_on i.run (f n);
            is = rw (i.is, in_group_lem finished words (number_of words) i.value n i.run (f n) h i.few);
            few = omega (arith, run_le i.run (f n), i.few);
          }

  shows_early : (f : ℕ → Bool) (n : ℕ) → n ≤ 16 → Shows (up_to (at (within finished words b)) f n) (within finished words b)
  unfolding finished_at words_at
  shows_early f n h = let i = early f n h in rw i.is (record { same_finished = refl; same_words = refl })

-- The seventeenth 1 of an END ends the command where a 1 came before, and not where a 0 did.
end_17 : (finished : List (List ℕ)) (words : List ℕ) (b : Bool)
    → Shows (up_to (at (within finished words b)) (piece_bit EndPiece) 17) (within finished words b)
    ⊎ Shows (up_to (at (within finished words b)) (piece_bit EndPiece) 17) (out (finished ++ (words ∷ [])))
unfolding up_to at piece_bit read_bit hear in_group at_check run_on shift_in collect val pick finished_at words_at
end_17 finished words true = inr (record { same_finished = refl; same_words = refl })
end_17 finished words false = inl (record { same_finished = refl; same_words = refl })

short : (u : Piece) (p : Pos) → Fits u p → (n : ℕ) → n < piece_length u
    → Shows (up_to (at p) (piece_bit u) n) p ⊎ Shows (up_to (at p) (piece_bit u) n) (after u p)
unfolding after
short Pause p f n l = absurd (omega arith)
short StartBit (out finished) f n l = let e : n ≡ 0 = omega arith in inl (shows_equal _ _ (rw e (unfold up_to in refl)))
short StartBit (within finished words b) f n l = absurd f
short EndPiece (out finished) f n l = inl (shows_equal _ _ (end_out finished n))
short EndPiece (within finished words b) f n l =
    elim (dec_le n 16) [
      | yes k ↦ inl (shows_early finished words b (piece_bit EndPiece) n k)
      | no k ↦ (let e : n ≡ 17 = omega arith in rw e (end_17 finished words b))
    ]
short (WordPiece w) (out finished) f n l = absurd f
short (WordPiece w) (within finished words b) f n l = inl (shows_early finished words b (piece_bit (WordPiece w)) n (omega arith))

-- A part of a piece shows what the place before it shows, or what the place after it shows.
pub part : (u : Piece) (p : Pos) → Fits u p → (n : ℕ) → n ≤ piece_length u
    → Shows (up_to (at p) (piece_bit u) n) p ⊎ Shows (up_to (at p) (piece_bit u) n) (after u p)
part u p f n h =
    elim (ℕ_discrete n (piece_length u)) [ yes e ↦ inr (shows_equal _ _ (rw e (whole u p f))) | no e ↦ short u p f n (omega arith) ]
