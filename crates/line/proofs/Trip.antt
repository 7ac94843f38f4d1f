-- The round trip of the line: commands, encoded with any 1s between, read back as they are; a part of the bits reads as a part of the
-- commands. So the reader is right if Format is. Assumes nothing.
use mathlib.Core.Path.{◌≡◌, refl, ap, sym, ◌∙◌}
use mathlib.Core.Bool.{Bool, true, false}
use mathlib.Core.List.{List, [], ◌∷◌, ◌++◌, append_assoc, append-nil}
use mathlib.Core.Logic.{⊎_elim}
use Prim.Native.Nat.{ℕ, zero, suc, ◌+◌, ◌-◌, ◌≤◌}
use native.Mathlib.Decide.{dec_le}
use native.Mathlib.Omega.{arith}
use lib.ListN.{length, take, length-append}
use lib.Seq.{take-append-le, take-append-add, take-nil, take_all, take-append_seam, get_or-append_seam}
use Rattle.base.specs.Pick.{pick}
use Rattle.base.specs.Bits.{val, high_first}
use Rattle.line.specs.declared.Piece.{Piece}
use Rattle.line.specs.declared.Piece.TheVariants.{Pause, StartBit, WordPiece, EndPiece}
use Rattle.line.specs.declared.Ear.TheVariants.{Quiet}
use Rattle.line.specs.Format.{check_bit, word_bits, end_bits, words_bits, Segment, idle, command, encode, commands_of, Words, Sixteen, piece_length, word_bit, piece_bit}
use Rattle.line.specs.Reader.{hear, Reading, collect, read_bit, read_bits, read_line, Sent}
use Rattle.line.specs.Damage.{bit_before}
use Rattle.line.proofs.Pieces.{number_of, Pos, out, within, at, up_to, after, Fits, whole, part, Shows, finished_at, words_at, shows_at}

-- The first n values of f.
unfoldable pub tabulate : (ℕ → Bool) → ℕ → List Bool
tabulate f zero = []
tabulate f (suc n) = tabulate f n ++ (f n ∷ [])

-- A piece's bits as Format writes them.
abbrev pub piece_bits : Piece → List Bool
piece_bits Pause = []
piece_bits StartBit = false ∷ []
piece_bits (WordPiece w) = word_bits w
piece_bits EndPiece = end_bits

-- Bit by bit, a piece is what Format writes.
pub piece_bits_lem : (u : Piece) → tabulate (piece_bit u) (piece_length u) ≡ piece_bits u
unfolding tabulate piece_bit word_bit word_bits high_first end_bits pick
piece_bits_lem Pause = refl
piece_bits_lem StartBit = refl
piece_bits_lem (WordPiece w) = refl
piece_bits_lem EndPiece = refl

length_tabulate : (f : ℕ → Bool) (n : ℕ) → length (tabulate f n) ≡ n
unfolding tabulate
length_tabulate f zero = refl
length_tabulate f (suc n) = rw length-append (omega (arith, length_tabulate f n))

take_tabulate : (f : ℕ → Bool) (n m : ℕ) → m ≤ n → take m (tabulate f n) ≡ tabulate f m
unfolding tabulate
take_tabulate f zero m h = let e : m ≡ 0 = omega arith in rw e
take_tabulate f (suc n) m h =
    elim (dec_le m n) [
      | yes k ↦ rw (take-append-le m (tabulate f n) (f n ∷ []) (omega (arith, length_tabulate f n))) (take_tabulate f n m k)
      | no k ↦ (let e : m ≡ suc n = omega arith in rw e (take_all (suc n) (tabulate f (suc n)) (omega (arith, length_tabulate f (suc n)))))
    ]

pub length_piece : (u : Piece) → length (piece_bits u) ≡ piece_length u
length_piece u = rw (← (piece_bits_lem u)) (length_tabulate (piece_bit u) (piece_length u))

-- The clauses of `read_bits`, as equations for `rw`.
pub read_nil : (r : Reading) → read_bits r [] ≡ r
unfolding read_bits
read_nil r = refl

pub read_cons : (r : Reading) (b : Bool) (bs : List Bool) → read_bits r (b ∷ bs) ≡ read_bits (read_bit r b) bs
unfolding read_bits
read_cons r b bs = refl

pub read_append : (r : Reading) (a b : List Bool) → read_bits r (a ++ b) ≡ read_bits (read_bits r a) b
unfolding read_bits
read_append r [] b = refl
read_append r (x ∷ a) b = read_append (read_bit r x) a b

pub read_tabulate : (r : Reading) (f : ℕ → Bool) (n : ℕ) → read_bits r (tabulate f n) ≡ up_to r f n
unfolding tabulate up_to
read_tabulate r f zero = unfold read_bits in refl
read_tabulate r f (suc n) = rw (read_append, read_tabulate r f n) (unfold read_bits in refl)

-- A whole piece, and its first n bits.
pub read_piece : (u : Piece) (p : Pos) → Fits u p → read_bits (at p) (piece_bits u) ≡ at (after u p)
read_piece u p f = rw (← (piece_bits_lem u), read_tabulate (at p) (piece_bit u) (piece_length u)) (whole u p f)

take_piece : (u : Piece) (n : ℕ) (t : List Bool) (p : Pos) → n ≤ piece_length u
    → read_bits (at p) (take n (piece_bits u ++ t)) ≡ up_to (at p) (piece_bit u) n
take_piece u n t p h =
    rw (
      take-append-le n (piece_bits u) t (omega (arith, length_piece u)),
      ← (piece_bits_lem u),
      take_tabulate (piece_bit u) (piece_length u) n h,
    ) (read_tabulate (at p) (piece_bit u) n)

past_piece : (u : Piece) (n : ℕ) (t : List Bool) (p : Pos) → Fits u p → piece_length u ≤ n
    → read_bits (at p) (take n (piece_bits u ++ t)) ≡ read_bits (at (after u p)) (take (n - piece_length u) t)
past_piece u n t p f h =
    let e : n ≡ length (piece_bits u) + (n - piece_length u) = omega (arith, length_piece u) in
    let c : take n (piece_bits u ++ t) ≡ piece_bits u ++ take (n - piece_length u) t
    = ap (λ m. take m (piece_bits u ++ t)) e ∙ take-append-add (piece_bits u) t (n - piece_length u) in
    rw (c, read_append, read_piece u p f)

-- One 1 outside a command, and a start bit.
pub read_idle : (finished : List (List ℕ)) → read_bit (at (out finished)) true ≡ at (out finished)
unfolding at read_bit collect hear pick
read_idle finished = refl

pub read_start : (finished : List (List ℕ)) → read_bit (at (out finished)) false ≡ at (within finished [] false)
unfolding at read_bit collect hear number_of val pick
read_start finished = refl

pub read_words : (finished : List (List ℕ)) (words : List ℕ) (b : Bool) (ws : List ℕ) → Words ws
    → read_bits (at (within finished words b)) (words_bits ws) ≡ at (within finished (words ++ ws) (bit_before b ws))
unfolding words_bits bit_before after
read_words finished words b [] k = rw append-nil (unfold read_bits in refl)
read_words finished words b (w ∷ ws) k =
    rw (read_append, read_piece (WordPiece w) (within finished words b) k.0, ← (append_assoc words (w ∷ []) ws))
    (read_words finished (words ++ (w ∷ [])) (check_bit w) ws k.1)

read_command : (finished : List (List ℕ)) (ws : List ℕ) (t : List Bool) → Words ws
    → read_bits (at (out finished)) (false ∷ (words_bits ws ++ (end_bits ++ t))) ≡ read_bits (at (out (finished ++ (ws ∷ [])))) t
unfolding after
read_command finished ws t k =
    rw (read_cons, read_start, read_append, read_words finished [] false ws k, read_append, read_piece EndPiece (within finished ws (bit_before false ws)) tt)

pub read_segments : (finished : List (List ℕ)) (s : List Segment) → Sixteen s → read_bits (at (out finished)) (encode s) ≡ at (out (finished ++ commands_of s))
unfolding encode commands_of
read_segments finished [] k = rw (append-nil, read_nil)
read_segments finished (idle ∷ s) k = rw (read_cons, read_idle) (read_segments finished s k)
read_segments finished (command ws ∷ s) k =
    rw (read_command finished ws (encode s) k.0, ← (append_assoc finished (ws ∷ []) (commands_of s))) (read_segments (finished ++ (ws ∷ [])) s k.1)

-- Any commands, with any 1s before, between and after, read back as they are, and the reader is outside a command.
pub round_trip : (s : List Segment) → Sixteen s → read_line (encode s) ≡ record { finished = commands_of s; words = []; ear = Quiet }
unfolding read_line at
round_trip s k = read_segments [] s k

-- What shows a place shows the first of the commands that go on from there.
pub sent_out : (r : Reading) (finished : List (List ℕ)) {A : List (List ℕ)} (rest : List (List ℕ)) → A ≡ finished ++ rest → Shows r (out finished) → Sent r A
unfolding finished_at words_at
sent_out r finished rest a s = record { first = rw (a, s.same_finished) (sym (take-append_seam finished rest)); next = rw s.same_words }

pub sent_within : (r : Reading) (finished : List (List ℕ)) (words : List ℕ) (b : Bool) {A : List (List ℕ)} (more : List ℕ) (rest : List (List ℕ))
    → A ≡ finished ++ ((words ++ more) ∷ rest) → Shows r (within finished words b) → Sent r A
unfolding finished_at words_at
sent_within r finished words b more rest a s =
    record {
      first = rw (a, s.same_finished) (sym (take-append_seam finished ((words ++ more) ∷ rest)));
      next = rw (a, s.same_words, s.same_finished, get_or-append_seam finished (words ++ more) rest []) (sym (take-append_seam words more));
    }

-- A part of the words of a command and of what follows. `next` is the same for what follows.
sent_words : (A finished rest : List (List ℕ)) (words : List ℕ) (b : Bool) (ws : List ℕ) (t : List Bool) → Words ws
    → A ≡ finished ++ ((words ++ ws) ∷ rest)
    → ((n : ℕ) → Sent (read_bits (at (out (finished ++ ((words ++ ws) ∷ [])))) (take n t)) A)
    → (n : ℕ) → Sent (read_bits (at (within finished words b)) (take n (words_bits ws ++ (end_bits ++ t)))) A
unfolding words_bits after
sent_words A finished rest words b [] t k a next n =
    elim (dec_le n 18) [
      | yes h ↦
          rw (take_piece EndPiece n t (within finished words b) h)
          (⊎_elim (sent_within _ finished words b [] rest a)
          (sent_out _ (finished ++ (words ∷ [])) rest (rw (a, append-nil, append_assoc)))
          (part EndPiece (within finished words b) tt n h))
      | no h ↦ rw (past_piece EndPiece n t (within finished words b) tt (omega arith)) (rw append-nil at (next (n - 18)))
    ]
sent_words A finished rest words b (w ∷ ws) t k a next n =
    elim (dec_le n 17) [
      | yes h ↦
          rw (append_assoc, take_piece (WordPiece w) n (words_bits ws ++ (end_bits ++ t)) (within finished words b) h)
          (⊎_elim (sent_within _ finished words b (w ∷ ws) rest a)
          (sent_within _ finished (words ++ (w ∷ [])) (check_bit w) ws rest (rw (a, append_assoc)))
          (part (WordPiece w) (within finished words b) k.0 n h))
      | no h ↦
          rw (append_assoc, past_piece (WordPiece w) n (words_bits ws ++ (end_bits ++ t)) (within finished words b) k.0 (omega arith))
          (sent_words A finished rest (words ++ (w ∷ [])) (check_bit w) ws t k.1 (rw (a, append_assoc)) (rw (append_assoc) next) (n - 17))
    ]

sent_segments : (A finished : List (List ℕ)) (s : List Segment) → Sixteen s → A ≡ finished ++ commands_of s
    → (n : ℕ) → Sent (read_bits (at (out finished)) (take n (encode s))) A
unfolding encode commands_of
sent_segments A finished [] k a n = rw (take-nil, read_nil) (sent_out _ finished [] a (shows_at (out finished)))
sent_segments A finished (idle ∷ s) k a zero = rw read_nil (sent_out _ finished (commands_of s) a (shows_at (out finished)))
sent_segments A finished (idle ∷ s) k a (suc n) = rw (read_cons, read_idle) (sent_segments A finished s k a n)
sent_segments A finished (command ws ∷ s) k a zero = rw read_nil (sent_out _ finished (ws ∷ commands_of s) a (shows_at (out finished)))
sent_segments A finished (command ws ∷ s) k a (suc n) =
    rw (read_cons, read_start)
    (sent_words A finished (commands_of s) [] false ws (encode s) k.0 a
    (λ m. sent_segments A (finished ++ (ws ∷ [])) s k.1 (rw (a, append_assoc)) m) n)

-- The first n bits read as the first so many commands, and the first words of the next.
pub prefix_trip : (s : List Segment) → Sixteen s → (n : ℕ) → Sent (read_line (take n (encode s))) (commands_of s)
unfolding read_line at
prefix_trip s k n = sent_segments (commands_of s) [] s k refl n
