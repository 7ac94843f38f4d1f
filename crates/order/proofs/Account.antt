-- The accounting of words. S: the words put into TX and not taken back. K: the words of each place queued, where it has any. The line has to
-- show `assign K S`: the first so many of S for the first of K, and so on. Assumes nothing.
use mathlib.Core.Path.{◌≡◌, refl, ap, sym, ◌∙◌}
use mathlib.Core.List.{List, [], ◌∷◌, ◌++◌, append_assoc, append-nil}
use Prim.Native.Nat.{ℕ, zero, suc, ◌+◌, ◌-◌, ◌≤◌, ◌<◌}
use native.Mathlib.Nat.{zero-add}
use native.Mathlib.Omega.{arith}
use lib.ListN.{length, take, drop, length-append}
use lib.Seq.{take-append_seam, drop-append_seam, take-append-add}
use Rattle.line.specs.declared.Piece.{Piece}
use Rattle.line.specs.declared.Piece.TheVariants.{Pause, StartBit, WordPiece, EndPiece}
use Rattle.line.specs.Format.{Words}
use Rattle.line.specs.Reader.{Reading, Sent}
use Rattle.line.proofs.Pieces.{Pos, out, within, after, Fits, Shows}
use Rattle.line.proofs.Trip.{sent_out, sent_within}
use Rattle.state.specs.declared.Place.{Place}

-- A count of words, where there are any.
unfoldable pub counted : ℕ → List ℕ → List ℕ
counted zero K = K
counted (suc k) K = suc k ∷ K

unfoldable pub counts_of : List Place → List ℕ
counts_of [] = []
counts_of (p ∷ ps) = counted p.words (counts_of ps)

unfoldable pub assign : List ℕ → List ℕ → List (List ℕ)
assign [] S = []
assign (k ∷ K) S = take k S ∷ assign K (drop k S)

unfoldable pub concat : List (List ℕ) → List ℕ
concat [] = []
concat (x ∷ xs) = x ++ concat xs

unfoldable pub lengths : List (List ℕ) → List ℕ
lengths [] = []
lengths (x ∷ xs) = length x ∷ lengths xs

concat_append : (a b : List (List ℕ)) → concat (a ++ b) ≡ concat a ++ concat b
unfolding concat
concat_append [] b = refl
concat_append (x ∷ a) b = rw (concat_append a b, append_assoc)

lengths_append : (a b : List (List ℕ)) → lengths (a ++ b) ≡ lengths a ++ lengths b
unfolding lengths
lengths_append [] b = refl
lengths_append (x ∷ a) b = rw (lengths_append a b)

pub concat_snoc : (a : List (List ℕ)) (x : List ℕ) → concat (a ++ (x ∷ [])) ≡ concat a ++ x
unfolding concat
concat_snoc a x = rw (concat_append, append-nil)

pub lengths_snoc : (a : List (List ℕ)) (x : List ℕ) → lengths (a ++ (x ∷ [])) ≡ lengths a ++ (length x ∷ [])
unfolding lengths
lengths_snoc a x = rw lengths_append

pub assign_done : (D : List (List ℕ)) (K S : List ℕ) → assign (lengths D ++ K) (concat D ++ S) ≡ D ++ assign K S
unfolding concat lengths assign
assign_done [] K S = refl
assign_done (x ∷ D) K S =
    rw (append_assoc, take-append_seam x (concat D ++ S), drop-append_seam x (concat D ++ S), assign_done D K S)

counted_append : (k : ℕ) (a b : List ℕ) → counted k (a ++ b) ≡ counted k a ++ b
unfolding counted
counted_append zero a b = refl
counted_append (suc k) a b = refl

pub counts_snoc : (ps : List Place) (p : Place) → counts_of (ps ++ (p ∷ [])) ≡ counts_of ps ++ counted p.words []
unfolding counts_of
counts_snoc [] p = refl
counts_snoc (x ∷ ps) p = rw (counts_snoc ps p) (counted_append x.words (counts_of ps) (counted p.words []))

-- Words of sixteen bits.
words_at_lem : (a : List ℕ) (w : ℕ) (b : List ℕ) → Words (a ++ (w ∷ b)) → w < 65536
words_at_lem [] w b k = k.0
words_at_lem (x ∷ a) w b k = words_at_lem a w b k.1

pub words_snoc : (S : List ℕ) (w : ℕ) → Words S → w < 65536 → Words (S ++ (w ∷ []))
words_snoc [] w k h = (h, tt)
words_snoc (x ∷ S) w k h = (k.0, words_snoc S w k.1 h)

words_front : (a b : List ℕ) → Words (a ++ b) → Words a
words_front [] b k = tt
words_front (x ∷ a) b k = (k.0, words_front a b k.1)

pub words_take : (n : ℕ) (S : List ℕ) → Words S → Words (take n S)
words_take zero S k = tt
words_take (suc n) [] k = tt
words_take (suc n) (x ∷ S) k = (k.0, words_take n S k.1)

-- A place of the reader agrees with the commands A: they go on from what it shows.
unfoldable pub Agrees : List (List ℕ) → Pos → Type 0
Agrees A (out finished) = (rest : List (List ℕ)) × (A ≡ finished ++ rest)
Agrees A (within finished words b) = (more : List ℕ) × (rest : List (List ℕ)) × (A ≡ finished ++ ((words ++ more) ∷ rest))

pub agrees_sent : (A : List (List ℕ)) (r : Reading) (p : Pos) → Agrees A p → Shows r p → Sent r A
unfolding Agrees
agrees_sent A r (out finished) a s = sent_out r finished a.0 a.1 s
agrees_sent A r (within finished words b) a s = sent_within r finished words b a.0 a.1 a.2 s

-- What agrees after a piece agrees before it.
pub agrees_before : (A : List (List ℕ)) (u : Piece) (p : Pos) → Fits u p → Agrees A (after u p) → Agrees A p
unfolding after Agrees
agrees_before A Pause p f a = a
agrees_before A StartBit (out finished) f a = ((([] ++ a.0) ∷ a.1), a.2)
agrees_before A StartBit (within finished words b) f a = a
agrees_before A EndPiece (out finished) f a = a
agrees_before A EndPiece (within finished words b) f a = ([], a.0, a.1 ∙ simp (append_assoc, append-nil))
agrees_before A (WordPiece w) (out finished) f a = a
agrees_before A (WordPiece w) (within finished words b) f a = (w ∷ a.0, a.1, a.2 ∙ simp append_assoc)

-- At a place of the reader: the words and ENDs that the sender has left, the words H in TX and the counts W that wait.
unfoldable pub Account : Pos → ℕ → ℕ → List ℕ → List ℕ → List ℕ → List ℕ → Type 0
Account (out finished) left ends H W S K = (left ≡ 0) × (S ≡ concat finished ++ H) × (K ≡ lengths finished ++ W)
Account (within finished words b) left ends H W S K =
    (0 < ends) × (S ≡ concat finished ++ (words ++ H)) × (K ≡ lengths finished ++ ((length words + left) ∷ W))

pub account_agrees : (q : Pos) (left ends : ℕ) (H W S K : List ℕ) → Account q left ends H W S K → Agrees (assign K S) q
unfolding assign Account Agrees
account_agrees (out finished) left ends H W S K a = (assign W H, rw (a.1, a.2) (assign_done finished W H))
account_agrees (within finished words b) left ends H W S K a = (
  take left H,
  assign W (drop (length words + left) (words ++ H)),
  rw (a.1, a.2, assign_done finished ((length words + left) ∷ W) (words ++ H), take-append-add words H left),
)

-- The sender begins a word, an END, a command.
pub next_word : (q : Pos) (l ends w : ℕ) (H W S K : List ℕ) → Words S → Account q (suc l) ends (w ∷ H) W S K
    → Fits (WordPiece w) q × Account (after (WordPiece w) q) l ends H W S K
unfolding Account after
next_word (out finished) l ends w H W S K k a = absurd (omega (arith, a.0))
next_word (within finished words b) l ends w H W S K k a = (
  words_at_lem (concat finished ++ words) w H (rw append_assoc (rw a.1 at k)),
  (a.0, rw append_assoc a.1, rw length-append (a.2 ∙ ap (λ n. lengths finished ++ (n ∷ W)) (omega arith))),
)

pub next_end : (q : Pos) (e f : ℕ) (H W S K : List ℕ) → Account q 0 e H W S K → Fits EndPiece q × Account (after EndPiece q) 0 f H W S K
unfolding Account after
next_end (out finished) e f H W S K a = (tt, (refl, a.1, a.2))
next_end (within finished words b) e f H W S K a = (
  tt,
  (
    refl,
    rw (concat_snoc, append_assoc) a.1,
    rw (lengths_snoc, append_assoc) (a.2 ∙ ap (λ n. lengths finished ++ (n ∷ W)) (omega arith)),
  ),
)

pub next_start : (q : Pos) (k e : ℕ) (H W S K : List ℕ) → Account q 0 0 H (suc k ∷ W) S K
    → Fits StartBit q × Account (after StartBit q) (suc k) (suc e) H W S K
unfolding Account after
next_start (out finished) k e H W S K a = (tt, (omega arith, a.1, rw zero-add a.2))
next_start (within finished words b) k e H W S K a = absurd (omega (arith, a.0))

-- The host stores a word, queues a place, takes words back.
pub account_push : (q : Pos) (l e w : ℕ) (H W S K : List ℕ) → Account q l e H W S K → Account q l e (H ++ (w ∷ [])) W (S ++ (w ∷ [])) K
unfolding Account
account_push (out finished) l e w H W S K a = (a.0, rw (a.1, append_assoc), a.2)
account_push (within finished words b) l e w H W S K a = (a.0, rw a.1 (simp append_assoc), a.2)

pub account_queue : (q : Pos) (l e : ℕ) (H W S K k : List ℕ) → Account q l e H W S K → Account q l e H (W ++ k) S (K ++ k)
unfolding Account
account_queue (out finished) l e H W S K k a = (a.0, a.1, rw (a.2, append_assoc))
account_queue (within finished words b) l e H W S K k a = (a.0, a.1, rw (a.2, append_assoc))

take_back : (X H : List ℕ) (n : ℕ) → n ≤ length H → take (length (X ++ H) - n) (X ++ H) ≡ X ++ take (length H - n) H
take_back X H n h =
    let e : length (X ++ H) - n ≡ length X + (length H - n) = rw length-append (omega arith) in
    rw e (take-append-add X H (length H - n))

pub account_back : (q : Pos) (l e : ℕ) (H W S K : List ℕ) (n : ℕ) → n ≤ length H → Account q l e H W S K
    → Account q l e (take (length H - n) H) W (take (length S - n) S) K
unfolding Account
account_back (out finished) l e H W S K n h a = (a.0, rw a.1 (take_back (concat finished) H n h), a.2)
account_back (within finished words b) l e H W S K n h a = (
  a.0,
  rw (a.1, ← (append_assoc (concat finished) words H))
      (take_back (concat finished ++ words) H n h ∙ append_assoc (concat finished) words (take (length H - n) H)),
  a.2,
)

-- Words that no place counts are still in TX.
unfoldable pub sum : List ℕ → ℕ
sum [] = 0
sum (k ∷ K) = k + sum K

pub sum_append : (a b : List ℕ) → sum (a ++ b) ≡ sum a + sum b
unfolding sum
sum_append [] b = sym (zero-add (sum b))
sum_append (x ∷ a) b = rw (sum_append a b) (omega arith)

pub length_concat : (D : List (List ℕ)) → length (concat D) ≡ sum (lengths D)
unfolding sum concat lengths
length_concat [] = refl
length_concat (x ∷ D) = rw (length-append, length_concat D)

in_reach : (q : Pos) (l e : ℕ) (H W S K : List ℕ) → Account q l e H W S K → length S ≤ sum K + length H
unfolding Account
in_reach (out finished) l e H W S K a = rw (a.1, a.2, length-append, sum_append, length_concat) (omega arith)
in_reach (within finished words b) l e H W S K a =
    rw (a.1, a.2, length-append, length-append, sum_append, length_concat) (unfold sum in omega arith)

pub still_there : (q : Pos) (l e : ℕ) (H W S K : List ℕ) (D : List (List ℕ)) (ws : List ℕ) → Account q l e H W S K
    → S ≡ concat D ++ ws → K ≡ lengths D → length ws ≤ length H
still_there q l e H W S K D ws a s k =
    let n : length S ≡ sum K + length ws = rw (s, k, length-append, length_concat) in
    omega (arith, in_reach q l e H W S K a)

-- With all sent, TX holds the words that no place counts.
pub all_there : (q : Pos) (H S K : List ℕ) → Account q 0 0 H [] S K → length S ≡ sum K + length H
unfolding Account
all_there (out finished) H S K a = rw (a.1, a.2, length-append, append-nil, length_concat)
all_there (within finished words b) H S K a = absurd (omega (arith, a.0))

-- ENDs that are owed change no account between commands.
pub account_owes : (q : Pos) (ends : ℕ) (H W S K : List ℕ) → Account q 0 0 H W S K → Account q 0 ends H W S K
unfolding Account
account_owes (out finished) ends H W S K a = a
account_owes (within finished words b) ends H W S K a = absurd (omega (arith, a.0))

-- Between commands with none waiting, the accepted commands are those that are sent.
module _ (finished : List (List ℕ)) (H S K : List ℕ) where
  pub account_listed : Account (out finished) 0 0 H [] S K → assign K S ≡ finished
  unfolding Account
  account_listed a = rw (a.1, a.2, assign_done finished [] H) (unfold assign in append-nil finished)

  pub account_front : Account (out finished) 0 0 H [] S K → Words S → Words (concat finished)
  unfolding Account
  account_front a k = words_front (concat finished) H (rw a.1 at k)

pub account_fresh : (finished : List (List ℕ)) → Account (out finished) 0 0 [] [] (concat finished) (lengths finished)
unfolding Account
account_fresh finished = (refl, sym (append-nil (concat finished)), sym (append-nil (lengths finished)))
