-- The reader behind a chain: it hears a bit as many ticks after it was sent as the chain has cells, and is always in what the sender was in then.
-- Assumes nothing.
use mathlib.Core.Path.{◌≡◌, refl}
use mathlib.Core.Bool.{Bool, true, false, ◌&&◌}
use mathlib.Core.Logic.{◌⊎◌, inl, inr}
use Prim.Native.Nat.{ℕ, suc, ◌+◌, ◌-◌, ◌≤◌, ◌<◌}
use native.Mathlib.Omega.{arith}
use native.Mathlib.Numerals.{add-one}
use native.Mathlib.Decide.{ℕ_discrete}
use lib.Dec.{leb, eqb}
use borrow.Author.Tests.{leb-true, eqb-true}
use Rattle.base.specs.Pick.{pick, and_l, and_r}
use Rattle.base.specs.Bits.{val}
use Rattle.line.specs.Format.{check_bit, piece_length, piece_bit}
use Rattle.line.specs.Reader.{heard, next_number, hear}
use Rattle.line.specs.declared.Ear.{Ear}
use Rattle.line.specs.declared.Ear.TheVariants.{Quiet, Group}
use Rattle.line.specs.declared.Found.{Found}
use Rattle.line.specs.declared.Found.TheVariants.{Nothing, Start, Word, End}
use Rattle.line.specs.declared.Piece.{Piece}
use Rattle.line.specs.declared.Piece.TheVariants.{StartBit, WordPiece, EndPiece}
use Rattle.line.proofs.Hears.{InWord, WordOn, word_none, word_on, word_end_lem, listen, end_on, end_after_one, end_on_zero, end_after_zero}
use Rattle.state.specs.Sending.{idle}
use Rattle.state.specs.declared.Sender.{Sender}

abbrev sender : Piece → ℕ → ℕ → ℕ → Sender
sender piece gone left ends = record { piece = piece; gone = gone; left = left; ends = ends }

-- One tick of a sender: the bit, the sender after it, and whether a command with words began with it (1 or 0).
pub data Step : Sender → Bool → Sender → ℕ → Type 0 where
  on : (s : Sender) → s.gone < piece_length s.piece → Step s (piece_bit s.piece s.gone) (sender s.piece (s.gone + 1) s.left s.ends) 0
  load : (s : Sender) (w : ℕ) → w < 65536 → piece_length s.piece ≤ s.gone → 0 < s.left
      → Step s (piece_bit (WordPiece w) 0) (sender (WordPiece w) 1 (s.left - 1) s.ends) 0
  close : (s : Sender) → piece_length s.piece ≤ s.gone → s.left ≡ 0 → 0 < s.ends → Step s true (sender EndPiece 1 0 (s.ends - 1)) 0
  begin : (s : Sender) (words ends : ℕ) → idle s ≡ true → Step s false (sender StartBit 1 words (ends + 1)) 1
  ones : (s : Sender) (ends : ℕ) → idle s ≡ true → Step s true (sender EndPiece 1 0 ends) 0
  rest : (s t : Sender) → idle s ≡ true → idle t ≡ true → Step s true t 0

-- An idle sender.
pub idle_over : (s : Sender) → idle s ≡ true → piece_length s.piece ≤ s.gone
idle_over s h = leb-true _ _ (and_l _ _ (and_l _ _ h))

pub idle_left : (s : Sender) → idle s ≡ true → s.left ≡ 0
idle_left s h = eqb-true _ _ (and_r (leb (piece_length s.piece) s.gone) _ (and_l _ _ h))

pub idle_ends : (s : Sender) → idle s ≡ true → s.ends ≡ 0
idle_ends s h = eqb-true _ _ (and_r (leb (piece_length s.piece) s.gone && eqb s.left 0) _ h)

-- The reader, by the sender whose last bit it heard: outside a command (0), or in one whose END it has not found yet (1).
pub data Hears (s : Sender) (e : Ear) : ℕ → Type 0 where
  out : e ≡ Quiet → s.left ≡ 0 → (s.piece ≡ EndPiece) ⊎ (idle s ≡ true) → Hears s e 0
  between : (i : ℕ) (v : Bool) → piece_length s.piece ≤ s.gone → 0 < s.ends → e ≡ Group i 0 0 (val v) → Hears s e 1
  word : (i w : ℕ) → w < 65536 → s.piece ≡ WordPiece w → 0 < s.ends → s.gone ≤ 16 → InWord i w s.gone e → Hears s e 1
  closing : (i : ℕ) (v : Bool) → s.piece ≡ EndPiece → s.left ≡ 0 → (s.gone ≤ 16) ⊎ ((s.gone ≡ 17) × (v ≡ false)) → e ≡ listen i v s.gone → Hears s e 1

-- What a bit completed, with the commands begun: in or out of a command before and after.
pub data Finds : Found → ℕ → ℕ → ℕ → Type 0 where
  nothing : (k : ℕ) → Finds Nothing 0 k k
  starts : Finds Start 1 0 1
  words : (w : ℕ) → Finds (Word w) 0 1 1
  ends : Finds End 0 1 0

pub record Heard (s : Sender) (e : Ear) (b : Bool) (j k : ℕ) : Type 0 where
  pub after : ℕ
  pub hears : Hears s (hear e b).ear after
  pub finds : Finds (hear e b).found j k after

-- from what `hear` gives
by_hear : (s : Sender) (e : Ear) (b : Bool) (j k n : ℕ) (f : Ear) (o : Found) → hear e b ≡ heard f o → Hears s f n → Finds o j k n → Heard s e b j k
by_hear s e b j k n f o h i d = record { after = n; hears = rw h i; finds = rw h d }

hear_one : hear Quiet true ≡ heard Quiet Nothing
unfolding hear pick
hear_one = refl

hear_zero : hear Quiet false ≡ heard (Group 0 0 0 (val false)) Start
unfolding hear pick val
hear_zero = refl

end_bit : (s : Sender) → s.piece ≡ EndPiece → piece_bit s.piece s.gone ≡ true
unfolding piece_bit
end_bit s h = rw h refl

-- an END that is not over
unfinished : (s : Sender) (v : Bool) → s.piece ≡ EndPiece → (s.gone ≤ 16) ⊎ ((s.gone ≡ 17) × (v ≡ false)) → piece_length s.piece ≤ s.gone → ⊥
unfinished s v p (inl g) o = let o : 18 ≤ s.gone = rw p at o in omega arith
unfinished s v p (inr (g, b)) o = let o : 18 ≤ s.gone = rw p at o in omega arith

-- A bit heard is a tick of the sender, then.
module _ (e : Ear) where
  out_on : (s : Sender) → s.gone < piece_length s.piece → e ≡ Quiet → s.left ≡ 0 → (s.piece ≡ EndPiece) ⊎ (idle s ≡ true)
      → Heard (sender s.piece (s.gone + 1) s.left s.ends) e (piece_bit s.piece s.gone) 0 0
  out_on s l q z (inl p) =
      by_hear _ e _ 0 0 0 Quiet Nothing (rw (q, end_bit s p) hear_one) (out refl z (inl p)) (nothing 0)
  out_on s l q z (inr i) = absurd (omega (arith, idle_over s i))

  quiet_on : (t : Sender) → e ≡ Quiet → t.left ≡ 0 → (t.piece ≡ EndPiece) ⊎ (idle t ≡ true) → Heard t e true 0 0
  quiet_on t q z p = by_hear _ e _ 0 0 0 Quiet Nothing (rw q hear_one) (out refl z p) (nothing 0)

  word_heard : (s : Sender) (i w : ℕ) → w < 65536 → s.piece ≡ WordPiece w → 0 < s.ends → s.gone ≤ 16 → InWord i w s.gone e
      → Heard (sender s.piece (s.gone + 1) s.left s.ends) e (piece_bit s.piece s.gone) 0 1
  word_heard s i w k p n h d =
      elim (ℕ_discrete s.gone 16) [
        | yes g ↦
            (let o : piece_length s.piece ≤ s.gone + 1 = rw p (omega arith) in
            by_hear _ e _ 0 1 1 (Group (next_number i) 0 0 (val (check_bit w))) (Word w) (rw (p, g) (word_end_lem i w e (rw g at d)))
            (between (next_number i) (check_bit w) o n refl) (words w))
        | no g ↦
            (let l : s.gone < 16 = omega arith in
            let o : WordOn i w s.gone (hear e (piece_bit (WordPiece w) s.gone)) = word_on i w s.gone e k l d in
            by_hear _ e _ 0 1 1 o.ear Nothing (rw p o.is) (word i w k p n (omega arith) (rw add-one o.in_word)) (nothing 1))
      ]

  closing_heard : (s : Sender) (i : ℕ) (v : Bool) → s.piece ≡ EndPiece → s.left ≡ 0 → (s.gone ≤ 16) ⊎ ((s.gone ≡ 17) × (v ≡ false))
      → e ≡ listen i v s.gone
      → Heard (sender s.piece (s.gone + 1) s.left s.ends) e (piece_bit s.piece s.gone) 0 1
  closing_heard s i v p z (inr (g, b)) l =
      by_hear _ e _ 0 1 0 Quiet End (rw (end_bit s p, l, g, b) (end_after_zero i)) (out refl z (inl p)) ends
  closing_heard s i v p z (inl h) l =
      elim (ℕ_discrete s.gone 16) [
        | yes g ↦ sixteen v (rw g at l) g
        | no g ↦
            (let d : s.gone < 16 = omega arith in
            by_hear _ e _ 0 1 1 (listen i v (suc s.gone)) Nothing (rw (end_bit s p, l) (end_on i v s.gone d))
            (closing i v p z (inl (omega arith)) (rw add-one refl)) (nothing 1))
      ]
    where
      sixteen : (v : Bool) → e ≡ listen i v 16 → s.gone ≡ 16 → Heard (sender s.piece (s.gone + 1) s.left s.ends) e (piece_bit s.piece s.gone) 0 1
      sixteen true l g = by_hear _ e _ 0 1 0 Quiet End (rw (end_bit s p, l) (end_after_one i)) (out refl z (inl p)) ends
      sixteen false l g =
          by_hear _ e _ 0 1 1 (listen i false 17) Nothing (rw (end_bit s p, l) (end_on_zero i))
          (closing i false p z (inr (omega arith, refl)) (rw (add-one, g) refl)) (nothing 1)

  pub heard_step : (s : Sender) (b : Bool) (t : Sender) (j k : ℕ) → Hears s e k → Step s b t j → Heard t e b j k
  heard_step s b t j k (out q z p) (on _ l) = out_on s l q z p
  heard_step s b t j k (out q z p) (load _ w h o l) = absurd (omega arith)
  heard_step s b t j k (out q z p) (close _ o l n) = quiet_on _ q refl (inl refl)
  heard_step s b t j k (out q z p) (begin _ n m i) =
      by_hear _ e _ 1 0 1 _ Start (rw q hear_zero) (between 0 false (omega arith) (omega arith) refl) starts
  heard_step s b t j k (out q z p) (ones _ m i) = quiet_on _ q refl (inl refl)
  heard_step s b t j k (out q z p) (rest _ _ i h) = quiet_on t q (idle_left t h) (inr h)
  heard_step s b t j k (between a v o n i) (on _ l) = absurd (omega arith)
  heard_step s b t j k (between a v o n i) (load _ w h p l) =
      let d : WordOn a w 0 (hear (Group a 0 0 (val v)) (piece_bit (WordPiece w) 0)) =
      word_on a w 0 (Group a 0 0 (val v)) h (omega arith) (word_none a w v h) in
      by_hear _ e _ 0 1 1 d.ear Nothing (rw i d.is) (word a w h refl n (omega arith) d.in_word) (nothing 1)
  heard_step s b t j k (between a v o n i) (close _ p l m) =
      by_hear _ e _ 0 1 1 (listen a v 1) Nothing (rw i (unfold listen in end_on a v 0 (omega arith))) (closing a v refl refl (inl (omega arith)) refl) (nothing 1)
  heard_step s b t j k (between a v o n i) (begin _ c m h) = absurd (omega (arith, idle_ends s h))
  heard_step s b t j k (between a v o n i) (ones _ m h) = absurd (omega (arith, idle_ends s h))
  heard_step s b t j k (between a v o n i) (rest _ _ h g) = absurd (omega (arith, idle_ends s h))
  heard_step s b t j k (word a w h p n g i) (on _ l) = word_heard s a w h p n g i
  heard_step s b t j k (word a w h p n g i) (load _ x y o l) = let o : 17 ≤ s.gone = rw p at o in absurd (omega arith)
  heard_step s b t j k (word a w h p n g i) (close _ o l m) = let o : 17 ≤ s.gone = rw p at o in absurd (omega arith)
  heard_step s b t j k (word a w h p n g i) (begin _ c m y) = absurd (omega (arith, idle_ends s y))
  heard_step s b t j k (word a w h p n g i) (ones _ m y) = absurd (omega (arith, idle_ends s y))
  heard_step s b t j k (word a w h p n g i) (rest _ _ y x) = absurd (omega (arith, idle_ends s y))
  heard_step s b t j k (closing a v p z g i) (on _ l) = closing_heard s a v p z g i
  heard_step s b t j k (closing a v p z g i) (load _ x y o l) = absurd (omega arith)
  heard_step s b t j k (closing a v p z g i) (close _ o l m) = absurd (unfinished s v p g o)
  heard_step s b t j k (closing a v p z g i) (begin _ c m y) = absurd (unfinished s v p g (idle_over s y))
  heard_step s b t j k (closing a v p z g i) (ones _ m y) = absurd (unfinished s v p g (idle_over s y))
  heard_step s b t j k (closing a v p z g i) (rest _ _ y x) = absurd (unfinished s v p g (idle_over s y))
