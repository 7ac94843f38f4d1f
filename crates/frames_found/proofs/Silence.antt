-- Words of 0xFFFF alone are no answer, by either CRC. Assumes nothing.
use Rattle.std.specs.Prelude.{Option, None, Some}
use mathlib.Core.Path.{◌≡◌, refl, sym, ◌∙◌, ap}
use mathlib.Core.Bool.{Bool, true, false, not, ◌&&◌}
use mathlib.Core.List.{List, ◌∷◌}
use Prim.Native.Nat.{ℕ, zero, suc, ◌+◌, ◌≤◌, ◌<◌}
use native.Mathlib.Omega.{arith}
use lib.Dec.{leb, eqb}
use lib.ListN.{length, get_or, take, replicate, length-replicate, get_or-replicate}
use borrow.Author.Tests.{leb-true, le-leb, eqb-true, not-true, eqb-false}
use Rattle.base.specs.Bits.{all_ones, val, odd, bit, high_first}
use Rattle.base.specs.Pick.{pick, pick_keeps, and_l, and_r, and_both}
use Rattle.crc16.specs.Crc.{shift, crc_bit, crc_bits, crc_word, crc_from}
use Rattle.command.specs.Layout.{registers_end}
use Rattle.command.specs.Layouts.{start_by}
use Rattle.frames.specs.Answers.{is_answer, answer_of, due_of, told_by, told_of}
use Rattle.frames.specs.Orders.{fields_within}
use Rattle.frames.specs.declared.Due.{Due}
use Rattle.frames.specs.declared.Due.TheVariants.{StatusDue, DataDue}
use Rattle.frames.specs.declared.Order.{Order}
use Rattle.frames.specs.declared.Order.TheVariants.{FwdWrCrc, FwdWr, FwdWrEndCrc, FwdWrEnd, FwdRdEndCrc, FwdRdEnd, DataRdCrc, DataRd, RegWrCrc, RegWr, RegRdCrc, RegRd, SoftResetCrc}
use Rattle.frames_found.specs.Silence.{Silent}

-- the CRC of one word of 1s more, so many times, is never 0xFFFF
abbrev others : ℕ → ℕ → Bool
others zero c = true
others (suc n) c = not (eqb (crc_word c all_ones) all_ones) && others n (crc_word c all_ones)

-- computed, for the longest answer
to_the_longest : (xmodem : Bool) → others 256 (start_by xmodem) ≡ true
unfolding start_by pick crc_word crc_bits crc_bit shift high_first bit odd val
to_the_longest true = refl
to_the_longest false = refl

no_true : (t : Bool) → (t ≡ true → ⊥) → t ≡ false
no_true true h = absurd (h refl)
no_true false h = refl

never_ones : (n c k : ℕ) → others n c ≡ true → k < n → crc_from c (replicate (suc k) all_ones) ≡ all_ones → ⊥
unfolding crc_from
never_ones zero c k t h e = omega arith
never_ones (suc n) c zero t h e =
    eqb-false (crc_word c all_ones) all_ones (not-true _ (and_l (not (eqb (crc_word c all_ones) all_ones)) (others n (crc_word c all_ones)) t)) e
never_ones (suc n) c (suc k) t h e =
    never_ones n (crc_word c all_ones) k (and_r (not (eqb (crc_word c all_ones) all_ones)) (others n (crc_word c all_ones)) t) (omega arith) e

take_ones : (k n : ℕ) → k ≤ n → take k (replicate n all_ones) ≡ replicate k all_ones
take_ones zero n h = refl
take_ones (suc k) zero h = absurd (omega arith)
take_ones (suc k) (suc n) h = ap (λ (xs : List ℕ). all_ones ∷ xs) (take_ones k n (omega arith))

module _ (s : ℕ) (all : others 256 s ≡ true) (n : ℕ) where
  -- of no length that an answer can have
  no_answer : (k : ℕ) → k < 256 → is_answer s (suc k) (replicate n all_ones) ≡ false
  unfolding is_answer
  no_answer k h = no_true _ (λ t. never_ones 256 s k all h (crc_is t))
    where
      words : List ℕ
      words = replicate n all_ones

      crc_is : (eqb (length words) (suc k + 1) && eqb (get_or words (suc k) 0) (crc_from s (take (suc k) words))) ≡ true
          → crc_from s (replicate (suc k) all_ones) ≡ all_ones
      crc_is t =
          let l = eqb-true (length words) (suc k + 1) (and_l _ (eqb (get_or words (suc k) 0) (crc_from s (take (suc k) words))) t) in
          let r = length-replicate n all_ones in
          let m : suc k < n = omega (arith, l, r) in
          ap (λ (xs : List ℕ). crc_from s xs) (sym (take_ones (suc k) n (omega arith)))
          ∙ sym (eqb-true (get_or words (suc k) 0) _ (and_r (eqb (length words) (suc k + 1)) _ t)) ∙ get_or-replicate n (suc k) all_ones 0 m

  none_told : (count : ℕ) → (leb 1 count && leb count 256) ≡ true → told_by s (Some (DataDue count)) (replicate n all_ones) ≡ None
  unfolding told_by pick
  none_told zero h = absurd (omega (arith, leb-true 1 0 (and_l (leb 1 0) (leb 0 256) h)))
  none_told (suc k) h =
      let b = leb-true (suc k) 256 (and_r (leb 1 (suc k)) (leb (suc k) 256) h) in rw (no_answer k (omega (arith, b)))

  no_status : told_by s (Some StatusDue) (replicate n all_ones) ≡ None
  unfolding told_by pick
  no_status = rw (no_answer 0 (omega arith))

  spanned : (address count : ℕ) → (leb 1 count && leb (address + count) registers_end) ≡ true → (leb 1 count && leb count 256) ≡ true
  spanned address count h =
      let b = leb-true (address + count) registers_end (and_r (leb 1 count) (leb (address + count) registers_end) h) in
      and_both (leb 1 count) (leb count 256) (and_l (leb 1 count) (leb (address + count) registers_end) h) (le-leb count 256 (omega (arith, b)))

  silent_due : (o : Order) → fields_within o ≡ true → told_by s (Some (answer_of o)) (replicate n all_ones) ≡ None
  silent_due FwdWrCrc h = no_status
  silent_due FwdWr h = no_status
  silent_due (FwdWrEndCrc ends) h = no_status
  silent_due (FwdWrEnd ends) h = no_status
  silent_due (FwdRdEndCrc ends) h = no_status
  silent_due (FwdRdEnd ends) h = no_status
  silent_due (DataRdCrc count) h = none_told count h
  silent_due (DataRd count) h = none_told count h
  silent_due (RegWrCrc address) h = no_status
  silent_due (RegWr address) h = no_status
  silent_due (RegRdCrc address count) h = none_told count (spanned address count h)
  silent_due (RegRd address count) h = none_told count (spanned address count h)
  silent_due SoftResetCrc h = no_status

pub silent : Silent
unfolding told_of due_of told_by
silent xmodem o n =
    pick_keeps (λ (d : Option Due). told_by (start_by xmodem) d (replicate n all_ones) ≡ None) (fields_within o) (Some (answer_of o)) None
    (silent_due (start_by xmodem) (to_the_longest xmodem) n o) (λ t. refl)
