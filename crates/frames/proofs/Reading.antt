-- Laws of the answer's reader. Assumes nothing.
use Rattle.std.specs.Prelude.{Option, None, Some}
use mathlib.Core.Path.{◌≡◌, refl, sym, ◌∙◌, ap}
use mathlib.Core.Bool.{Bool, true, false}
use mathlib.Core.List.{List}
use Prim.Native.Nat.{ℕ, ◌+◌, ◌<◌}
use native.Mathlib.Omega.{arith}
use lib.Dec.{eqb}
use lib.ListN.{length, get_or, take}
use lib.Seq.{length-take-le}
use borrow.Author.Tests.{eq-eqb, ne_eqb, eqb-true}
use Rattle.base.specs.Pick.{and_l, pick_told, pick_denied}
use Rattle.crc16.specs.Crc.{crc_from}
use Rattle.frames.specs.Answers.{is_answer, due_of, told_by, told_of}
use Rattle.frames.specs.declared.Due.{Due}
use Rattle.frames.specs.declared.Due.TheVariants.{StatusDue, DataDue}
use Rattle.frames.specs.declared.Order.{Order}
use Rattle.frames.specs.declared.Told.{Told}
use Rattle.frames.specs.declared.Told.TheVariants.{Status, Data}

module _ (s n : ℕ) (words : List ℕ) where
  pub other_length : (length words ≡ n + 1 → ⊥) → false ≡ is_answer s n words
  unfolding is_answer
  other_length h = rw (ne_eqb (length words) (n + 1) h)

  -- the words before the CRC word are so many
  pub long_before : length words ≡ n + 1 → n ≡ length (take n words)
  long_before h = sym (length-take-le n words (omega arith))

  pub by_crc : (crc : ℕ) → length words ≡ n + 1 → crc ≡ crc_from s (take n words) → eqb (get_or words n 0) crc ≡ is_answer s n words
  unfolding is_answer
  by_crc crc h e = rw (eq-eqb (length words) (n + 1) h, e)

-- an answer has a first word
pub first_word : (t : Bool) (s n : ℕ) (words : List ℕ) → t ≡ is_answer s n words → t ≡ true → 0 < length words
unfolding is_answer
first_word t s n words e h = omega (arith, eqb-true (length words) (n + 1) (and_l _ _ (sym e ∙ h)))

module _ (s : ℕ) (o : Order) (words : List ℕ) (d : Option Due) (is : d ≡ due_of o) where
  due_told : (k : Option Due) (x : Option Told) → d ≡ k → x ≡ told_by s k words → x ≡ told_of s o words
  unfolding told_of
  due_told k x e f = f ∙ ap (λ (m : Option Due). told_by s m words) (sym e ∙ is)

  pub tells_nothing : d ≡ None → None ≡ told_of s o words
  unfolding told_by
  tells_nothing e = due_told None None e refl

  module _ (t : Bool) where
    pub tells_status : d ≡ Some StatusDue → t ≡ is_answer s 1 words → t ≡ true → Some (Status (get_or words 0 0)) ≡ told_of s o words
    unfolding told_by
    tells_status e f h = due_told (Some StatusDue) _ e (pick_told t _ _ _ _ f h refl)

    pub tells_no_status : d ≡ Some StatusDue → t ≡ is_answer s 1 words → t ≡ false → None ≡ told_of s o words
    unfolding told_by
    tells_no_status e f h = due_told (Some StatusDue) _ e (pick_denied t _ _ _ _ f h refl)

    module _ (count : ℕ) where
      pub tells_data : d ≡ Some (DataDue count) → t ≡ is_answer s count words → t ≡ true → Some (Data count) ≡ told_of s o words
      unfolding told_by
      tells_data e f h = due_told (Some (DataDue count)) _ e (pick_told t _ _ _ _ f h refl)

      pub tells_no_data : d ≡ Some (DataDue count) → t ≡ is_answer s count words → t ≡ false → None ≡ told_of s o words
      unfolding told_by
      tells_no_data e f h = due_told (Some (DataDue count)) _ e (pick_denied t _ _ _ _ f h refl)

pub ruleset tells = (tells_nothing, tells_status, tells_no_status, tells_data, tells_no_data)
