-- The table's rule, by one test that computes along the whole table. Assumes nothing.
use mathlib.Core.Path.{◌≡◌, refl, ap, ◌∙◌, sym}
use mathlib.Core.Bool.{Bool, true}
use mathlib.Core.List.{List, [], ◌∷◌}
use Prim.Native.Nat.{ℕ, zero, suc, ◌≤◌, ◌<◌}
use native.Mathlib.Omega.{arith}
use lib.Dec.{eqb}
use lib.ListN.{get_or}
use borrow.Author.Tests.{eqb-true}
use Rattle.base.specs.Arms.{past}
use Rattle.base.specs.Table.{passes, holds_at}
use Rattle.crc16.specs.Crc.{shift, shifts}
use Rattle.crc16.specs.Tables.{entry_of}

-- the table as the code has it, arm by arm; here a list, so that one test computes along the whole of it
abbrev pub steps : List ℕ
steps =
    0x0000 ∷ 0x1021 ∷ 0x2042 ∷ 0x3063 ∷ 0x4084 ∷ 0x50A5 ∷ 0x60C6 ∷ 0x70E7
    ∷ 0x8108 ∷ 0x9129 ∷ 0xA14A ∷ 0xB16B ∷ 0xC18C ∷ 0xD1AD ∷ 0xE1CE ∷ 0xF1EF ∷ []

abbrev is_step : ℕ → ℕ → Bool
is_step k x = eqb x (entry_of 4 k)

all_steps : passes is_step 0 steps ≡ true
unfolding entry_of shifts shift
all_steps = refl

-- the answer at k = j is the table's
pub step_at : (k j x : ℕ) → k ≡ j → j < 16 → x ≡ get_or steps j 0 → x ≡ entry_of 4 k
step_at k j x e h f = f ∙ eqb-true _ _ (holds_at is_step 0 steps all_steps j h) ∙ ap (λ (i : ℕ). entry_of 4 i) (sym e)

-- what a `match` knows of k behind its arms for 0 to j - 1, and so behind the last of them
abbrev pub NoneBelow : ℕ → ℕ → Type 0
NoneBelow k zero = Unit {0}
NoneBelow k (suc j) = NoneBelow k j × (k ≡ j → ⊥)

pub last : (k x : ℕ) (h : k < 16) → NoneBelow k 15 → x ≡ get_or steps 15 0 → x ≡ entry_of 4 k
last k x h n f = let p : 15 ≤ k = go 15 n in step_at k 15 x (omega arith) (omega arith) f
  where
    go : (j : ℕ) → NoneBelow k j → j ≤ k
    go zero n = omega arith
    go (suc j) n = past j n.1 (go j n.0)
