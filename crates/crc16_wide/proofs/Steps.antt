-- The table's rule, by one test that computes along the whole table. Assumes nothing.
use mathlib.Core.Path.{◌≡◌, refl}
use mathlib.Core.Bool.{Bool}
use mathlib.Core.List.{List}
use Prim.Native.Nat.{ℕ, ◌<◌}
use lib.Dec.{eqb}
use lib.ListN.{length, get_or}
use borrow.Author.Tests.{eqb-true}
use Rattle.base.specs.Pick.{pick, pick_keeps}
use Rattle.base.specs.Table.{passes, holds_at}
use Rattle.crc16.specs.Tables.{entry_of}

-- entry k is eight shifts of k at the top (01 Frames)
abbrev pub is_step : ℕ → ℕ → Bool
is_step k x = eqb x (entry_of 8 k)

-- a table that passes has the step at each entry; as an equation, so that `rw` finds the code's own table in its goal
pub step_at : (steps : List ℕ) (k : ℕ) → k < length steps
    → get_or steps k 0 ≡ pick (passes is_step 0 steps) (entry_of 8 k) (get_or steps k 0)
step_at steps k h =
    pick_keeps (λ (x : ℕ). get_or steps k 0 ≡ x) (passes is_step 0 steps) _ _
    (λ p. eqb-true (get_or steps k 0) (entry_of 8 k) (holds_at is_step 0 steps p k h))
    (λ p. refl)
