-- A wait keeps to its budget. Assumes nothing.
use Prim.Native.Nat.{ℕ, zero, suc, ◌+◌, ◌≤◌}
use native.Mathlib.Omega.{arith}
use Rattle.base.specs.Pick.{pick_keeps}
use Rattle.command.specs.Layouts.{layouts}
use Rattle.chain.specs.Echo.{echo}
use Rattle.chain.specs.Chain.{ticked}
use Rattle.chain.specs.Waits.{Waiting, waiting, wait_of}
use Rattle.chain.specs.declared.Goal.{Goal}

pub wait_ticks : (budget : ℕ) (goal : Goal) (w : Waiting) → (wait_of budget goal w).ticks ≤ w.ticks + budget
unfolding wait_of
wait_ticks zero goal w = omega arith
wait_ticks (suc budget) goal w =
    pick_keeps (λ (z : Waiting). z.ticks ≤ w.ticks + suc budget) _ _ _ (λ t. omega arith)
    (λ t. let h : (wait_of budget goal w').ticks ≤ w.ticks + 1 + budget = wait_ticks budget goal w' in omega arith)
  where
    w' : Waiting
    w' = waiting (ticked w.moment) (w.ticks + 1) (echo layouts w.moment.at)
