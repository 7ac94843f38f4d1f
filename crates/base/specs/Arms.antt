-- The last arm of a decision by number knows the numbers that it is not. Assumes nothing.
use Rattle.std.specs.Prelude.{◌≡◌, ℕ, suc, ◌≤◌}
use Rattle.std.proofs.Common.{arith}

pub past : {n : ℕ} (k : ℕ) → (n ≡ k → ⊥) → k ≤ n → suc k ≤ n
past k h p = omega arith
