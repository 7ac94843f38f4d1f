-- A word has sixteen bits, as the proof of `bit` asks it. Assumes nothing.
use mathlib.Core.Path.{◌≡◌, sym, ap}
use mathlib.Core.Bool.{false}
use Prim.Native.Nat.{ℕ, ◌≤◌, ◌<◌}
use native.Mathlib.Nat.{lt_of_lt_of_le, div-eq_of_lt}
use lib.Pow.{pow_mono}
use Rattle.base.specs.Bits.{bit, odd}

pub beyond : (k word : ℕ) → 16 ≤ k → word < 65536 → false ≡ bit k word
unfolding bit odd
beyond k word h l = sym (ap (λ (n : ℕ). odd n) (div-eq_of_lt (lt_of_lt_of_le l (pow_mono h))))
