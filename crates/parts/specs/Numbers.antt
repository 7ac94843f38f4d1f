-- Numbers side by side: four of sixteen bits in a cell of sixty-four, five marks in a number. Ours. Assumes nothing.
use Rattle.std.specs.Prelude.{◌≡◌, Bool, ℕ, ◌+◌, ◌*◌, ◌/◌, ◌%◌}
use Rattle.base.specs.Bits.{word_end, val}

-- the first is the lowest
unfoldable pub four : ℕ → ℕ → ℕ → ℕ → ℕ
four a b c d = a + b * 65536 + c * 4294967296 + d * 281474976710656

-- each of them
unfoldable pub first : ℕ → ℕ
first n = n % word_end

unfoldable pub second : ℕ → ℕ
second n = n / 65536 % word_end

unfoldable pub third : ℕ → ℕ
third n = n / 4294967296 % word_end

unfoldable pub fourth : ℕ → ℕ
fourth n = n / 281474976710656 % word_end

-- a cell of these four, which gives them back
pub record Four (n a b c d : ℕ) : Type 0 where
  pub is : n ≡ four a b c d
  pub gives_first : first n ≡ a
  pub gives_second : second n ≡ b
  pub gives_third : third n ≡ c
  pub gives_fourth : fourth n ≡ d

-- mark k is bit k
unfoldable pub five : Bool → Bool → Bool → Bool → Bool → ℕ
five a b c d e = val a + val b * 2 + val c * 4 + val d * 8 + val e * 16
