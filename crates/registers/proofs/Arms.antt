-- What the arms of a decision by layout or by code know, as the proofs of the functions ask it. Assumes nothing.
use mathlib.Core.Path.{◌≡◌, refl, sym}
use mathlib.Core.Bool.{Bool}
use mathlib.Core.List.{List}
use Prim.Native.Nat.{ℕ, zero, suc, ◌-◌, ◌/◌, ◌%◌, ◌≤◌}
use native.Mathlib.Omega.{arith}
use lib.Dec.{eqb}
use lib.ListN.{get_or-eq_default}
use Rattle.base.specs.Bits.{bit, odd}
use Rattle.layout.specs.declared.Layout.{Layout}
use Rattle.layout.specs.declared.Layout.TheVariants.{Ours, Makers}
use Rattle.registers.specs.declared.Register.{Register}
use Rattle.registers.specs.declared.Regs.{Regs}
use Rattle.registers.specs.Registers.{row, table_of, row_of, reset_regs}
use Rattle.registers.specs.Spictrl.{dog_code, dog_limit_in, is_xmodem_in}

module _ (v k : Layout) (e : v ≡ k) where
  pub to_reset : (x : Regs) → x ≡ reset_regs k → x ≡ reset_regs v
  to_reset x h = rw e h

  pub to_rows : (x : List Register) → x ≡ table_of k → x ≡ table_of v
  to_rows x h = rw e h

  pub to_limit : (s x : ℕ) → x ≡ dog_limit_in k s → x ≡ dog_limit_in v s
  to_limit s x h = rw e h

  pub to_xmodem : (s : ℕ) (x : Bool) → x ≡ is_xmodem_in k s → x ≡ is_xmodem_in v s
  to_xmodem s x h = rw e h

pub to_code : (c k x : ℕ) → c ≡ k → x ≡ dog_code k → x ≡ dog_code c
to_code c k x e h = rw e h

beyond : (n : ℕ) → 3 ≤ n → 0 ≡ dog_code n
unfolding dog_code
beyond n h = let e : n ≡ suc (suc (suc (n - 3))) = omega arith in rw e (off (n - 3))
  where
    off : (m : ℕ) → 0 ≡ dog_code (suc (suc (suc m)))
    off zero = refl
    off (suc m) = refl

-- the last arm knows the codes that it is not
pub to_off : (c : ℕ) → (c ≡ 0 → ⊥) → (c ≡ 1 → ⊥) → (c ≡ 2 → ⊥) → 0 ≡ dog_code c
to_off c h0 h1 h2 = beyond c (omega arith)

-- there is no row above 11
pub no_row : (layout : Layout) (a : ℕ) → 12 ≤ a → row 0 0 ≡ row_of layout a
unfolding table_of
no_row Ours a h = sym (get_or-eq_default (table_of Ours) (row 0 0) h)
no_row Makers a h = sym (get_or-eq_default (table_of Makers) (row 0 0) h)

-- SPI_CRC_ALG's bit
pub third_bit : (n : ℕ) → eqb (n / 4 % 2) 1 ≡ bit 2 n
unfolding bit odd
third_bit n = refl
