-- Flags in their places and the decisions by number, as the proofs of the functions ask them. Assumes nothing.
use mathlib.Core.Path.{◌≡◌, refl, sym, ◌∙◌, ap}
use mathlib.Core.Bool.{Bool, true, false}
use Prim.Native.Nat.{ℕ, suc, ◌+◌, ◌-◌, ◌*◌, ◌%◌, ◌^◌, ◌≤◌, ◌<◌, zero-le}
use native.Mathlib.Nat.{pow-le-pow_right, zero-lt-suc}
use native.Mathlib.Omega.{arith}
use Rattle.base.specs.Arms.{past}
use Rattle.base.specs.Bits.{flag}
use Rattle.registers.specs.declared.Control.{Control}
use Rattle.registers.specs.declared.Register.{Register}
use Rattle.registers.specs.Registers.{row_of, mode_number, ccsi, txff, rxff, err, status_of, read_of}

-- a flag's place in a word of sixteen bits
place_lt : (k : ℕ) → k < 16 → 2 ^ k < 65536
place_lt k h =
    let l : 2 ^ k ≤ 2 ^ 15 = pow-le-pow_right (zero-lt-suc 1) {i = k} {j = 15} (omega arith) in
    omega arith

pub flag_up : (k : ℕ) (b : Bool) → k < 16 → b ≡ true → 1 * 2 ^ k % 65536 ≡ flag k b
unfolding flag
flag_up k b h e = let l : 2 ^ k < 65536 = place_lt k h in rw e (omega arith)

pub flag_down : (k : ℕ) (b : Bool) → b ≡ false → 0 ≡ flag k b
unfolding flag
flag_down k b e = rw e refl

-- STATUS by its parts
pub to_status : (c : Control) (x14 x12 x11 x10 x9 x8 x7 x6 x4 x3 x1 x0 : ℕ) (e : Bool) → x14 ≡ flag 14 (ccsi c.flags) → x12 ≡ flag 12 (txff c.flags)
    → x11 ≡ flag 11 (rxff c.flags) → x10 ≡ flag 10 c.drdy → x9 ≡ flag 9 c.flags.srst → x8 ≡ flag 8 c.flags.spi_cs
    → x7 ≡ flag 7 c.flags.reg_write → x6 ≡ flag 6 c.flags.spi_crc → x4 ≡ mode_number c.mode → x3 ≡ flag 3 c.flags.otp
    → x1 ≡ flag 1 c.flags.por → x0 ≡ flag 0 e → e ≡ err c
    → x14 + x12 + x11 + x10 + x9 + x8 + x7 + x6 + x4 * 16 + x3 + x1 + x0 ≡ status_of c
unfolding status_of
to_status c x14 x12 x11 x10 x9 x8 x7 x6 x4 x3 x1 x0 e a b d f g h i j k l m n o = rw (a, b, d, f, g, h, i, j, k, l, m, n, o) refl

module _ (c : Control) (t r a : ℕ) where
  -- an arm knows the number
  pub to_read : (k x : ℕ) → a ≡ k → x ≡ read_of c t r k → x ≡ read_of c t r a
  to_read k x e f = f ∙ ap (λ (n : ℕ). read_of c t r n) (sym e)

  -- what the table alone tells
  pub to_devid : (x : Register) → a ≡ 0 → x ≡ row_of c.regs.layout 0 → x.reset ≡ read_of c t r a
  unfolding read_of
  to_devid x e f = rw (e, f) refl

  pub to_devctrl : (x : Register) → a ≡ 5 → x ≡ row_of c.regs.layout 5 → x.reset ≡ read_of c t r a
  unfolding read_of
  to_devctrl x e f = rw (e, f) refl

  beyond : 12 ≤ a → 0 ≡ read_of c t r a
  unfolding read_of
  beyond h = let e : a ≡ suc (suc (suc (suc (suc (suc (suc (suc (suc (suc (suc (suc (a - 12)))))))))))) = omega arith in to_read _ 0 e refl

  -- the last arm knows the numbers that it is not
  pub to_none : (a ≡ 0 → ⊥) → (a ≡ 1 → ⊥) → (a ≡ 2 → ⊥) → (a ≡ 3 → ⊥) → (a ≡ 4 → ⊥) → (a ≡ 5 → ⊥) → (a ≡ 6 → ⊥) → (a ≡ 7 → ⊥)
      → (a ≡ 8 → ⊥) → (a ≡ 9 → ⊥) → (a ≡ 10 → ⊥) → (a ≡ 11 → ⊥) → 0 ≡ read_of c t r a
  to_none h0 h1 h2 h3 h4 h5 h6 h7 h8 h9 h10 h11 =
      beyond
      (past 11 h11 (past 10 h10 (past 9 h9 (past 8 h8 (past 7 h7 (past 6 h6 (past 5 h5 (past 4 h4 (past 3 h3 (past 2 h2 (past 1 h1 (past 0 h0
      zero-le))))))))))))
