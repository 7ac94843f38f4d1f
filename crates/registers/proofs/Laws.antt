-- Laws of the registers: the table is what power-up reads, and every write keeps the record rule. Assumes nothing.
use mathlib.Core.Path.{◌≡◌, refl, sym, ◌∙◌, ap, ap₂}
use mathlib.Core.Bool.{Bool, true}
use Prim.Native.Nat.{ℕ, zero, suc, ◌+◌, ◌*◌, ◌/◌, ◌%◌, ◌≤◌, ◌<◌, min}
use native.Mathlib.Omega.{arith}
use lib.Arith.{bin_ind}
use lib.Bits.{bit_and, and_step, and_shr, and_mod, and_le_r}
use lib.Dec.{eqb}
use borrow.Author.Tests.{lt-ltb, eq-eqb, ltb-true, eqb-true}
use Rattle.base.specs.Bits.{bit, odd, flag}
use Rattle.base.specs.Pick.{pick_keeps, and_l, and_r}
use Rattle.base.specs.Table.{holds_at}
use Rattle.layout.specs.declared.Layout.{Layout}
use Rattle.layout.specs.declared.Layout.TheVariants.{Ours, Makers}
use Rattle.registers.specs.declared.Register.{Register}
use Rattle.registers.specs.declared.Regs.{Regs}
use Rattle.registers.specs.declared.Control.{Control}
use Rattle.registers.specs.declared.Written.{Written}
use Rattle.registers.specs.Registers.{row, table_of, row_of, reset_regs, regs_sound, err, status_of, ifst_of, fifo_of, read_of, power_up_flags, power_up_control}
use Rattle.registers.specs.Writing.{with_spictrl, with_txfflvl, with_rxfflvl, with_diagmask, write_ccsictrl, write_txfflvl, write_rxfflvl, write_status, write_masked, write_of}

-- The reset column of a table, by one test along it.
resets : Layout → ℕ → Register → Bool
resets layout address entry = eqb (read_of (power_up_control layout) 0 0 address) entry.reset

pub reset_reads : (layout : Layout) (a : ℕ) → a < 12 → read_of (power_up_control layout) 0 0 a ≡ (row_of layout a).reset
unfolding resets table_of read_of power_up_control power_up_flags reset_regs status_of ifst_of fifo_of err bit odd flag
reset_reads Ours a h = eqb-true _ _ (holds_at (resets Ours) (row 0 0) (table_of Ours) refl a h)
reset_reads Makers a h = eqb-true _ _ (holds_at (resets Makers) (row 0 0) (table_of Makers) refl a h)

pub reset_sound : (layout : Layout) → regs_sound (reset_regs layout) ≡ true
unfolding reset_regs table_of
reset_sound Ours = refl
reset_sound Makers = refl

-- what a mask let through, it lets through
low : (n m : ℕ) → min (bit_and n m % 2) (m % 2) ≡ min (n % 2) (m % 2)
low n m = let e = and_step n m in let q : bit_and n m % 2 ≡ min (n % 2) (m % 2) = omega (arith, e) in omega (arith, q)

and_again : (n m : ℕ) → bit_and (bit_and n m) m ≡ bit_and n m
and_again =
    bin_ind (λ (n : ℕ). (m : ℕ) → bit_and (bit_and n m) m ≡ bit_and n m) (λ m. refl)
    (λ n ih m. and_step (bit_and n m) m
    ∙ ap₂ (λ (h l : ℕ). h * 2 + l) (ap (λ (x : ℕ). bit_and x (m / 2)) (and_shr n m 1) ∙ ih (m / 2)) (low n m)
    ∙ sym (and_step n m))

-- a level without bit 15
level_le : (v m : ℕ) → bit_and v m % 32768 ≤ m % 32768
level_le v m = let e = and_mod v m 15 in let l = and_le_r (v % 32768) (m % 32768) in omega (arith, e, l)

-- the record rule as facts
module _ (r : Regs) where
  module _ (s : regs_sound r ≡ true) where
    pub spictrl_masked : bit_and r.spictrl (row_of r.layout 1).writable ≡ r.spictrl
    spictrl_masked = eqb-true _ _ (search (and_l, and_r))

    pub txfflvl_lt : r.txfflvl < 512
    txfflvl_lt = ltb-true _ _ (search (and_l, and_r))

    pub rxfflvl_lt : r.rxfflvl < 256
    rxfflvl_lt = ltb-true _ _ (search (and_l, and_r))

    pub diagmask_masked : bit_and r.diagmask (row_of r.layout 6).writable ≡ r.diagmask
    diagmask_masked = eqb-true _ _ (search (and_l, and_r))

  pub sound : bit_and r.spictrl (row_of r.layout 1).writable ≡ r.spictrl → r.txfflvl < 512 → r.rxfflvl < 256
      → bit_and r.diagmask (row_of r.layout 6).writable ≡ r.diagmask → regs_sound r ≡ true
  sound e t u f = rw (eq-eqb _ _ e, lt-ltb _ _ t, lt-ltb _ _ u, eq-eqb _ _ f) refl

abbrev Sound : Written → Type 0
Sound w = regs_sound w.control.regs ≡ true

-- both tables let as much of a level through
tx_level : (layout : Layout) (v : ℕ) → bit_and v (row_of layout 3).writable % 32768 < 512
unfolding table_of
tx_level Ours v = let l : bit_and v 0x81FF % 32768 ≤ 511 = level_le v 0x81FF in omega (arith, l)
tx_level Makers v = let l : bit_and v 0x81FF % 32768 ≤ 511 = level_le v 0x81FF in omega (arith, l)

rx_level : (layout : Layout) (v : ℕ) → bit_and v (row_of layout 4).writable % 32768 < 256
unfolding table_of
rx_level Ours v = let l : bit_and v 0x80FF % 32768 ≤ 255 = level_le v 0x80FF in omega (arith, l)
rx_level Makers v = let l : bit_and v 0x80FF % 32768 ≤ 255 = level_le v 0x80FF in omega (arith, l)

pub write_sound : (c : Control) (busy : Bool) (a v : ℕ) → regs_sound c.regs ≡ true → regs_sound (write_of c busy a v).control.regs ≡ true
unfolding write_of write_masked write_ccsictrl write_txfflvl write_rxfflvl write_status
write_sound c busy zero v s = s
write_sound c busy (suc zero) v s =
    let r = c.regs in
    let m = (row_of r.layout 1).writable in
    sound (with_spictrl r (bit_and v m)) (and_again v m) (txfflvl_lt r s) (rxfflvl_lt r s) (diagmask_masked r s)
write_sound c busy (suc (suc zero)) v s = pick_keeps Sound busy _ _ (λ h. s) (λ h. s)
write_sound c busy (suc (suc (suc zero))) v s =
    let r = c.regs in
    let l = bit_and v (row_of r.layout 3).writable % 32768 in
    sound (with_txfflvl r l) (spictrl_masked r s) (tx_level r.layout v) (rxfflvl_lt r s) (diagmask_masked r s)
write_sound c busy (suc (suc (suc (suc zero)))) v s =
    let r = c.regs in
    let l = bit_and v (row_of r.layout 4).writable % 32768 in
    sound (with_rxfflvl r l) (spictrl_masked r s) (txfflvl_lt r s) (rx_level r.layout v) (diagmask_masked r s)
write_sound c busy (suc (suc (suc (suc (suc zero))))) v s = s
write_sound c busy (suc (suc (suc (suc (suc (suc zero)))))) v s =
    let r = c.regs in
    let m = (row_of r.layout 6).writable in
    sound (with_diagmask r (bit_and v m)) (spictrl_masked r s) (txfflvl_lt r s) (rxfflvl_lt r s) (and_again v m)
write_sound c busy (suc (suc (suc (suc (suc (suc (suc zero))))))) v s = pick_keeps Sound _ _ _ (λ h. s) (λ h. s)
write_sound c busy (suc (suc (suc (suc (suc (suc (suc (suc a)))))))) v s = s
