-- Flags in their places and the decisions by number, as the proofs of the functions ask them. Assumes nothing.
use mathlib.Core.Path.{◌≡◌, refl, sym, ◌∙◌, ap, ap₂}
use mathlib.Core.Bool.{Bool, true, false, ◌&&◌}
use Prim.Native.Nat.{ℕ, suc, ◌-◌, ◌≤◌}
use native.Mathlib.Omega.{arith}
use native.Mathlib.Decide.{dec_le}
use Rattle.base.specs.Arms.{past}
use Rattle.base.specs.Bits.{bit}
use Rattle.base.specs.Pick.{pick, pick_true, pick_false, pick_told, pick_denied}
use Rattle.registers.specs.declared.Control.{Control}
use Rattle.registers.specs.declared.Flags.{Flags}
use Rattle.registers.specs.declared.Regs.{Regs}
use Rattle.registers.specs.declared.Effect.{Effect}
use Rattle.registers.specs.declared.Written.{Written}
use Rattle.registers.specs.declared.Effect.TheVariants.{Nothing}
use Rattle.registers.specs.Registers.{cleared}
use Rattle.registers.specs.Writing.{written, with_flags, with_regs, write_status, write_masked}

-- a choice by two answers
module _ {A : Type 0} (s t p q : Bool) (r x y : A) (e : s ≡ p) (f : t ≡ q) where
  pub pick_both : (s && t) ≡ true → r ≡ x → r ≡ pick (p && q) x y
  pick_both h k = pick_true _ r x y (sym (ap₂ (λ (a b : Bool). a && b) e f) ∙ h) k

  pub pick_not_both : (s && t) ≡ false → r ≡ y → r ≡ pick (p && q) x y
  pick_not_both h k = pick_false _ r x y (sym (ap₂ (λ (a b : Bool). a && b) e f) ∙ h) k

-- what bit 15 of a level asks, beside the registers
module _ (c : Control) (r : Regs) (v : ℕ) (b : Bool) (x : Effect) (h : b ≡ bit 15 v) where
  pub to_asked : b ≡ true → written (with_regs c r) x ≡ written (with_regs c r) (pick (bit 15 v) x Nothing)
  to_asked e = ap (λ (z : Effect). written (with_regs c r) z) (pick_told b (bit 15 v) x x Nothing h e refl)

  pub to_unasked : b ≡ false → written (with_regs c r) Nothing ≡ written (with_regs c r) (pick (bit 15 v) x Nothing)
  to_unasked e = ap (λ (z : Effect). written (with_regs c r) z) (pick_denied b (bit 15 v) Nothing x Nothing h e refl)

pub to_cleared : (c : Control) (v : ℕ) (b : Bool) (f : Flags) (x : Written) → b ≡ bit 15 v → b ≡ true → f ≡ cleared c.flags
    → x ≡ written (with_flags c f) Nothing → x ≡ write_status c v
unfolding write_status
to_cleared c v b f x e h k l = pick_told b _ x _ _ e h (l ∙ ap (λ (g : Flags). written (with_flags c g) Nothing) k)

none : {n : ℕ} → (1 ≤ n → ⊥) → n ≡ 0
none h = omega arith

module _ (c : Control) (busy : Bool) (a v : ℕ) where
  pub to_write : (k : ℕ) (x : Written) → a ≡ k → x ≡ write_masked c busy k v → x ≡ write_masked c busy a v
  to_write k x e f = f ∙ ap (λ (n : ℕ). write_masked c busy n v) (sym e)

  above : 8 ≤ a → written c Nothing ≡ write_masked c busy a v
  unfolding write_masked
  above h = let e : a ≡ suc (suc (suc (suc (suc (suc (suc (suc (a - 8)))))))) = omega arith in to_write _ (written c Nothing) e refl

  first : written c Nothing ≡ write_masked c busy 0 v
  unfolding write_masked
  first = refl

  pub to_unwritten : (x : Written) → (a ≡ 1 → ⊥) → (a ≡ 2 → ⊥) → (a ≡ 3 → ⊥) → (a ≡ 4 → ⊥) → (a ≡ 5 → ⊥) → (a ≡ 6 → ⊥) → (a ≡ 7 → ⊥)
      → x ≡ written c Nothing → x ≡ write_masked c busy a v
  to_unwritten x h1 h2 h3 h4 h5 h6 h7 e =
      elim (dec_le 1 a) [
        | yes p ↦ e ∙ above (past 7 h7 (past 6 h6 (past 5 h5 (past 4 h4 (past 3 h3 (past 2 h2 (past 1 h1 p)))))))
        | no p ↦ to_write 0 x (none p) (e ∙ first)
      ]
