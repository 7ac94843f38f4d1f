-- Laws of the rows' limits, as the functions test them. Assumes nothing.
use mathlib.Core.Path.{◌≡◌, refl, sym, ◌∙◌, ap}
use mathlib.Core.Bool.{Bool, true, false, ◌&&◌}
use Prim.Native.Nat.{ℕ, zero, suc, ◌≤◌, ◌<◌}
use native.Mathlib.Omega.{arith}
use native.Mathlib.Decide.{dec_le}
use lib.ListN.{get_or-eq_default}
use borrow.Author.Tests.{eq-eqb, ne_eqb}
use Rattle.std.specs.Prelude.{Option, None, Some, unwrap_or}
use Rattle.std.specs.Bool.{then_some}
use Rattle.base.specs.Arms.{past}
use Rattle.base.specs.Pick.{pick, pick_true, pick_false, and_both}
use Rattle.base.specs.Truth.{and_none}
use Rattle.frames.specs.Orders.{rows, order_of}
use Rattle.frames.specs.declared.Order.{Order}

-- a joined test fails by its first part
pub and_first_fails : (a b : Bool) → a ≡ false → (a && b) ≡ false
and_first_fails a b h = rw h

pub some_where : {A : Type 0} (t : Bool) (x : A) → then_some t x ≡ pick t (Some x) None
unfolding pick
some_where true x = refl
some_where false x = refl

-- a choice that was made tells its test
pub none_where : {A : Type 0} (t : Bool) (x : A) → None ≡ pick t (Some x) None → t ≡ false
unfolding pick
none_where true x e = cc
none_where false x e = refl

pub some_were : {A : Type 0} (t : Bool) (y x : A) → Some y ≡ pick t (Some x) None → (t ≡ true) × (y ≡ x)
unfolding pick
some_were true y x e = (refl, ap (λ (o : Option _). unwrap_or o y) e)
some_were false y x e = (cc, cc)

pub ruleset tests = (pick_true, pick_false, and_both, and_none, and_first_fails, eq-eqb, ne_eqb)

-- an order by its number
module _ (n ends address count : ℕ) where
  pub to_order : (k : ℕ) (x : Option Order) → n ≡ k → x ≡ order_of k ends address count → x ≡ order_of n ends address count
  to_order k x e f = f ∙ ap (λ (m : ℕ). order_of m ends address count) (sym e)

  beyond : 15 ≤ n → None ≡ order_of n ends address count
  unfolding order_of rows
  beyond h = sym (get_or-eq_default (rows ends address count) None h)

  -- the last arm knows the numbers that it is not
  pub to_none : (n ≡ 2 → ⊥) → (n ≡ 3 → ⊥) → (n ≡ 4 → ⊥) → (n ≡ 5 → ⊥) → (n ≡ 6 → ⊥) → (n ≡ 7 → ⊥) → (n ≡ 8 → ⊥) → (n ≡ 9 → ⊥)
      → (n ≡ 10 → ⊥) → (n ≡ 11 → ⊥) → (n ≡ 12 → ⊥) → (n ≡ 13 → ⊥) → (n ≡ 14 → ⊥) → None ≡ order_of n ends address count
  unfolding order_of rows
  to_none h2 h3 h4 h5 h6 h7 h8 h9 h10 h11 h12 h13 h14 =
      elim (dec_le 2 n) [
        | yes p ↦ beyond (past 14 h14 (past 13 h13 (past 12 h12 (past 11 h11 (past 10 h10 (past 9 h9 (past 8 h8 (past 7 h7 (past 6 h6
            (past 5 h5 (past 4 h4 (past 3 h3 (past 2 h2 p)))))))))))))
        | no p ↦ few n (omega arith)
      ]
    where
      few : (m : ℕ) → m < 2 → None ≡ order_of m ends address count
      few zero h = refl
      few (suc zero) h = refl
      few (suc (suc m)) h = absurd (omega arith)
