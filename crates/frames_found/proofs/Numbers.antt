-- One order is one row of numbers. Assumes nothing.
use Rattle.std.specs.Prelude.{Option, None, Some}
use mathlib.Core.Path.{◌≡◌, refl, sym, ◌∙◌, subst}
use mathlib.Core.Bool.{true, ◌&&◌}
use Prim.Native.Nat.{ℕ, zero, suc}
use lib.Dec.{eqb}
use borrow.Author.Tests.{eqb-true}
use Rattle.base.specs.Pick.{pick, pick_keeps, and_l, and_r}
use Rattle.frames.specs.Orders.{number_of, rows, order_of}
use Rattle.frames.specs.declared.Order.{Order}
use Rattle.frames.specs.declared.Order.TheVariants.{FwdWrCrc, FwdWr, FwdWrEndCrc, FwdWrEnd, FwdRdEndCrc, FwdRdEnd, DataRdCrc, DataRd, RegWrCrc, RegWr, RegRdCrc, RegRd, SoftResetCrc}
use Rattle.frames_found.specs.HostFrames.{Numbers}

-- an order's extra ENDs, address and count; what its row does not have is 0
abbrev fields_of : Order → ℕ × (ℕ × ℕ)
fields_of FwdWrCrc = (0, (0, 0))
fields_of FwdWr = (0, (0, 0))
fields_of (FwdWrEndCrc ends) = (ends, (0, 0))
fields_of (FwdWrEnd ends) = (ends, (0, 0))
fields_of (FwdRdEndCrc ends) = (ends, (0, 0))
fields_of (FwdRdEnd ends) = (ends, (0, 0))
fields_of (DataRdCrc count) = (0, (0, count))
fields_of (DataRd count) = (0, (0, count))
fields_of (RegWrCrc address) = (0, (address, 0))
fields_of (RegWr address) = (0, (address, 0))
fields_of (RegRdCrc address count) = (0, (address, count))
fields_of (RegRd address count) = (0, (address, count))
fields_of SoftResetCrc = (0, (0, 0))

abbrev ends_of : Order → ℕ
ends_of o = (fields_of o).0

abbrev address_of : Order → ℕ
address_of o = (fields_of o).1.0

abbrev count_of : Order → ℕ
count_of o = (fields_of o).1.1

-- the numbers are those of what they name
abbrev Back : ℕ → ℕ → ℕ → ℕ → Option Order → Type 0
Back n e a c None = Unit {0}
Back n e a c (Some o) = ((n ≡ number_of o) × (e ≡ ends_of o)) × ((a ≡ address_of o) × (c ≡ count_of o))

module _ (e a c : ℕ) where
  zero_is : (n : ℕ) → eqb n 0 ≡ true → n ≡ 0
  zero_is n t = eqb-true n 0 t

  -- three fields that must be 0, two, one
  none : (n : ℕ) (o : Order) → (n ≡ number_of o) → (ends_of o ≡ 0) → (address_of o ≡ 0) → (count_of o ≡ 0)
      → Back n e a c (pick (eqb e 0 && eqb a 0 && eqb c 0) (Some o) None)
  none n o k p q r =
      pick_keeps (Back n e a c) (eqb e 0 && eqb a 0 && eqb c 0) _ _
      (λ t. (
        (k, zero_is e (and_l (eqb e 0) (eqb a 0) (and_l (eqb e 0 && eqb a 0) (eqb c 0) t)) ∙ sym p),
        (
          zero_is a (and_r (eqb e 0) (eqb a 0) (and_l (eqb e 0 && eqb a 0) (eqb c 0) t)) ∙ sym q,
          zero_is c (and_r (eqb e 0 && eqb a 0) (eqb c 0) t) ∙ sym r,
        ),
      ))
      (λ t. tt)

  of_ends : (n : ℕ) (o : Order) → (n ≡ number_of o) → (e ≡ ends_of o) → (address_of o ≡ 0) → (count_of o ≡ 0)
      → Back n e a c (pick (eqb a 0 && eqb c 0) (Some o) None)
  of_ends n o k p q r =
      pick_keeps (Back n e a c) (eqb a 0 && eqb c 0) _ _
      (λ t. ((k, p), (zero_is a (and_l (eqb a 0) (eqb c 0) t) ∙ sym q, zero_is c (and_r (eqb a 0) (eqb c 0) t) ∙ sym r)))
      (λ t. tt)

  of_count : (n : ℕ) (o : Order) → (n ≡ number_of o) → (ends_of o ≡ 0) → (address_of o ≡ 0) → (c ≡ count_of o)
      → Back n e a c (pick (eqb e 0 && eqb a 0) (Some o) None)
  of_count n o k p q r =
      pick_keeps (Back n e a c) (eqb e 0 && eqb a 0) _ _
      (λ t. ((k, zero_is e (and_l (eqb e 0) (eqb a 0) t) ∙ sym p), (zero_is a (and_r (eqb e 0) (eqb a 0) t) ∙ sym q, r)))
      (λ t. tt)

  of_address : (n : ℕ) (o : Order) → (n ≡ number_of o) → (ends_of o ≡ 0) → (a ≡ address_of o) → (count_of o ≡ 0)
      → Back n e a c (pick (eqb e 0 && eqb c 0) (Some o) None)
  of_address n o k p q r =
      pick_keeps (Back n e a c) (eqb e 0 && eqb c 0) _ _
      (λ t. ((k, zero_is e (and_l (eqb e 0) (eqb c 0) t) ∙ sym p), (q, zero_is c (and_r (eqb e 0) (eqb c 0) t) ∙ sym r)))
      (λ t. tt)

  of_span : (n : ℕ) (o : Order) → (n ≡ number_of o) → (ends_of o ≡ 0) → (a ≡ address_of o) → (c ≡ count_of o)
      → Back n e a c (pick (eqb e 0) (Some o) None)
  of_span n o k p q r = pick_keeps (Back n e a c) (eqb e 0) _ _ (λ t. ((k, zero_is e t ∙ sym p), (q, r))) (λ t. tt)

  back : (n : ℕ) → Back n e a c (order_of n e a c)
  unfolding order_of rows
  back zero = tt
  back (suc zero) = tt
  back (suc (suc zero)) = none 2 FwdWrCrc refl refl refl refl
  back (suc (suc (suc zero))) = none 3 FwdWr refl refl refl refl
  back (suc (suc (suc (suc zero)))) = of_ends 4 (FwdWrEndCrc e) refl refl refl refl
  back (suc (suc (suc (suc (suc zero))))) = of_ends 5 (FwdWrEnd e) refl refl refl refl
  back (suc (suc (suc (suc (suc (suc zero)))))) = of_ends 6 (FwdRdEndCrc e) refl refl refl refl
  back (suc (suc (suc (suc (suc (suc (suc zero))))))) = of_ends 7 (FwdRdEnd e) refl refl refl refl
  back (suc (suc (suc (suc (suc (suc (suc (suc zero)))))))) = of_count 8 (DataRdCrc c) refl refl refl refl
  back (suc (suc (suc (suc (suc (suc (suc (suc (suc zero))))))))) = of_count 9 (DataRd c) refl refl refl refl
  back (suc (suc (suc (suc (suc (suc (suc (suc (suc (suc zero)))))))))) = of_address 10 (RegWrCrc a) refl refl refl refl
  back (suc (suc (suc (suc (suc (suc (suc (suc (suc (suc (suc zero))))))))))) = of_address 11 (RegWr a) refl refl refl refl
  back (suc (suc (suc (suc (suc (suc (suc (suc (suc (suc (suc (suc zero)))))))))))) = of_span 12 (RegRdCrc a c) refl refl refl refl
  back (suc (suc (suc (suc (suc (suc (suc (suc (suc (suc (suc (suc (suc zero))))))))))))) = of_span 13 (RegRd a c) refl refl refl refl
  back (suc (suc (suc (suc (suc (suc (suc (suc (suc (suc (suc (suc (suc (suc zero)))))))))))))) = none 14 SoftResetCrc refl refl refl refl
  back (suc (suc (suc (suc (suc (suc (suc (suc (suc (suc (suc (suc (suc (suc (suc n))))))))))))))) = tt

-- an order by its numbers
named : (o : Order) → order_of (number_of o) (ends_of o) (address_of o) (count_of o) ≡ Some o
unfolding order_of rows pick
named FwdWrCrc = refl
named FwdWr = refl
named (FwdWrEndCrc ends) = refl
named (FwdWrEnd ends) = refl
named (FwdRdEndCrc ends) = refl
named (FwdRdEnd ends) = refl
named (DataRdCrc count) = refl
named (DataRd count) = refl
named (RegWrCrc address) = refl
named (RegWr address) = refl
named (RegRdCrc address count) = refl
named (RegRd address count) = refl
named SoftResetCrc = refl

pub numbered : (o : Order) → Numbers o
numbered o = record {
  ends = ends_of o;
  address = address_of o;
  count = count_of o;
  is = named o;
  only = λ n e a c k. subst (Back n e a c) k (back e a c n);
}
