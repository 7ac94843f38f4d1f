-- A table's rule from one test that computes along the whole table: what passes at every entry holds of each. Assumes nothing.
use Rattle.std.specs.Prelude.{◌≡◌, refl, Bool, true, false, ◌&&◌, List, [], ◌∷◌, ℕ, zero, suc, ◌+◌, ◌<◌, length, get_or}
use Rattle.std.proofs.Common.{arith}
use Rattle.base.specs.Pick.{and_l, and_r}

-- the rule passes at each entry; the first of them has the number n
abbrev pub passes : {A : Type 0} → (ℕ → A → Bool) → ℕ → List A → Bool
passes rule n [] = true
passes rule n (x ∷ xs) = rule n x && passes rule (suc n) xs

module _ {A : Type 0} (rule : ℕ → A → Bool) (d : A) where
  passed : (xs : List A) (n k m : ℕ) → m ≡ n + k → passes rule n xs ≡ true → k < length xs → rule m (get_or xs k d) ≡ true
  passed [] n k m e p h = absurd (omega arith)
  passed (x ∷ xs) n zero m e p h = let q : m ≡ n = omega arith in rw q (and_l _ (passes rule (suc n) xs) p)
  passed (x ∷ xs) n (suc k) m e p h = passed xs (suc n) k m (omega arith) (and_r (rule n x) _ p) (omega arith)

  pub holds_at : (xs : List A) → passes rule 0 xs ≡ true → (k : ℕ) → k < length xs → rule k (get_or xs k d) ≡ true
  holds_at xs p k h = passed xs 0 k k (omega arith) p h
