-- The ticks of a sender whose bits are still under way in the chain, oldest first. Assumes nothing.
use mathlib.Core.Path.{◌≡◌, refl, subst}
use mathlib.Core.Bool.{Bool, true}
use mathlib.Core.List.{List, [], ◌∷◌, ◌++◌}
use Prim.Native.Nat.{ℕ, suc, ◌+◌, ◌-◌, ◌≤◌}
use native.Mathlib.Omega.{arith}
use lib.ListN.{length}
use Rattle.state.specs.Sending.{idle}
use Rattle.state.specs.declared.Sender.{Sender}
use Rattle.echoes.proofs.Hearing.{Step, rest}

-- From the sender whose bits have all come back to the sender now. Of these ticks n began a command with words, and behind the first so many,
-- the lag, the sender was idle.
pub data Path : Sender → List Bool → Sender → ℕ → ℕ → Type 0 where
  here : (t : Sender) → Path t [] t 0 0
  busy : (s : Sender) (b : Bool) (u : Sender) (j : ℕ) (bs : List Bool) (t : Sender) (n g : ℕ) → Step s b u j → Path u bs t n g
      → Path s (b ∷ bs) t (j + n) (suc g)
  calm : (s u : Sender) (bs : List Bool) (t : Sender) (n : ℕ) → idle s ≡ true → idle u ≡ true → Path u bs t n 0 → Path s (true ∷ bs) t n 0

pub lag_le : (s : Sender) (bs : List Bool) (t : Sender) (n g : ℕ) → Path s bs t n g → g ≤ length bs
lag_le s bs t n g (here _) = omega arith
lag_le s bs t n g (busy _ b u j bs' _ m h st p) = let k : h ≤ length bs' = lag_le u bs' t m h p in omega arith
lag_le s bs t n g (calm _ u bs' _ _ i k p) = omega arith

-- with no lag nothing was begun, and the sender whose bits came back was idle where the one now is
pub none_begun : (s : Sender) (bs : List Bool) (t : Sender) (n g : ℕ) → Path s bs t n g → g ≡ 0 → (n ≡ 0) × (idle t ≡ true → idle s ≡ true)
none_begun s bs t n g (here _) z = (refl, λ i. i)
none_begun s bs t n g (busy _ b u j bs' _ m h st p) z = absurd (omega arith)
none_begun s bs t n g (calm _ u bs' _ _ i k p) z = ((none_begun u bs' t n 0 p refl).0, λ x. i)

-- One tick more.
pub record Longer (s : Sender) (bs : List Bool) (t : Sender) (n : ℕ) : Type 0 where
  pub lag : ℕ
  pub path : Path s bs t n lag

pub longer : (s : Sender) (bs : List Bool) (t : Sender) (n g : ℕ) (b : Bool) (u : Sender) (j : ℕ) → Path s bs t n g → Step t b u j
    → Longer s (bs ++ (b ∷ [])) u (n + j)
longer s bs t n g b u j (here _) st =
    let e : j + 0 ≡ 0 + j = omega arith in record { lag = 1; path = subst (λ (m : ℕ). Path s (b ∷ []) u m 1) e (busy s b u j [] u 0 0 st (here u)) }
longer s bs t n g b u j (busy _ x v i bs' _ m h so p) st =
    let o : Longer v (bs' ++ (b ∷ [])) u (m + j) = longer v bs' t m h b u j p st in
    let e : i + (m + j) ≡ i + m + j = omega arith in
    record { lag = suc o.lag; path = subst (λ (y : ℕ). Path s (x ∷ (bs' ++ (b ∷ []))) u y (suc o.lag)) e (busy s x v i (bs' ++ (b ∷ [])) u (m + j) o.lag so o.path) }
longer s bs t n g b u j (calm _ v bs' _ _ i k p) st =
    let o : Longer v (bs' ++ (b ∷ [])) u (n + j) = longer v bs' t n 0 b u j p st in
    let e : 0 + (n + j) ≡ n + j = omega arith in
    record { lag = suc o.lag; path = subst (λ (y : ℕ). Path s (true ∷ (bs' ++ (b ∷ []))) u y (suc o.lag)) e (busy s true v 0 (bs' ++ (b ∷ [])) u (n + j) o.lag (rest s v i k) o.path) }

-- One more of an idle sender: the lag is what it was.
pub calmer : (s : Sender) (bs : List Bool) (t : Sender) (n g : ℕ) (u : Sender) → Path s bs t n g → idle t ≡ true → idle u ≡ true
    → Path s (bs ++ (true ∷ [])) u n g
calmer s bs t n g u (here _) i k = calm s u [] u 0 i k (here u)
calmer s bs t n g u (busy _ b v j bs' _ m h st p) i k = busy s b v j (bs' ++ (true ∷ [])) u m h st (calmer v bs' t m h u p i k)
calmer s bs t n g u (calm _ v bs' _ _ x y p) i k = calm s v (bs' ++ (true ∷ [])) u n x y (calmer v bs' t n 0 u p i k)

-- The oldest bit comes back.
pub record Back (s : Sender) (b : Bool) (bs : List Bool) (t : Sender) (n g : ℕ) : Type 0 where
  pub then : Sender
  pub begins : ℕ
  pub others : ℕ
  pub lag : ℕ
  pub step : Step s b then begins
  pub path : Path then bs t others lag
  pub sum : n ≡ begins + others
  pub less : lag ≤ g - 1

pub back : (s : Sender) (b : Bool) (bs : List Bool) (t : Sender) (n g : ℕ) → Path s (b ∷ bs) t n g → Back s b bs t n g
back s b bs t n g (busy _ _ u j _ _ m h st p) = record { then = u; begins = j; others = m; lag = h; step = st; path = p; sum = refl; less = omega arith }
back s b bs t n g (calm _ u _ _ _ i k p) =
    record { then = u; begins = 0; others = n; lag = 0; step = rest s u i k; path = p; sum = omega arith; less = omega arith }
