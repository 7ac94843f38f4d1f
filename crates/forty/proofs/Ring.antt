-- The chain's cells as a list of the bits under way, oldest first. Assumes nothing.
use mathlib.Core.Path.{◌≡◌, refl, ap, sym, ◌∙◌}
use mathlib.Core.Bool.{Bool, false}
use mathlib.Core.List.{List, [], ◌∷◌, ◌++◌, append_assoc, append-nil}
use Prim.Native.Nat.{ℕ, suc, ◌+◌, ◌<◌, ◌%◌}
use native.Mathlib.Omega.{arith}
use native.Mathlib.Nat.{mod-lt, mod_self, mod-eq_of_lt, zero-mod}
use native.Mathlib.Numerals.{add-one}
use native.Mathlib.Decide.{ℕ_discrete}
use lib.Dec.{eqb}
use lib.ListN.{length, length-set, length-append, length-drop, get_or, set, take, drop}
use lib.Seq.{length-take-le, drop-cons, take-suc-set, drop-set-lt, set_split, drop-length}
use borrow.Author.Tests.{ne_eqb}
use Rattle.base.specs.Pick.{pick}
use Rattle.chain.specs.Chain.{back, filled, onward}
use Rattle.echoes.proofs.Settling.{front, behind}
use Rattle.forty.specs.Traces.{under}

abbrev from : List Bool → ℕ → List Bool
from cells i = drop i cells ++ take i cells

-- a cell filled, and the place moved on
module _ (cells : List Bool) (i : ℕ) (b : Bool) (h : i < length cells) where
  from_front : front (from cells i) b ≡ get_or cells i false
  unfolding front
  from_front = rw (drop-cons cells i false h) refl

  from_behind : behind (from cells i) b ≡ (drop (suc i) cells ++ take i cells) ++ (b ∷ [])
  unfolding behind
  from_behind = rw (drop-cons cells i false h) refl

  moved : suc i < length cells → from (set cells i b) (suc i) ≡ (drop (suc i) cells ++ take i cells) ++ (b ∷ [])
  moved k = rw (drop-set-lt (suc i) cells i b (omega arith), take-suc-set cells i b h) (sym (append_assoc (drop (suc i) cells) (take i cells) (b ∷ [])))

  round : suc i ≡ length cells → set cells i b ≡ (drop (suc i) cells ++ take i cells) ++ (b ∷ [])
  round k = let e : drop (suc i) cells ≡ [] = ap (λ (n : ℕ). drop n cells) k ∙ drop-length cells in rw (set_split cells i b h, e) refl

-- what comes back, and what is under way then
pub under_front : (cells : List Bool) (oldest : ℕ) (b : Bool) → back cells oldest b ≡ front (under cells oldest) b
unfolding back under pick
under_front [] oldest b = unfold front in refl
under_front (x ∷ xs) oldest b =
    let l : oldest % length (x ∷ xs) < length (x ∷ xs) = mod-lt oldest (omega arith) in
    rw (ne_eqb (length (x ∷ xs)) 0 (λ z. omega arith)) (sym (from_front (x ∷ xs) _ b l))

under_some : (cells : List Bool) (oldest : ℕ) → 0 < length cells → under cells oldest ≡ from cells (oldest % length cells)
unfolding under
under_some [] oldest h = absurd (omega arith)
under_some (x ∷ xs) oldest h = refl

module _ (cells : List Bool) (oldest : ℕ) (b : Bool) (some : 0 < length cells) where
  abbrev n : ℕ
  n = length cells

  abbrev i : ℕ
  i = oldest % n

  filled_is : under (filled cells oldest b) (onward cells oldest) ≡ from (set cells i b) (((i + 1) % n) % n)
  unfolding filled onward pick
  filled_is =
      let z : eqb n 0 ≡ false = ne_eqb n 0 (λ e. omega arith) in
      let l : length (set cells i b) ≡ n = length-set cells i b in
      rw z (under_some (set cells i b) ((i + 1) % n) (rw l some) ∙ ap (λ (m : ℕ). from (set cells i b) (((i + 1) % n) % m)) l)

  behind_some : under (filled cells oldest b) (onward cells oldest) ≡ behind (under cells oldest) b
  behind_some =
      let l : i < n = mod-lt oldest some in
      let e : behind (under cells oldest) b ≡ (drop (suc i) cells ++ take i cells) ++ (b ∷ [])
      = ap (λ (xs : List Bool). behind xs b) (under_some cells oldest some) ∙ from_behind cells i b l in
      filled_is
      ∙ elim (ℕ_discrete (suc i) n) [
        | yes k ↦
            (let z : ((i + 1) % n) % n ≡ 0 = ap (λ (m : ℕ). (m % n) % n) (add-one i ∙ k) ∙ ap (λ (m : ℕ). m % n) (mod_self n) ∙ zero-mod n in
            rw z (append-nil (set cells i b) ∙ round cells i b l k ∙ sym e))
        | no k ↦
            (let j : suc i < n = omega arith in
            let z : ((i + 1) % n) % n ≡ suc i = ap (λ (m : ℕ). (m % n) % n) (add-one i) ∙ ap (λ (m : ℕ). m % n) (mod-eq_of_lt j) ∙ mod-eq_of_lt j in
            rw z (moved cells i b l (omega arith) ∙ sym e))
      ]

pub under_behind : (cells : List Bool) (oldest : ℕ) (b : Bool) → under (filled cells oldest b) (onward cells oldest) ≡ behind (under cells oldest) b
under_behind [] oldest b = unfold under filled onward behind pick in refl
under_behind (x ∷ xs) oldest b = behind_some (x ∷ xs) oldest b (omega arith)

pub length_under : (cells : List Bool) (oldest : ℕ) → length (under cells oldest) ≡ length cells
unfolding under
length_under [] oldest = refl
length_under (x ∷ xs) oldest =
    let i : ℕ = oldest % length (x ∷ xs) in
    let l : i < length (x ∷ xs) = mod-lt oldest (omega arith) in
    length-append (drop i (x ∷ xs)) (take i (x ∷ xs))
    ∙ omega (arith, length-drop i (x ∷ xs), length-take-le i (x ∷ xs) (omega (arith, l)), l)
