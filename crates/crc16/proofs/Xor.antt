-- Laws of xor: it is associative, and four may change places. Assumes nothing.
use mathlib.Core.Path.{◌≡◌, refl, sym, ap, ap₂, ◌∙◌}
use Prim.Native.Nat.{ℕ, zero, suc, ◌+◌, ◌*◌, ◌/◌, ◌%◌, ◌<◌}
use native.Mathlib.Nat.{mod-lt, zero-lt-suc, le_of_suc-le-suc, not-suc-le-zero}
use lib.Arith.{bin_ind}
use lib.Bits.{bit_xor, differ, xor_step, xor_shr, xor_mod, xor_comm}

-- what holds of 0 and of 1 holds of every digit
pub digit : (P : ℕ → Type 0) → P 0 → P 1 → (x : ℕ) → x < 2 → P x
digit P p q zero h = p
digit P p q (suc zero) h = q
digit P p q (suc (suc x)) h = absurd (not-suc-le-zero (le_of_suc-le-suc (le_of_suc-le-suc h)))

two_pos : zero < 2
two_pos = zero-lt-suc 1

differ_assoc : (x : ℕ) → x < 2 → (y : ℕ) → y < 2 → (z : ℕ) → z < 2 → differ (differ x y) z ≡ differ x (differ y z)
differ_assoc =
    digit (λ (x : ℕ). (y : ℕ) → y < 2 → (z : ℕ) → z < 2 → differ (differ x y) z ≡ differ x (differ y z))
    (λ y hy z hz. refl)
    (digit (λ (y : ℕ). (z : ℕ) → z < 2 → differ (differ 1 y) z ≡ differ 1 (differ y z))
    (λ z hz. refl)
    (digit (λ (z : ℕ). differ (differ 1 1) z ≡ differ 1 (differ 1 z)) refl refl))

xor_digits : (x : ℕ) → x < 2 → (y : ℕ) → y < 2 → bit_xor x y ≡ differ x y
xor_digits =
    digit (λ (x : ℕ). (y : ℕ) → y < 2 → bit_xor x y ≡ differ x y)
    (λ y hy. refl)
    (digit (λ (y : ℕ). bit_xor 1 y ≡ differ 1 y) refl refl)

low : (a b : ℕ) → bit_xor a b % 2 ≡ differ (a % 2) (b % 2)
low a b = xor_mod a b 1 ∙ xor_digits (a % 2) (mod-lt a two_pos) (b % 2) (mod-lt b two_pos)

pub xor_assoc : (a b c : ℕ) → bit_xor (bit_xor a b) c ≡ bit_xor a (bit_xor b c)
xor_assoc =
    bin_ind (λ (n : ℕ). (b c : ℕ) → bit_xor (bit_xor n b) c ≡ bit_xor n (bit_xor b c))
    (λ b c. refl)
    (λ n ih b c.
    xor_step (bit_xor n b) c
    ∙ ap₂ (λ (h l : ℕ). h * 2 + l)
    (ap (λ (m : ℕ). bit_xor m (c / 2)) (xor_shr n b 1) ∙ ih (b / 2) (c / 2)
    ∙ ap (λ (m : ℕ). bit_xor (n / 2) m) (sym (xor_shr b c 1)))
    (ap (λ (m : ℕ). differ m (c % 2)) (low n b)
    ∙ differ_assoc (n % 2) (mod-lt n two_pos) (b % 2) (mod-lt b two_pos) (c % 2) (mod-lt c two_pos)
    ∙ ap (λ (m : ℕ). differ (n % 2) m) (sym (low b c)))
    ∙ sym (xor_step n (bit_xor b c)))

pub xor_four : (a b c d : ℕ) → bit_xor (bit_xor a b) (bit_xor c d) ≡ bit_xor (bit_xor a c) (bit_xor b d)
xor_four a b c d =
    xor_assoc a b (bit_xor c d)
    ∙ ap (λ (m : ℕ). bit_xor a m) (sym (xor_assoc b c d) ∙ ap (λ (m : ℕ). bit_xor m d) (xor_comm b c) ∙ xor_assoc c b d)
    ∙ sym (xor_assoc a c (bit_xor b d))
