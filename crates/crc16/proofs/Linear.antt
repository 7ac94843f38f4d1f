-- A shift of an xor is the xor of the shifts, so the steps of the bits at the top may come from a table. Assumes nothing.
use mathlib.Core.Path.{◌≡◌, refl, sym, ap, ap₂, ◌∙◌, subst}
use Prim.Native.Nat.{ℕ, zero, suc, ◌+◌, ◌*◌, ◌/◌, ◌%◌, ◌^◌, ◌≤◌, ◌<◌}
use native.Mathlib.Nat.{add-zero, add_comm, pow-succ', mul_assoc, mod-lt, div-add-mod', mul-mod_left, le-mul_of_pos_right}
use lib.Pow.{pow_pos, shl_lt, shl-shr}
use native.Mathlib.Omega.{arith}
use lib.Dec.{lit<}
use lib.Bits.{bit_xor, xor_shr, xor_mod, xor_lt, xor_block, xor_shifted, xor_comm, xor_zero_r}
use Rattle.crc16.specs.Crc.{polynomial, shift, shifts}
use Rattle.crc16.proofs.Xor.{digit, xor_assoc, xor_four}

pub shift_lt : (c : ℕ) → c < 65536 → shift c < 65536
unfolding shift
shift_lt c h = xor_lt 16 (c * 2 % 65536) (c / 32768 * polynomial) (omega arith) (omega arith)

pub shifts_lt : (n c : ℕ) → c < 65536 → shifts n c < 65536
unfolding shifts
shifts_lt zero c h = h
shifts_lt (suc n) c h = shifts_lt n (shift c) (shift_lt c h)

-- the polynomial, once, twice or never
poly : (x : ℕ) → x < 2 → (y : ℕ) → y < 2 → bit_xor x y * polynomial ≡ bit_xor (x * polynomial) (y * polynomial)
poly =
    digit (λ (x : ℕ). (y : ℕ) → y < 2 → bit_xor x y * polynomial ≡ bit_xor (x * polynomial) (y * polynomial))
    (λ y h. refl)
    (digit (λ (y : ℕ). bit_xor 1 y * polynomial ≡ bit_xor (1 * polynomial) (y * polynomial)) refl refl)

twice : (x y : ℕ) → bit_xor x y * 2 ≡ bit_xor (x * 2) (y * 2)
twice x y =
    sym (add-zero (bit_xor x y * 2)) ∙ sym (xor_block 1 x y 0 0 (lit< tt) (lit< tt))
    ∙ ap₂ (λ (p q : ℕ). bit_xor p q) (add-zero (x * 2)) (add-zero (y * 2))

linear : (a b : ℕ) → a < 65536 → b < 65536 → shift (bit_xor a b) ≡ bit_xor (shift a) (shift b)
unfolding shift
linear a b ha hb =
    ap₂ (λ (x y : ℕ). bit_xor x y) (ap (λ (m : ℕ). m % 65536) (twice a b) ∙ xor_mod (a * 2) (b * 2) 16)
    (ap (λ (m : ℕ). m * polynomial) (xor_shr a b 15) ∙ poly (a / 32768) (omega arith) (b / 32768) (omega arith))
    ∙ xor_four (a * 2 % 65536) (b * 2 % 65536) (a / 32768 * polynomial) (b / 32768 * polynomial)

linears : (n a b : ℕ) → a < 65536 → b < 65536 → shifts n (bit_xor a b) ≡ bit_xor (shifts n a) (shifts n b)
unfolding shifts
linears zero a b ha hb = refl
linears (suc n) a b ha hb =
    ap (λ (m : ℕ). shifts n m) (linear a b ha hb) ∙ linears n (shift a) (shift b) (shift_lt a ha) (shift_lt b hb)

-- with the top bit clear a shift doubles
clear : (c : ℕ) → c < 32768 → shift c ≡ c * 2
unfolding shift
clear c h =
    let t : c / 32768 ≡ 0 = omega arith in
    let l : c * 2 % 65536 ≡ c * 2 = omega arith in
    rw (t, l) (xor_zero_r (c * 2))

-- one shift of a word with top bit v and rest u: the rest only moves up
pub rest_up : (c v u : ℕ) → c < 65536 → v < 2 → u < 32768
    → bit_xor (shift (bit_xor c (v * 32768))) (u * 2) ≡ shift (bit_xor c (v * 32768 + u))
rest_up c v u hc hv hu =
    ap (λ (m : ℕ). bit_xor (shift (bit_xor c (v * 32768))) m) (sym (clear u hu))
    ∙ sym (linear (bit_xor c (v * 32768)) u (xor_lt 16 c (v * 32768) hc (omega arith)) (omega arith))
    ∙ ap shift (xor_assoc c (v * 32768) u ∙ ap (λ (m : ℕ). bit_xor c m) (xor_shifted v 15 u hu))

-- with the top n bits clear, n shifts move up
pub lows : (n b : ℕ) → b * 2 ^ n < 65536 → shifts n b ≡ b * 2 ^ n
unfolding shifts
lows zero b h = omega arith
lows (suc n) b h =
    let e : b * 2 ^ suc n ≡ b * 2 * 2 ^ n = ap (λ (m : ℕ). b * m) (pow-succ' 2 n) ∙ sym (mul_assoc b 2 (2 ^ n)) in
    let l : b * 2 ≤ b * 2 * 2 ^ n = le-mul_of_pos_right (b * 2) (pow_pos n) in
    ap (λ (m : ℕ). shifts n m) (clear b (omega arith)) ∙ lows n (b * 2) (omega arith) ∙ sym e

-- n shifts of a word, n + k being its length: the n bits at its top shifted, and the others moved up
module _ (n k : ℕ) (e : n + k ≡ 16) where
  in_word : {a : ℕ} → a < 2 ^ k → a * 2 ^ n < 65536
  in_word {a} h = subst (λ (j : ℕ). a * 2 ^ n < 2 ^ j) (add_comm k n ∙ e) (shl_lt k n h)

  split : (x : ℕ) → x < 65536 → shifts n x ≡ bit_xor (shifts n (x / 2 ^ k * 2 ^ k)) (x % 2 ^ k * 2 ^ n)
  split x h =
      let l : x % 2 ^ k < 2 ^ k = mod-lt x (pow_pos k) in
      let d : x / 2 ^ k * 2 ^ k + x % 2 ^ k ≡ x = div-add-mod' x (2 ^ k) in
      ap (λ (m : ℕ). shifts n m) (sym (xor_shifted (x / 2 ^ k) k (x % 2 ^ k) l ∙ d))
      ∙ linears n (x / 2 ^ k * 2 ^ k) (x % 2 ^ k) (omega arith) (omega arith)
      ∙ ap (λ (m : ℕ). bit_xor (shifts n (x / 2 ^ k * 2 ^ k)) m) (lows n (x % 2 ^ k) (in_word l))

  -- n bits into the CRC, by the table's entry x
  pub to_piece : (c p x : ℕ) → c < 65536 → p < 2 ^ n → x ≡ shifts n (bit_xor (c / 2 ^ k) p * 2 ^ k)
      → bit_xor (c % 2 ^ k * 2 ^ n) x ≡ shifts n (bit_xor c (p * 2 ^ k))
  to_piece c p x hc hp h =
      let up : p * 2 ^ k < 65536 = subst (λ (j : ℕ). p * 2 ^ k < 2 ^ j) e (shl_lt n k hp) in
      xor_comm (c % 2 ^ k * 2 ^ n) x ∙ ap (λ (m : ℕ). bit_xor m (c % 2 ^ k * 2 ^ n)) h
      ∙ sym (split (bit_xor c (p * 2 ^ k)) (xor_lt 16 c (p * 2 ^ k) hc up)
      ∙ ap₂ (λ (t u : ℕ). bit_xor (shifts n (t * 2 ^ k)) (u * 2 ^ n))
      (xor_shr c (p * 2 ^ k) k ∙ ap (λ (q : ℕ). bit_xor (c / 2 ^ k) q) (shl-shr p k))
      (xor_mod c (p * 2 ^ k) k ∙ ap (λ (q : ℕ). bit_xor (c % 2 ^ k) q) (mul-mod_left p (2 ^ k)) ∙ xor_zero_r (c % 2 ^ k)))
