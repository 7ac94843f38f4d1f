-- The definition, bit by bit, against pieces of n bits by a table: one proof for every width. Assumes nothing.
use mathlib.Core.Path.{◌≡◌, refl, sym, ap, ap₂, ◌∙◌, subst}
use mathlib.Core.Bool.{Bool}
use Prim.Native.Nat.{ℕ, zero, suc, ◌+◌, ◌-◌, ◌*◌, ◌/◌, ◌%◌, ◌^◌, ◌<◌}
use native.Mathlib.Nat.{add-zero, add-suc, add_comm, add-mul, mul-zero, mul-suc, mul_assoc, mul-mod_left, mod-lt, mod-one, zero-mul, pow-suc, pow-succ', zero-lt-suc}
use native.Mathlib.Omega.{arith}
use lib.Pow.{pow-add, pow_pos, shl_lt, shl-shr, shr-shr}
use lib.Arith.{mod-mul}
use lib.Bits.{bit_xor, xor_lt, xor_zero_r}
use Rattle.base.specs.Bits.{val, bit, high_first, val_odd}
use Rattle.crc16.specs.Crc.{shift, shifts, crc_bit, crc_bits, crc_word}
use Rattle.crc16.specs.Tables.{entry_of, fed, fed_pieces, by_nibbles, by_bytes}
use Rattle.crc16.proofs.Linear.{shifts_lt, rest_up, to_piece}
use Rattle.crc16.proofs.Laws.{bit_lt}

-- the lowest n + 1 bits of m at the top of a word: bit n is the top bit, and the rest follows
module _ (n k m : ℕ) (e : n + k ≡ 15) where
  seam : 2 ^ n * 2 ^ k ≡ 32768
  seam = sym (pow-add 2 n k) ∙ ap (λ (j : ℕ). 2 ^ j) e

  top : m / 2 ^ n % 2 * 32768 + m % 2 ^ n * 2 ^ k ≡ m % 2 ^ suc n * 2 ^ k
  top =
      ap (λ (j : ℕ). m / 2 ^ n % 2 * j + m % 2 ^ n * 2 ^ k) (sym seam)
      ∙ ap (λ (j : ℕ). j + m % 2 ^ n * 2 ^ k) (sym (mul_assoc (m / 2 ^ n % 2) (2 ^ n) (2 ^ k)))
      ∙ sym (ap (λ (j : ℕ). m % j * 2 ^ k) (pow-succ' 2 n) ∙ ap (λ (j : ℕ). j * 2 ^ k) (mod-mul m (zero-lt-suc 1) (pow_pos n))
      ∙ add-mul (m / 2 ^ n % 2 * 2 ^ n) (m % 2 ^ n) (2 ^ k))

  rest_lt : m % 2 ^ n * 2 ^ k < 32768
  rest_lt = subst (λ (j : ℕ). m % 2 ^ n * 2 ^ k < 2 ^ j) e (shl_lt n k (mod-lt m (pow_pos n)))

  bit_in : (c : ℕ) (b : Bool) → val b ≡ m / 2 ^ n % 2 → c < 65536
      → bit_xor (crc_bit c b) (m % 2 ^ n * 2 ^ suc k) ≡ shift (bit_xor c (m % 2 ^ suc n * 2 ^ k))
  unfolding crc_bit
  bit_in c b v h =
      ap₂ (λ (x y : ℕ). bit_xor (shift (bit_xor c (x * 32768))) y) v
      (ap (λ (x : ℕ). m % 2 ^ n * x) (pow-suc 2 k) ∙ sym (mul_assoc (m % 2 ^ n) (2 ^ k) 2))
      ∙ rest_up c (m / 2 ^ n % 2) (m % 2 ^ n * 2 ^ k) h (omega arith) rest_lt
      ∙ ap (λ (x : ℕ). shift (bit_xor c x)) top

val_bit : (j n w : ℕ) → val (bit (j + n) w) ≡ w / 2 ^ j / 2 ^ n % 2
unfolding bit
val_bit j n w = val_odd (w / 2 ^ (j + n)) ∙ ap (λ (m : ℕ). m % 2) (sym (shr-shr w j n))

-- n bits of w, those above its lowest j, go into the CRC at once
bits_in : (n k j c w : ℕ) → n + k ≡ 16 → c < 65536
    → crc_bits c (high_first (j + n) w) ≡ crc_bits (shifts n (bit_xor c (w / 2 ^ j % 2 ^ n * 2 ^ k))) (high_first j w)
unfolding crc_bits shifts high_first
bits_in zero k j c w e h = rw (mod-one, zero-mul, xor_zero_r, add-zero)
bits_in (suc n) k j c w e h =
    rw add-suc
    (bits_in n (suc k) j (crc_bit c (bit (j + n) w)) w (omega arith) (bit_lt c (bit (j + n) w) h)
    ∙ ap (λ (m : ℕ). crc_bits (shifts n m) (high_first j w))
    (bit_in n k (w / 2 ^ j) (omega arith) c (bit (j + n) w) (val_bit j n w) h))

module _ (n k : ℕ) (e : n + k ≡ 16) where
  moved : (c : ℕ) → c * 2 ^ n % 65536 ≡ c % 2 ^ k * 2 ^ n
  moved c =
      ap (λ (j : ℕ). c * 2 ^ n % 2 ^ j) (sym e ∙ add_comm n k) ∙ ap (λ (m : ℕ). c * 2 ^ n % m) (pow-add 2 k n)
      ∙ mod-mul (c * 2 ^ n) (pow_pos k) (pow_pos n) ∙ rw (shl-shr, mul-mod_left, add-zero)

  -- n bits by the table are these bits added to the top and n shifts
  fed_is : (c p : ℕ) → c < 65536 → p < 2 ^ n → fed n c p ≡ shifts n (bit_xor c (p * 2 ^ k))
  unfolding fed entry_of
  fed_is c p hc hp =
      let q : 16 - n ≡ k = omega arith in
      rw (q, moved c) (to_piece n k e c p _ hc hp refl)

  -- a lookup, and the rest moved up
  pub piece_in : (c p x : ℕ) → x ≡ entry_of n (bit_xor (c / 2 ^ k) p) → bit_xor (c % 2 ^ k * 2 ^ n) x ≡ fed n c p
  unfolding fed
  piece_in c p x h = let q : 16 - n ≡ k = omega arith in rw (h, q, moved c) refl

  fed_lt : (c p : ℕ) → c < 65536 → p < 2 ^ n → fed n c p < 65536
  fed_lt c p hc hp =
      let up : p * 2 ^ k < 65536 = subst (λ (j : ℕ). p * 2 ^ k < 2 ^ j) e (shl_lt n k hp) in
      rw (fed_is c p hc hp) (shifts_lt n _ (xor_lt 16 c (p * 2 ^ k) hc up))

  -- the j lowest pieces are the n * j lowest bits
  pub pieces_in : (j c w : ℕ) → c < 65536 → fed_pieces n j c w ≡ crc_bits c (high_first (n * j) w)
  unfolding fed_pieces crc_bits high_first
  pieces_in zero c w h = rw mul-zero refl
  pieces_in (suc j) c w h =
      let l : w / 2 ^ (n * j) % 2 ^ n < 2 ^ n = mod-lt (w / 2 ^ (n * j)) (pow_pos n) in
      pieces_in j (fed n c (w / 2 ^ (n * j) % 2 ^ n)) w (fed_lt c _ h l)
      ∙ ap (λ (m : ℕ). crc_bits m (high_first (n * j) w)) (fed_is c _ h l)
      ∙ sym (ap (λ (m : ℕ). crc_bits c (high_first m w)) (mul-suc n j) ∙ bits_in n k (n * j) c w e h)

-- both tables give the CRC of a word
pub by_nibbles_lem : (c w : ℕ) → c < 65536 → by_nibbles c w ≡ crc_word c w
unfolding by_nibbles crc_word
by_nibbles_lem c w h = pieces_in 4 12 refl 4 c w h

pub by_bytes_lem : (c w : ℕ) → c < 65536 → by_bytes c w ≡ crc_word c w
unfolding by_bytes crc_word
by_bytes_lem c w h = pieces_in 8 8 refl 2 c w h
