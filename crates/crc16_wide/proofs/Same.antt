-- The two tables give one CRC (02 item 5). Assumes nothing.
use mathlib.Core.Path.{Path, ◌≡◌, refl, sym, ap, ◌∙◌}
use mathlib.Core.Bool.{true}
use Prim.Native.Nat.{ℕ, ◌*◌, ◌<◌}
use native.Mathlib.Omega.{arith}
use lib.Dec.{eqb}
use borrow.Author.Tests.{eq-eqb}
use Rattle.crc16.specs.Crc.{shifts}
use Rattle.crc16.specs.Tables.{entry_of, by_nibbles, by_bytes}
use Rattle.crc16.proofs.Linear.{lows}
use Rattle.crc16.proofs.Pieces.{by_nibbles_lem, by_bytes_lem}
use Rattle.crc16.proofs.crc_word.Reads as narrow_word
use Rattle.crc16.proofs.crc_list.Reads as narrow_list
use Rattle.crc16_wide.proofs.crc_word.Reads as wide_word
use Rattle.crc16_wide.proofs.crc_list.Reads as wide_list

-- for every CRC so far and every word
pub same : (c w : ℕ) → c < 65536 → w < 65536 → by_nibbles c w ≡ by_bytes c w
same c w h k = by_nibbles_lem c w h ∙ sym (by_bytes_lem c w h)

-- the sixteen entries are the first sixteen of the 256
pub first_sixteen : (k : ℕ) → k < 16 → entry_of 4 k ≡ entry_of 8 k
unfolding entry_of shifts
first_sixteen k h = let e : k * 4096 ≡ k * 256 * 16 = omega arith in ap (λ (m : ℕ). shifts 4 m) (e ∙ sym (lows 4 (k * 256) (omega arith)))

-- two numbers that are both a third
pub both : (m n x : ℕ) → m ≡ x → n ≡ x → eqb m n ≡ true
both m n x e f = eq-eqb m n (e ∙ sym f)

-- the contracts of the two routines, as the toolchain has them of the code, are one: for a word and for a list
pub one_contract : Path _ narrow_word.Post wide_word.Post
one_contract = refl

pub one_contract_of_lists : Path _ narrow_list.Post wide_list.Post
one_contract_of_lists = refl
