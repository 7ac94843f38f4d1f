-- What the reader hears of a piece, bit by bit: what it is in, and what the bit completed. Assumes nothing.
use mathlib.Core.Path.{◌≡◌, refl, ap, sym, ◌∙◌}
use mathlib.Core.Bool.{Bool, true, false, not, not-not}
use mathlib.Core.Logic.{◌≢◌}
use Prim.Native.Nat.{ℕ, zero, suc, ◌+◌, ◌-◌, ◌≤◌, ◌<◌, ◌/◌, ◌%◌, ◌^◌}
use native.Mathlib.Omega.{arith}
use native.Mathlib.Nat.{pow-succ'}
use native.Mathlib.Numerals.{add-one}
use lib.Dec.{ltb, eqb}
use lib.Pow.{shr-shr, shr_le}
use borrow.Author.Tests.{lt-ltb, eq-eqb, ne_eqb, ltb-false}
use Rattle.base.specs.Pick.{pick, pick_keeps}
use Rattle.base.specs.Bits.{val, odd, bit, val_le, val_odd}
use Rattle.line.specs.declared.Piece.TheVariants.{WordPiece}
use Rattle.line.specs.declared.Ear.{Ear}
use Rattle.line.specs.declared.Ear.TheVariants.{Quiet, Group, Lost}
use Rattle.line.specs.declared.Found.TheVariants.{Nothing, Word, End, CheckError}
use Rattle.line.specs.declared.Heard.{Heard}
use Rattle.line.specs.Format.{check_bit, word_bit, piece_bit}
use Rattle.line.specs.Reader.{heard, run_on, shift_in, next_number, at_check, in_group, hear}

-- A run grows by one bit at most, and stops at a 0.
pub run_le : (n : ℕ) (b : Bool) → run_on n b ≤ suc n
unfolding run_on
run_le n true = pick_keeps (λ (m : ℕ). m ≤ suc n) _ _ _ (λ h. omega arith) (λ h. omega (arith, ltb-false n 18 h))
run_le n false = omega arith

run_stops : (n : ℕ) (b : Bool) → b ≡ false → run_on n b ≡ 0
unfolding run_on
run_stops n b e = rw e

-- The number after one bit more of a word.
next_bit : (w j : ℕ) → w < 65536 → j < 16 → shift_in (w / 2 ^ (16 - j)) (bit (15 - j) w) ≡ w / 2 ^ (16 - suc j)
unfolding shift_in bit
next_bit w j k h =
    let e : 16 - j ≡ (15 - j) + 1 = omega arith in
    let d : 16 - suc j ≡ 15 - j = omega arith in
    let l : w / 2 ^ (15 - j) ≤ w = shr_le w (15 - j) in
    rw (e, d, val_odd, ← (shr-shr w (15 - j) 1)) (omega arith)

last_bit : (w j : ℕ) → odd (w / 2 ^ (16 - suc j)) ≡ bit (15 - j) w
unfolding bit
last_bit w j = let e : 16 - suc j ≡ 15 - j = omega arith in rw e

-- Bits that are all 1s, and a 1 more.
ones_on : (w j n : ℕ) → j < 16 → (j ≤ n → w / 2 ^ (16 - j) + 1 ≡ 2 ^ j)
    → suc j ≤ run_on n (bit (15 - j) w) → w / 2 ^ (16 - suc j) + 1 ≡ 2 ^ suc j
unfolding bit val
ones_on w j n h f = go (bit (15 - j) w) refl
  where
    go : (t : Bool) → bit (15 - j) w ≡ t → suc j ≤ run_on n t → w / 2 ^ (16 - suc j) + 1 ≡ 2 ^ suc j
    go true e p =
        let m : w / 2 ^ (15 - j) % 2 ≡ 1 = sym (val_odd (w / 2 ^ (15 - j))) ∙ ap val e in
        let c : 16 - j ≡ (15 - j) + 1 = omega arith in
        let d : 16 - suc j ≡ 15 - j = omega arith in
        let v : w / 2 ^ (16 - j) ≡ w / 2 ^ (15 - j) / 2 = rw (c, shr-shr w (15 - j) 1) in
        rw (d, pow-succ' 2 j) (omega (arith, f (omega (arith, run_le n true))))
    go false e p = absurd (omega (arith, run_stops n false refl))

word_bit_lem : (w j : ℕ) → j < 16 → piece_bit (WordPiece w) j ≡ bit (15 - j) w
unfolding piece_bit word_bit pick
word_bit_lem w j h = rw (lt-ltb j 16 h)

-- A bit that does not complete its group.
pub hear_in : (i v c n : ℕ) (b : Bool) → c < 16 → n ≤ suc c → hear (Group i v c n) b ≡ heard (Group i (shift_in v b) (suc c) (run_on n b)) Nothing
unfolding hear in_group pick
hear_in i v c n b h k =
    let e : eqb (run_on n b) 18 ≡ false = ne_eqb (run_on n b) 18 (λ q. omega (arith, run_le n b)) in
    let l : ltb c 16 ≡ true = lt-ltb c 16 h in
    rw (e, l, add-one)

-- The check bit.
pub hear_check : (i w n : ℕ) → (odd w ≡ false → n ≡ 0)
    → hear (Group i w 16 n) (check_bit w) ≡ heard (Group (next_number i) 0 0 (val (check_bit w))) (Word w)
unfolding check_bit hear in_group at_check run_on val pick
hear_check i w n s = go (odd w) refl
  where
    go : (t : Bool) → odd w ≡ t → hear (Group i w 16 n) (not t) ≡ heard (Group (next_number i) 0 0 (val (not t))) (Word w)
    go true e =
        let m : w % 2 ≡ 1 = sym (val_odd w) ∙ ap val e in
        rw (eq-eqb (0 + w % 2) 1 (omega arith))
    go false e =
        let m : w % 2 ≡ 0 = sym (val_odd w) ∙ ap val e in
        rw (s e, eq-eqb (1 + w % 2) 1 (omega arith))

-- In word i of a command: j of its bits heard, in a group of that value, in a run that those bits allow.
pub record InWord (i w j : ℕ) (e : Ear) : Type 0 where
  pub run : ℕ
  pub is : e ≡ Group i (w / 2 ^ (16 - j)) j run
  pub few : run ≤ suc j
  pub stop : 0 < j → odd (w / 2 ^ (16 - j)) ≡ false → run ≡ 0
  pub ones : j ≤ run → w / 2 ^ (16 - j) + 1 ≡ 2 ^ j

pub word_none : (i w : ℕ) (v : Bool) → w < 65536 → InWord i w 0 (Group i 0 0 (val v))
word_none i w v h =
    let e : w / 65536 ≡ 0 = omega arith in
    record { run = val v; is = rw e; few = val_le v; stop = λ p. absurd (omega arith); ones = λ p. omega arith }

-- a bit of the word more
pub record WordOn (i w j : ℕ) (h : Heard) : Type 0 where
  pub ear : Ear
  pub is : h ≡ heard ear Nothing
  pub in_word : InWord i w (suc j) ear

pub word_on : (i w j : ℕ) (e : Ear) → w < 65536 → j < 16 → InWord i w j e → WordOn i w j (hear e (piece_bit (WordPiece w) j))
word_on i w j e k h g =
    record {
      ear = Group i (w / 2 ^ (16 - suc j)) (suc j) (run_on g.run (bit (15 - j) w));
      is = rw (g.is, word_bit_lem w j h, hear_in i (w / 2 ^ (16 - j)) j g.run (bit (15 - j) w) h g.few, next_bit w j k h) refl;
      in_word = record {
        run = run_on g.run (bit (15 - j) w);
        is = refl;
        few = omega (arith, run_le g.run (bit (15 - j) w), g.few);
        stop = λ p q. run_stops g.run (bit (15 - j) w) (sym (last_bit w j) ∙ q);
        ones = ones_on w j g.run h g.ones;
      };
    }

-- after a word's sixteen bits
pub sixteen : (i w : ℕ) (e : Ear) (g : InWord i w 16 e) → e ≡ Group i w 16 g.run
sixteen i w e g = let d : w / 1 ≡ w = omega arith in g.is ∙ ap (λ (x : ℕ). Group i x 16 g.run) d

pub word_end_lem : (i w : ℕ) (e : Ear) → InWord i w 16 e
    → hear e (piece_bit (WordPiece w) 16) ≡ heard (Group (next_number i) 0 0 (val (check_bit w))) (Word w)
word_end_lem i w e g =
    let d : w / 1 ≡ w = omega arith in
    let c : piece_bit (WordPiece w) 16 ≡ check_bit w = unfold piece_bit word_bit pick in refl in
    rw (sixteen i w e g, c) (hear_check i w g.run (λ q. g.stop (omega arith) (rw d q)))

-- the check bit changed, of a word that is not all 1s
pub word_wrong : (i w : ℕ) (e : Ear) (g : InWord i w 16 e) → w ≢ 65535
    → hear e (not (check_bit w)) ≡ heard (Lost (run_on g.run (odd w))) (CheckError i)
unfolding check_bit hear in_group at_check pick
word_wrong i w e g k =
    let l = run_le g.run (odd w) in
    let r : eqb (run_on g.run (odd w)) 18 ≡ false = ne_eqb (run_on g.run (odd w)) 18 (λ q. omega (arith, g.ones (omega arith))) in
    rw (sixteen i w e g, not-not (odd w), r, val_odd w, ne_eqb (w % 2 + w % 2) 1 (λ q. omega arith), ne_eqb w 65535 k)

-- In an END that comes where word i could: the ear after n 1s, where the bit before was v.
unfoldable pub listen : ℕ → Bool → ℕ → Ear
listen i v zero = Group i 0 0 (val v)
listen i v (suc n) = (hear (listen i v n) true).ear

-- sixteen 1s complete nothing
pub end_on : (i : ℕ) (v : Bool) (j : ℕ) → j < 16 → hear (listen i v j) true ≡ heard (listen i v (suc j)) Nothing
unfolding listen hear in_group at_check run_on shift_in val pick
end_on i true zero h = refl
end_on i true (suc zero) h = refl
end_on i true (suc (suc zero)) h = refl
end_on i true (suc (suc (suc zero))) h = refl
end_on i true (suc (suc (suc (suc zero)))) h = refl
end_on i true (suc (suc (suc (suc (suc zero))))) h = refl
end_on i true (suc (suc (suc (suc (suc (suc zero)))))) h = refl
end_on i true (suc (suc (suc (suc (suc (suc (suc zero))))))) h = refl
end_on i true (suc (suc (suc (suc (suc (suc (suc (suc zero)))))))) h = refl
end_on i true (suc (suc (suc (suc (suc (suc (suc (suc (suc zero))))))))) h = refl
end_on i true (suc (suc (suc (suc (suc (suc (suc (suc (suc (suc zero)))))))))) h = refl
end_on i true (suc (suc (suc (suc (suc (suc (suc (suc (suc (suc (suc zero))))))))))) h = refl
end_on i true (suc (suc (suc (suc (suc (suc (suc (suc (suc (suc (suc (suc zero)))))))))))) h = refl
end_on i true (suc (suc (suc (suc (suc (suc (suc (suc (suc (suc (suc (suc (suc zero))))))))))))) h = refl
end_on i true (suc (suc (suc (suc (suc (suc (suc (suc (suc (suc (suc (suc (suc (suc zero)))))))))))))) h = refl
end_on i true (suc (suc (suc (suc (suc (suc (suc (suc (suc (suc (suc (suc (suc (suc (suc zero))))))))))))))) h = refl
end_on i true (suc (suc (suc (suc (suc (suc (suc (suc (suc (suc (suc (suc (suc (suc (suc (suc j)))))))))))))))) h = absurd (omega arith)
end_on i false zero h = refl
end_on i false (suc zero) h = refl
end_on i false (suc (suc zero)) h = refl
end_on i false (suc (suc (suc zero))) h = refl
end_on i false (suc (suc (suc (suc zero)))) h = refl
end_on i false (suc (suc (suc (suc (suc zero))))) h = refl
end_on i false (suc (suc (suc (suc (suc (suc zero)))))) h = refl
end_on i false (suc (suc (suc (suc (suc (suc (suc zero))))))) h = refl
end_on i false (suc (suc (suc (suc (suc (suc (suc (suc zero)))))))) h = refl
end_on i false (suc (suc (suc (suc (suc (suc (suc (suc (suc zero))))))))) h = refl
end_on i false (suc (suc (suc (suc (suc (suc (suc (suc (suc (suc zero)))))))))) h = refl
end_on i false (suc (suc (suc (suc (suc (suc (suc (suc (suc (suc (suc zero))))))))))) h = refl
end_on i false (suc (suc (suc (suc (suc (suc (suc (suc (suc (suc (suc (suc zero)))))))))))) h = refl
end_on i false (suc (suc (suc (suc (suc (suc (suc (suc (suc (suc (suc (suc (suc zero))))))))))))) h = refl
end_on i false (suc (suc (suc (suc (suc (suc (suc (suc (suc (suc (suc (suc (suc (suc zero)))))))))))))) h = refl
end_on i false (suc (suc (suc (suc (suc (suc (suc (suc (suc (suc (suc (suc (suc (suc (suc zero))))))))))))))) h = refl
end_on i false (suc (suc (suc (suc (suc (suc (suc (suc (suc (suc (suc (suc (suc (suc (suc (suc j)))))))))))))))) h = absurd (omega arith)

-- "A group of seventeen 1s is END if it makes or the next bit makes 18": after a 1 the seventeenth is, after a 0 the eighteenth.
pub end_after_one : (i : ℕ) → hear (listen i true 16) true ≡ heard Quiet End
unfolding listen hear in_group at_check run_on shift_in val pick
end_after_one i = refl

pub end_on_zero : (i : ℕ) → hear (listen i false 16) true ≡ heard (listen i false 17) Nothing
unfolding listen hear in_group at_check run_on shift_in val pick
end_on_zero i = refl

pub end_after_zero : (i : ℕ) → hear (listen i false 17) true ≡ heard Quiet End
unfolding listen hear in_group at_check run_on shift_in val pick
end_after_zero i = refl
