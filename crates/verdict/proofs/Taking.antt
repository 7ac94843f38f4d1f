-- A call-up is taken just where no refusal meets it (02 item 13). Assumes nothing.
use mathlib.Core.Path.{◌≡◌, refl}
use mathlib.Core.Bool.{true}
use Prim.Native.Nat.{ℕ, ◌≤◌}
use native.Mathlib.Omega.{arith}
use borrow.Author.Tests.{ltb-false, eqb-true, eqb-false, le-ltb, eq-eqb, ne_eqb}
use Rattle.base.specs.Pick.{pick, pick_keeps}
use Rattle.base.specs.Truth.{never}
use Rattle.state.specs.Rings.{tx_size, rx_size}
use Rattle.state.specs.declared.Bridge.{Bridge}
use Rattle.rules.specs.Sound.{sound}
use Rattle.verdict.specs.Verdicts.{is_taken, last_slot, call_up_most, is_ready, has_room, room_verdict, verdict_by, Verdict, Taken}

-- none of 1, 2, 32, 33, 34, 35 is due
pub record Finds (tx rx : ℕ) (b : Bridge) (slot n : ℕ) : Type 0 where
  pub tx_is : tx ≡ tx_size
  pub rx_is : rx ≡ rx_size
  pub sound_record : sound b ≡ true
  pub in_board : slot ≤ last_slot
  pub some : 1 ≤ n
  pub most : n ≤ call_up_most
  pub ready : is_ready b ≡ true
  pub room : has_room b n ≡ true

module _ (tx rx : ℕ) (b : Bridge) (slot n : ℕ) where
  abbrev Only : Verdict → Type 0
  Only v = is_taken v ≡ true → Finds tx rx b slot n

  pub taken_facts : is_taken (verdict_by tx rx b slot n) ≡ true → Finds tx rx b slot n
  unfolding verdict_by room_verdict
  taken_facts =
      pick_keeps Only _ _ _
      (λ t. pick_keeps Only _ _ _
      (λ r. pick_keeps Only _ _ _
      (λ s. pick_keeps Only _ _ _ (λ a e. never _ e refl)
      (λ a. pick_keeps Only _ _ _ (λ z e. never _ e refl)
      (λ z. pick_keeps Only _ _ _ (λ m e. never _ e refl)
      (λ m. pick_keeps Only _ _ _
      (λ o. pick_keeps Only _ _ _
      (λ f e.
      let some : n ≡ 0 → ⊥ = eqb-false n 0 z in
      record {
        tx_is = eqb-true _ _ t;
        rx_is = eqb-true _ _ r;
        sound_record = s;
        in_board = ltb-false last_slot slot a;
        some = omega arith;
        most = ltb-false call_up_most n m;
        ready = o;
        room = f;
      })
      (λ f e. never _ e refl))
      (λ o e. never _ e refl)))))
      (λ s e. never _ e refl))
      (λ r e. never _ e refl))
      (λ t e. never _ e refl)

  pub facts_taken : Finds tx rx b slot n → verdict_by tx rx b slot n ≡ Taken
  unfolding verdict_by room_verdict pick
  facts_taken f =
      rw (
        eq-eqb tx tx_size f.tx_is,
        eq-eqb rx rx_size f.rx_is,
        f.sound_record,
        le-ltb last_slot slot f.in_board,
        ne_eqb n 0 (λ e. omega (arith, f.some)),
        le-ltb call_up_most n f.most,
        f.ready,
        f.room,
      ) refl
