-- The call-ups of a list of numbers, and the ticks of a shift (02 item 13). Assumes nothing.
use mathlib.Core.Path.{◌≡◌, refl, sym, ◌∙◌, ap, ap₂}
use mathlib.Core.Bool.{Bool, true, false}
use mathlib.Core.List.{List, [], ◌∷◌, ◌++◌, append_assoc}
use Prim.Native.Nat.{ℕ, zero, suc, ◌+◌, ◌-◌, ◌≤◌, ◌<◌}
use native.Mathlib.Omega.{arith}
use lib.ListN.{length, get_or, take, drop, length-append}
use lib.Seq.{take-append_seam, drop-append-add, get_or-append_seam, get_or-append-add}
use borrow.Author.Tests.{ltb-true, lt-ltb, le-ltb}
use Rattle.base.specs.Pick.{pick, pick_keeps}
use Rattle.board.specs.declared.Board.{Board}
use Rattle.chain.specs.Chain.{Moment}
use Rattle.chain.specs.Waits.{waiting, wait_from}
use Rattle.chain.specs.declared.Goal.{Goal}
use Rattle.chain.specs.declared.Goal.TheVariants.{Room, Sent}
use Rattle.chain.proofs.Waits.{wait_ticks}
use Rattle.shift.specs.Shifts.{offer_of, Due, is_cut, cut_due, due_at, due_after, dues_by, dues_in, cells_of, Shifting, taken_after, next_offer, shift_from}

abbrev whole_due : List ℕ → ℕ → Due
whole_due cells at =
    record { slot = get_or cells at 0; reading = get_or cells (at + 1) 0; words = take (get_or cells (at + 2) 0) (drop (at + 3) cells) }

module _ (cells : List ℕ) (at : ℕ) where
  -- one that is cut
  pub due_cut : is_cut cells at ≡ true → due_at cells at ≡ cut_due (get_or cells at 0)
  unfolding due_at pick
  due_cut h = rw h

  pub after_cut : is_cut cells at ≡ true → due_after cells at ≡ length cells
  unfolding due_after pick
  after_cut h = rw h

  -- one that is not
  pub due_whole : is_cut cells at ≡ false → due_at cells at ≡ whole_due cells at
  unfolding due_at pick
  due_whole h = rw h

  pub after_whole : is_cut cells at ≡ false → due_after cells at ≡ at + 3 + get_or cells (at + 2) 0
  unfolding due_after pick
  after_whole h = rw h

  pub is_short : length cells < at + 3 → is_cut cells at ≡ true
  unfolding is_cut
  is_short h = rw (lt-ltb (length cells) (at + 3) h)

  pub is_cut_lem : at + 3 ≤ length cells → length cells < at + 3 + get_or cells (at + 2) 0 → is_cut cells at ≡ true
  unfolding is_cut
  is_cut_lem h k = rw (le-ltb (length cells) (at + 3) h, lt-ltb (length cells) (at + 3 + get_or cells (at + 2) 0) k)

  pub is_whole : at + 3 + get_or cells (at + 2) 0 ≤ length cells → is_cut cells at ≡ false
  unfolding is_cut
  is_whole h = rw (le-ltb (length cells) (at + 3) (omega arith), le-ltb (length cells) (at + 3 + get_or cells (at + 2) 0) h)

  -- the next begins behind it
  pub after_later : at < length cells → at < due_after cells at
  unfolding due_after
  after_later h = pick_keeps (λ (n : ℕ). at < n) _ _ _ (λ t. h) (λ t. omega arith)

-- Enough is enough: each takes at least a cell.
none_there : (cells : List ℕ) (n at : ℕ) → length cells ≤ at → dues_by n cells at ≡ []
unfolding dues_by pick
none_there cells zero at h = refl
none_there cells (suc n) at h = rw (le-ltb at (length cells) h)

same_pick : {A : Type 0} (t : Bool) (x y z : A) → (t ≡ true → x ≡ y) → pick t x z ≡ pick t y z
unfolding pick
same_pick true x y z f = f refl
same_pick false x y z f = refl

pub dues_same : (cells : List ℕ) (n m at : ℕ) → length cells ≤ at + n → length cells ≤ at + m → dues_by n cells at ≡ dues_by m cells at
unfolding dues_by
dues_same cells zero m at h k = sym (none_there cells m at (omega arith))
dues_same cells (suc n) zero at h k = none_there cells (suc n) at (omega arith)
dues_same cells (suc n) (suc m) at h k =
    same_pick _ _ _ _
    (λ t.
    let l : at < due_after cells at = after_later cells at (ltb-true _ _ t) in
    ap (λ (ds : List Due). due_at cells at ∷ ds) (dues_same cells n m (due_after cells at) (omega arith) (omega arith)))

-- those from a cell on
abbrev pub dues_left : List ℕ → ℕ → List Due
dues_left cells at = dues_by (length cells - at) cells at

pub dues_next : (cells : List ℕ) (at : ℕ) → at < length cells → dues_left cells at ≡ due_at cells at ∷ dues_left cells (due_after cells at)
unfolding dues_by pick
dues_next cells at h =
    let n : ℕ = length cells - (at + 1) in
    let s : length cells - at ≡ suc n = omega arith in
    let l : at < due_after cells at = after_later cells at h in
    ap (λ (k : ℕ). dues_by k cells at) s
    ∙ rw (lt-ltb at (length cells) h)
    (ap (λ (ds : List Due). due_at cells at ∷ ds)
    (dues_same cells n (length cells - due_after cells at) (due_after cells at) (omega arith) (omega arith)))

-- What `cells_of` writes is read again.
module _ (pre : List ℕ) (d : Due) (rest : List ℕ) where
  abbrev mine : List ℕ
  mine = d.slot ∷ d.reading ∷ length d.words ∷ (d.words ++ rest)

  abbrev all : List ℕ
  all = pre ++ mine

  count_there : get_or all (length pre + 2) 0 ≡ length d.words
  count_there = get_or-append-add pre mine 2 0

  all_length : length all ≡ length pre + 3 + length d.words + length rest
  all_length = omega (arith, length-append pre mine, length-append d.words rest)

  whole_there : is_cut all (length pre) ≡ false
  whole_there = is_whole all (length pre) (omega (arith, count_there, all_length))

  due_there : due_at all (length pre) ≡ d
  due_there =
      due_whole all (length pre) whole_there
      ∙ (λ i. record { slot = slot_is i; reading = reading_is i; words = words_is i })
    where
      slot_is : get_or all (length pre) 0 ≡ d.slot
      slot_is = get_or-append_seam pre d.slot _ 0

      reading_is : get_or all (length pre + 1) 0 ≡ d.reading
      reading_is = get_or-append-add pre mine 1 0

      words_is : take (get_or all (length pre + 2) 0) (drop (length pre + 3) all) ≡ d.words
      words_is = rw (count_there, drop-append-add pre mine 3) (take-append_seam d.words rest)

  after_there : due_after all (length pre) ≡ length pre + 3 + length d.words
  after_there = after_whole all (length pre) whole_there ∙ ap (λ (n : ℕ). length pre + 3 + n) count_there

dues_there : (ds : List Due) (pre : List ℕ) (n : ℕ) → length (cells_of ds) ≤ n → dues_by n (pre ++ cells_of ds) (length pre) ≡ ds
unfolding dues_by cells_of pick
dues_there [] pre n h = none_there (pre ++ []) n (length pre) (omega (arith, length-append pre []))
dues_there (d ∷ ds) pre zero h = absurd (omega arith)
dues_there (d ∷ ds) pre (suc n) h =
    let one : List ℕ = d.slot ∷ d.reading ∷ length d.words ∷ d.words in
    let front : List ℕ = pre ++ one in
    let p : length front ≡ length pre + 3 + length d.words = omega (arith, length-append pre one) in
    let e : front ++ cells_of ds ≡ pre ++ cells_of (d ∷ ds) = append_assoc pre one (cells_of ds) in
    rw (lt-ltb (length pre) (length (pre ++ cells_of (d ∷ ds))) (omega (arith, all_length pre d (cells_of ds))))
    (ap₂ (λ (x : Due) (xs : List Due). x ∷ xs) (due_there pre d (cells_of ds))
    (ap₂ (λ (cells : List ℕ) (at : ℕ). dues_by n cells at) (sym e) (after_there pre d (cells_of ds) ∙ sym p)
    ∙ dues_there ds front n (omega (arith, length-append d.words (cells_of ds)))))

pub dues_cells : (ds : List Due) → dues_in (cells_of ds) ≡ ds
dues_cells ds = dues_there ds [] (length (cells_of ds)) (omega arith)

-- No offer, and no shift, makes more ticks than it may.
pub sent_ticks : (budget : ℕ) (goal : Goal) (m : Moment) → (wait_from budget goal m).ticks ≤ budget
sent_ticks budget goal m = omega (arith, wait_ticks budget goal (waiting m 0 true))

pub offer_ticks : (board : Board) (m : Moment) (slot reading : ℕ) (ws : List ℕ) (budget : ℕ)
    → (offer_of board m slot reading ws budget).ticks ≤ budget
unfolding offer_of
offer_ticks board m slot reading ws budget = sent_ticks budget (Room slot (length ws)) m

pub shift_ticks : (ds : List Due) (s : Shifting) (budget : ℕ) → s.ticks ≤ budget → (shift_from ds s budget).ticks ≤ budget
unfolding shift_from
shift_ticks [] s budget h = omega (arith, sent_ticks (budget - s.ticks) Sent s.moment)
shift_ticks (d ∷ ds) s budget h =
    let o : (next_offer d s budget).ticks ≤ budget - s.ticks
    = offer_ticks s.board s.moment d.slot d.reading d.words (budget - s.ticks) in
    pick_keeps (λ (z : Shifting). z.ticks ≤ budget) _ _ _
    (λ t. shift_ticks ds (taken_after s (next_offer d s budget)) budget (omega arith)) (λ t. omega arith)
