-- Laws of the writer: its loop over the data words, and its refusals. Assumes nothing.
use Rattle.std.specs.Prelude.{Option, None, Some, Ok, Err}
use mathlib.Core.Path.{◌≡◌, refl, sym, ◌∙◌, ap, ap₂}
use mathlib.Core.Bool.{true, false, ◌&&◌}
use mathlib.Core.List.{List, [], ◌∷◌, ◌++◌, append_assoc}
use Prim.Native.Nat.{ℕ, suc, ◌+◌, ◌-◌, ◌≤◌, ◌<◌}
use native.Mathlib.Numerals.{add-one}
use native.Mathlib.Omega.{arith}
use lib.Dec.{ltb, leb}
use lib.ListN.{length, get_or, take, drop, set, length-append, length-set}
use lib.Seq.{drop-set-lt, set_at, take-suc, drop-cons, drop-length, take-length, length-take-le}
use borrow.Author.Tests.{le-leb, lt-leb, ne_eqb}
use Rattle.base.specs.Pick.{pick_true, pick_false}
use Rattle.base.specs.Truth.{and_none}
use Rattle.layout.specs.declared.Layout.{Layout}
use Rattle.crc16.specs.Crc.{crc_word, crc_from}
use Rattle.frames.specs.Frames.{checked, over, out, written_of}
use Rattle.frames.specs.Orders.{within, command_word, head_of}
use Rattle.frames.proofs.Laws.{none_where, some_were}
use Rattle.frames.specs.declared.Order.{Order}
use Rattle.frames.specs.declared.Order.TheVariants.{FwdWrCrc, FwdWr, FwdWrEndCrc, FwdWrEnd, FwdRdEndCrc, FwdRdEnd, DataRdCrc, DataRd, RegWrCrc, RegWr, RegRdCrc, RegRd, SoftResetCrc}
use Rattle.frames.specs.declared.WriteError.TheVariants.{OutsideLimits, BufferShort}

-- so many data words stand behind the command word; the CRC has them, and the rest brings it to the whole frame's
pub record Filled (start word : ℕ) (words cells : List ℕ) (i : ℕ) (buffer : List ℕ) (crc : ℕ) : Type 0 where
  pub bound : i ≤ length words
  pub room : length words + 2 ≤ length cells
  pub cells_are : buffer ≡ (word ∷ take i words) ++ drop (suc i) cells
  pub same : length buffer ≡ length cells
  pub rest : crc_from crc (drop i words) ≡ crc_from start (word ∷ words)

-- the cell behind a front of a buffer
set_behind : (front cells : List ℕ) (n w : ℕ) → length front ≡ n → n < length cells
    → set (front ++ drop n cells) n w ≡ (front ++ (w ∷ [])) ++ drop (suc n) cells
set_behind front cells n w e h =
    ap (λ (x : List ℕ). set (front ++ x) n w) (drop-cons cells n 0 h)
    ∙ set_at front (get_or cells n 0) (drop (suc n) cells) w n e
    ∙ sym (append_assoc front (w ∷ []) (drop (suc n) cells))

module _ (start word : ℕ) (words cells : List ℕ) where
  -- the loop begins with the command word written
  pub fill_begins : (crc : ℕ) → length words + 2 ≤ length cells → crc ≡ crc_word start word
      → Filled start word words (set cells 0 word) 0 (set cells 0 word) crc
  unfolding crc_from
  fill_begins crc h e =
      let l = length-set cells 0 word in
      record {
        bound = omega arith;
        room = omega (arith, l);
        cells_are =
            set_behind [] cells 0 word refl (omega arith)
            ∙ ap (λ (x : List ℕ). word ∷ x) (sym (drop-set-lt 1 cells 0 word (omega arith)));
        same = refl;
        rest = rw e;
      }

  module _ (i : ℕ) (buffer : List ℕ) (crc : ℕ) where
    front_length : i ≤ length words → length (word ∷ take i words) ≡ suc i
    front_length h = let l : length (take i words) ≡ i = length-take-le i words h in omega (arith, l)

    pub fill_again : Filled start word words cells i buffer crc → (r : ℕ) → i < length words → r ≡ crc_word crc (get_or words i 0)
        → Filled start word words cells (i + 1) (set buffer (i + 1) (get_or words i 0)) r
    unfolding crc_from
    fill_again v r h e =
        let w : ℕ = get_or words i 0 in
        let room : length words + 2 ≤ length cells = v.room in
        let s : i + 1 ≡ suc i = add-one i in
        record {
          bound = omega arith;
          room = v.room;
          cells_are =
              ap₂ (λ (b : List ℕ) (k : ℕ). set b k w) v.cells_are s
              ∙ set_behind (word ∷ take i words) cells (suc i) w (front_length v.bound) (omega arith)
              ∙ ap (λ (x : List ℕ). (word ∷ x) ++ drop (suc (suc i)) cells) (sym (take-suc words i 0 h))
              ∙ ap (λ (k : ℕ). (word ∷ take k words) ++ drop (suc k) cells) (sym s);
          same = length-set buffer (i + 1) w ∙ v.same;
          rest = rw (e, s) (rw (drop-cons words i 0 h) at v.rest);
        }

    pub fill_ends : Filled start word words (set cells 0 word) i buffer crc → length words ≤ i
        → set buffer (i + 1) crc ≡ over (checked start (word ∷ words)) cells
    unfolding crc_from
    fill_ends v h =
        let begun : List ℕ = set cells 0 word in
        let z : i ≡ length words = omega (arith, v.bound) in
        let room : length words + 2 ≤ length begun = v.room in
        let s : i + 1 ≡ suc i = add-one i in
        let c : crc ≡ crc_from start (word ∷ words) = rw (z, drop-length) at v.rest in
        let t : take i words ≡ words = ap (λ (k : ℕ). take k words) z ∙ take-length words in
        let n : suc (suc i) ≡ length (checked start (word ∷ words)) = omega (arith, z, length-append (word ∷ words) (crc_from start (word ∷ words) ∷ [])) in
        ap₂ (λ (b : List ℕ) (k : ℕ). set b k crc) v.cells_are s
        ∙ set_behind (word ∷ take i words) begun (suc i) crc (front_length v.bound) (omega arith)
        ∙ ap₂ (λ (x : List ℕ) (d : ℕ). ((word ∷ x) ++ (d ∷ [])) ++ drop (suc (suc i)) begun) t c
        ∙ ap (λ (k : ℕ). checked start (word ∷ words) ++ drop k begun) n
        ∙ ap (λ (x : List ℕ). checked start (word ∷ words) ++ x) (drop-set-lt (length (checked start (word ∷ words))) cells 0 word (omega (arith, n)))

    pub fill_same : Filled start word words (set cells 0 word) i buffer crc → (w : ℕ) → length (set buffer (i + 1) w) ≡ length cells
    fill_same v w = length-set buffer (i + 1) w ∙ v.same ∙ length-set cells 0 word

-- no order takes more than 4,096 data words
too_many : (o : Order) (n : ℕ) → 4096 < n → within o n ≡ false
too_many FwdWrCrc n h = and_none (leb 1 n) _ (lt-leb n 512 (omega arith))
too_many FwdWr n h = and_none (leb 1 n) _ (lt-leb n 4096 h)
too_many (FwdWrEndCrc ends) n h = and_none (leb ends 127) _ (lt-leb n 31 (omega arith))
too_many (FwdWrEnd ends) n h = and_none (leb ends 127) _ (lt-leb n 31 (omega arith))
too_many (FwdRdEndCrc ends) n h = and_none (leb ends 127) _ (and_none (leb 1 n) _ (lt-leb n 32 (omega arith)))
too_many (FwdRdEnd ends) n h = and_none (leb ends 127) _ (and_none (leb 1 n) _ (lt-leb n 32 (omega arith)))
too_many (DataRdCrc count) n h = and_none (leb 1 count && leb count 256) _ (ne_eqb n 0 (λ e. omega (arith, e)))
too_many (DataRd count) n h = and_none (leb 1 count && leb count 256) _ (ne_eqb n 0 (λ e. omega (arith, e)))
too_many (RegWrCrc address) n h = and_none (ltb address 12) _ (and_none (leb 1 n) _ (lt-leb (address + n) 12 (omega arith)))
too_many (RegWr address) n h = and_none (ltb address 12) _ (and_none (leb 1 n) _ (lt-leb (address + n) 12 (omega arith)))
too_many (RegRdCrc address count) n h = and_none (leb 1 count && leb (address + count) 12) _ (ne_eqb n 0 (λ e. omega (arith, e)))
too_many (RegRd address count) n h = and_none (leb 1 count && leb (address + count) 12) _ (ne_eqb n 0 (λ e. omega (arith, e)))
too_many SoftResetCrc n h = ne_eqb n 0 (λ e. omega (arith, e))

module _ (k : Layout) (s : ℕ) (o : Order) (words buffer : List ℕ) where
  pub writes_too_many : 4096 < length words → out (Err OutsideLimits) buffer ≡ written_of k s o words buffer
  unfolding written_of
  writes_too_many h = pick_false _ _ _ _ (too_many o (length words) h) refl

  module _ (r : Option ℕ) (is : r ≡ head_of k o (length words)) where
    pub writes_outside : r ≡ None → out (Err OutsideLimits) buffer ≡ written_of k s o words buffer
    unfolding written_of head_of
    writes_outside e = pick_false _ _ _ _ (none_where _ _ (sym e ∙ is)) refl

    module _ (w : ℕ) (e : r ≡ Some w) where
      some : (within o (length words) ≡ true) × (w ≡ command_word k o (length words))
      unfolding head_of
      some = some_were _ w _ (sym e ∙ is)

      pub writes_short : length buffer < length words + 2 → out (Err BufferShort) buffer ≡ written_of k s o words buffer
      unfolding written_of
      writes_short h = pick_true _ _ _ _ some.0 (pick_false _ _ _ _ (lt-leb _ _ h) refl)

      pub writes_frame : (left : List ℕ) → length words + 2 ≤ length buffer → left ≡ over (checked s (w ∷ words)) buffer
          → out (Ok (length words + 2)) left ≡ written_of k s o words buffer
      unfolding written_of
      writes_frame left h f =
          pick_true _ _ _ _ some.0
          (pick_true _ _ _ _ (le-leb _ _ h)
          (ap (λ (x : List ℕ). out (Ok (length words + 2)) x) (f ∙ ap (λ (x : ℕ). over (checked s (x ∷ words)) buffer) some.1)))

pub ruleset writes = (writes_too_many, writes_outside, writes_short, writes_frame)
