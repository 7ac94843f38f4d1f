-- Laws of the codes. Assumes nothing.
use Rattle.std.specs.Prelude.{◌≡◌, refl, false, ◌&&◌, List, ℕ, ◌<◌, ℤ, Option, None, Some, Result, Ok, Err}
use Rattle.std.specs.Result.{OkIff, result_ok}
use Rattle.std.proofs.Common.{sym, lt-ltb, le-ltb}
use native.Mathlib.Omega.{arith}
use lib.ListN.{get_or-eq_default}
use Rattle.base.specs.Arms.{past}
use Rattle.base.specs.Pick.{pick, pick_false}
use Rattle.layout.specs.declared.Layout.{Layout}
use Rattle.frames.specs.Frames.{out, written_of}
use Rattle.frames.specs.declared.Order.{Order}
use Rattle.frames.specs.declared.WriteError.{WriteError}
use Rattle.icelichen_frames.specs.Codes.{sixteen, written_code, coded, order_by, frame_for, spoken_words, spoken_of, frame_in}
use Rattle.icelichen_frames.specs.declared.Spoken.{Spoken}

-- a number of sixteen bits
pub fits : {E : Type 0} (n : ℕ) (r : Result ℕ E) → OkIff r (n < 65536) n → result_ok r ≡ pick (sixteen n) (Some n) None
unfolding pick
fits n (Ok x) h = rw (lt-ltb n 65536 h.0, h.1) refl
fits n (Err e) h = rw (le-ltb n 65536 (omega (arith, h))) refl

-- where a number is cut, no order
pub cut : (command ends address count : ℕ) (r : Option Order) → (sixteen command && (sixteen ends && (sixteen address && sixteen count))) ≡ false → r ≡ None
    → r ≡ order_by command ends address count
unfolding order_by
cut command ends address count r h e = pick_false _ _ _ _ h e

-- an order's frame, by its code
pub to_known : (k : Layout) (s : ℕ) (m : Option Order) (words buffer left : List ℕ) (x : ℤ) (o : Order) (w : Result ℕ WriteError) → m ≡ Some o
    → out w left ≡ written_of k s o words buffer → x ≡ written_code w → coded x left ≡ frame_for k s m words buffer
unfolding frame_for
to_known k s m words buffer left x o w e f g = rw (e, g, ← f)

-- a number that says no words
pub to_nothing : (n : ℕ) → (n ≡ 0 → ⊥) → (n ≡ 1 → ⊥) → (n ≡ 2 → ⊥) → None ≡ spoken_of n
unfolding spoken_of
to_nothing n h0 h1 h2 = sym (get_or-eq_default spoken_words None (past 2 h2 (past 1 h1 (past 0 h0 (omega arith)))))

-- the frame in the words that a number says
pub to_coded_in : (p q : Option Spoken) (w : Spoken) (m n : Option Order) (words buffer left : List ℕ) (x : ℤ) → p ≡ q → p ≡ Some w → m ≡ n
    → coded x left ≡ frame_for w.layout w.start m words buffer → coded x left ≡ frame_in q n words buffer
unfolding frame_in
to_coded_in p q w m n words buffer left x e f g h = rw (← e, f, ← g) h
