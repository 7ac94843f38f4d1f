-- The theorems behind what was asked of the host's frames. Assumes nothing.
use Rattle.std.specs.Prelude.{Ok}
use mathlib.Core.Path.{◌≡◌, refl, sym}
use mathlib.Core.Bool.{true, ◌&&◌}
use mathlib.Core.List.{List}
use Prim.Native.Nat.{ℕ, ◌+◌, ◌≤◌}
use native.Mathlib.Omega.{arith}
use lib.Dec.{ltb, leb, eqb}
use lib.ListN.{length}
use borrow.Author.Tests.{le-leb, ltb-true}
use Rattle.base.specs.Pick.{pick_true, and_both}
use Rattle.layout.specs.declared.Layout.{Layout}
use Rattle.command.specs.Layout.{registers_end}
use Rattle.frames.specs.Orders.{fields_within, within}
use Rattle.frames.specs.Frames.{beside, frame_of, over, out, written_of}
use Rattle.frames.specs.declared.Order.{Order}
use Rattle.frames.specs.declared.Order.TheVariants.{FwdWrCrc, FwdWr, FwdWrEndCrc, FwdWrEnd, FwdRdEndCrc, FwdRdEnd, DataRdCrc, DataRd, RegWrCrc, RegWr, RegRdCrc, RegRd, SoftResetCrc}
use Rattle.frames_found.specs.HostFrames.{SomeWords, HostFrames}
use Rattle.frames_found.proofs.Answered.{reads_back}
use Rattle.frames_found.proofs.Decoding.{decodes}
use Rattle.frames_found.proofs.Found.{found}
use Rattle.frames_found.proofs.Inverse.{one_way, well_formed}
use Rattle.frames_found.proofs.Numbers.{numbered}
use Rattle.frames_found.proofs.Refusals.{outside, short, due_is, status_right, data_right}
use Rattle.frames_found.proofs.Ruled.{ruled}
use Rattle.frames_found.proofs.Silence.{silent}

written : (k : Layout) (s : ℕ) (o : Order) (words buffer : List ℕ) → within o (length words) ≡ true → length words + beside ≤ length buffer
    → out (Ok (length words + beside)) (over (frame_of k s o words) buffer) ≡ written_of k s o words buffer
unfolding written_of
written k s o words buffer h m = pick_true _ _ _ _ h (pick_true _ _ _ _ (le-leb _ _ m) refl)

-- a number of words with which an order is written
module _ (ends : ℕ) (h : leb ends 127 ≡ true) where
  ends_alone : (leb ends 127 && leb 0 31) ≡ true
  ends_alone = and_both (leb ends 127) (leb 0 31) h refl

  ends_and_one : (leb ends 127 && (leb 1 1 && leb 1 32)) ≡ true
  ends_and_one = and_both (leb ends 127) (leb 1 1 && leb 1 32) h refl

one_register : (address : ℕ) → ltb address registers_end ≡ true → (ltb address registers_end && (leb 1 1 && leb (address + 1) registers_end)) ≡ true
one_register address h =
    let l = ltb-true address registers_end h in
    and_both (ltb address registers_end) (leb 1 1 && leb (address + 1) registers_end) h
    (and_both (leb 1 1) (leb (address + 1) registers_end) refl (le-leb (address + 1) registers_end (omega (arith, l))))

answerable : (o : Order) → fields_within o ≡ true → SomeWords o
answerable FwdWrCrc h = record { some = 1; allowed = refl }
answerable FwdWr h = record { some = 1; allowed = refl }
answerable (FwdWrEndCrc ends) h = record { some = 0; allowed = ends_alone ends h }
answerable (FwdWrEnd ends) h = record { some = 0; allowed = ends_alone ends h }
answerable (FwdRdEndCrc ends) h = record { some = 1; allowed = ends_and_one ends h }
answerable (FwdRdEnd ends) h = record { some = 1; allowed = ends_and_one ends h }
answerable (DataRdCrc count) h = record { some = 0; allowed = and_both (leb 1 count && leb count 256) (eqb 0 0) h refl }
answerable (DataRd count) h = record { some = 0; allowed = and_both (leb 1 count && leb count 256) (eqb 0 0) h refl }
answerable (RegWrCrc address) h = record { some = 1; allowed = one_register address h }
answerable (RegWr address) h = record { some = 1; allowed = one_register address h }
answerable (RegRdCrc address count) h = record { some = 0; allowed = and_both (leb 1 count && leb (address + count) registers_end) (eqb 0 0) h refl }
answerable (RegRd address count) h = record { some = 0; allowed = and_both (leb 1 count && leb (address + count) registers_end) (eqb 0 0) h refl }
answerable SoftResetCrc h = record { some = 0; allowed = refl }

pub host_frames : HostFrames
host_frames = record {
  numbered = numbered;
  written = λ k s o words buffer h m. sym (written k s o words buffer h m);
  outside = outside;
  short = short;
  decodes = decodes;
  well_formed = well_formed;
  one_way = one_way;
  ruled = ruled;
  found = found;
  reads_back = reads_back;
  due_is = due_is;
  status_right = status_right;
  data_right = data_right;
  answerable = answerable;
  silent = silent;
}
