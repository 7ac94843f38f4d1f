-- The limits that the layouts' command words have to keep for the record rules: those of 01's table (01 Frames). Assumes nothing.
use mathlib.Core.Path.{◌≡◌, refl}
use mathlib.Core.Bool.{Bool, true, false, ◌&&◌}
use Prim.Native.Nat.{ℕ, zero, suc, ◌+◌, ◌/◌, ◌%◌, ◌≤◌, ◌<◌}
use native.Mathlib.Nat.{mod-lt}
use native.Mathlib.Omega.{arith}
use lib.Dec.{ltb, leb, eqb}
use borrow.Author.Tests.{ltb-true, leb-true, lt-ltb, le-leb}
use Rattle.base.specs.Pick.{pick_keeps, and_r, and_both}
use Rattle.layout.specs.declared.Layout.{Layout}
use Rattle.layout.specs.declared.Layout.TheVariants.{Ours, Makers}
use Rattle.command.specs.Layout.{fields_of, write, write_ends, read_ends, data_read, spans, register_write, register_read, soft_reset, rows, by_number, decode_by}
use Rattle.command.specs.declared.Fields.{Fields}
use Rattle.command.specs.Layouts.{Layouts, layouts}
use Rattle.command.specs.declared.Command.{Command}
use Rattle.command.specs.declared.Command.TheVariants.{Filler, Malformed, Forward, DataRead, RegisterWrite, RegisterRead, SoftReset}

unfoldable pub command_fits : Command → Bool
command_fits Filler = true
command_fits Malformed = true
command_fits (Forward crc words ends reads) = leb words 4096 && leb ends 127
command_fits (DataRead crc words) = ltb 0 words && leb words 256
command_fits (RegisterWrite crc address count) = ltb 0 count && leb (address + count) 12
command_fits (RegisterRead crc address count) = ltb 0 count && leb (address + count) 12
command_fits SoftReset = true

abbrev pub LayoutFit : Layouts → Type 0
LayoutFit l = (k : Layout) (w : ℕ) → command_fits (l.decode k w) ≡ true

abbrev Fits : Command → Type 0
Fits c = command_fits c ≡ true

forward_fits : (crc reads : Bool) (words ends : ℕ) → words ≤ 4096 → ends ≤ 127 → Fits (Forward crc words ends reads)
unfolding command_fits
forward_fits crc reads words ends w e = and_both _ _ (le-leb _ _ w) (le-leb _ _ e)

write_fits : (crc : Bool) (most low : ℕ) → most ≤ 4096 → Fits (write crc most low)
unfolding write command_fits
write_fits crc most low h =
    pick_keeps Fits _ _ _ (λ k. let n : low + 1 ≤ most = leb-true _ _ k in forward_fits crc false (low + 1) 0 (omega arith) (omega arith)) (λ k. refl)

-- the words beside ENDs, the ENDs and the count, where the layout has them
words_le : (k : Layout) (low : ℕ) → low < 4096 → (fields_of k low).words ≤ 31
unfolding fields_of
words_le Ours low h = omega arith
words_le Makers low h = omega arith

ends_le : (k : Layout) (low : ℕ) → low < 4096 → (fields_of k low).ends ≤ 127
unfolding fields_of
ends_le Ours low h = omega arith
ends_le Makers low h = omega arith

some_count : (k : Layout) (low : ℕ) → 0 < (fields_of k low).count
unfolding fields_of
some_count Ours low = omega arith
some_count Makers low = omega arith

data_read_fits : (crc : Bool) (low : ℕ) → Fits (data_read crc low)
unfolding data_read command_fits
data_read_fits crc low =
    pick_keeps Fits _ _ _ (λ k. let n : low < 256 = ltb-true _ _ k in and_both _ _ (lt-ltb 0 (low + 1) (omega arith)) (le-leb (low + 1) 256 (omega arith)))
    (λ k. refl)

register_write_fits : (crc : Bool) (f : Fields) → 0 < f.count → Fits (register_write crc f)
unfolding register_write spans command_fits
register_write_fits crc f n =
    pick_keeps Fits _ _ _ (λ k. and_both _ _ (lt-ltb 0 f.count n) (and_r f.zeros _ k)) (λ k. refl)

register_read_fits : (crc : Bool) (f : Fields) → 0 < f.count → Fits (register_read crc f)
unfolding register_read spans command_fits
register_read_fits crc f n =
    pick_keeps Fits _ _ _ (λ k. and_both _ _ (lt-ltb 0 f.count n) (and_r f.zeros _ k)) (λ k. refl)

soft_reset_fits : (f : Fields) → Fits (soft_reset f)
unfolding soft_reset command_fits
soft_reset_fits f = pick_keeps Fits _ _ _ (λ k. refl) (λ k. refl)

module _ (k : Layout) where
  write_ends_fits : (crc : Bool) (low : ℕ) → low < 4096 → Fits (write_ends crc (fields_of k low))
  write_ends_fits crc low h = let w = words_le k low h in forward_fits crc false _ _ (omega (arith, w)) (ends_le k low h)

  read_ends_fits : (crc : Bool) (low : ℕ) → low < 4096 → Fits (read_ends crc (fields_of k low))
  read_ends_fits crc low h = let w = words_le k low h in forward_fits crc true _ _ (omega (arith, w)) (ends_le k low h)

  row_fits : (number low : ℕ) → low < 4096 → Fits (by_number k number low)
  unfolding by_number rows command_fits
  row_fits zero low h = refl
  row_fits (suc zero) low h = refl
  row_fits (suc (suc zero)) low h = write_fits true 512 low (omega arith)
  row_fits (suc (suc (suc zero))) low h = write_fits false 4096 low (omega arith)
  row_fits (suc (suc (suc (suc zero)))) low h = write_ends_fits true low h
  row_fits (suc (suc (suc (suc (suc zero))))) low h = write_ends_fits false low h
  row_fits (suc (suc (suc (suc (suc (suc zero)))))) low h = read_ends_fits true low h
  row_fits (suc (suc (suc (suc (suc (suc (suc zero))))))) low h = read_ends_fits false low h
  row_fits (suc (suc (suc (suc (suc (suc (suc (suc zero)))))))) low h = data_read_fits true low
  row_fits (suc (suc (suc (suc (suc (suc (suc (suc (suc zero))))))))) low h = data_read_fits false low
  row_fits (suc (suc (suc (suc (suc (suc (suc (suc (suc (suc zero)))))))))) low h = register_write_fits true _ (some_count k low)
  row_fits (suc (suc (suc (suc (suc (suc (suc (suc (suc (suc (suc zero))))))))))) low h = register_write_fits false _ (some_count k low)
  row_fits (suc (suc (suc (suc (suc (suc (suc (suc (suc (suc (suc (suc zero)))))))))))) low h = register_read_fits true _ (some_count k low)
  row_fits (suc (suc (suc (suc (suc (suc (suc (suc (suc (suc (suc (suc (suc zero))))))))))))) low h = register_read_fits false _ (some_count k low)
  row_fits (suc (suc (suc (suc (suc (suc (suc (suc (suc (suc (suc (suc (suc (suc zero)))))))))))))) low h = soft_reset_fits _
  row_fits (suc (suc (suc (suc (suc (suc (suc (suc (suc (suc (suc (suc (suc (suc (suc number))))))))))))))) low h = refl

-- both layouts keep them, whatever the word
pub layouts_fit : LayoutFit layouts
unfolding decode_by command_fits
layouts_fit k w = pick_keeps Fits _ _ _ (λ t. refl) (λ t. row_fits k (w / 4096) (w % 4096) (mod-lt w (omega arith)))
