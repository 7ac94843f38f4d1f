-- Laws of the decision by number, as the proof of `decode` asks them. Assumes nothing.
use mathlib.Core.Path.{◌≡◌, refl, sym, ◌∙◌, ap}
use mathlib.Core.Bool.{Bool, true, false}
use Prim.Native.Nat.{ℕ, zero, suc, ◌+◌, ◌/◌, ◌%◌, ◌≤◌, ◌<◌}
use native.Mathlib.Omega.{arith}
use lib.Dec.{leb}
use lib.ListN.{get_or-eq_default}
use Rattle.base.specs.Pick.{pick, pick_lt, pick_le, pick_not_lt, pick_not_le, pick_ne}
use Rattle.command.specs.declared.Command.{Command}
use Rattle.command.specs.declared.Command.TheVariants.{Filler, Malformed, Forward, DataRead, RegisterWrite, RegisterRead}
use Rattle.layout.specs.declared.Layout.{Layout}
use Rattle.layout.specs.declared.Layout.TheVariants.{Ours, Makers}
use Rattle.command.specs.declared.Fields.{Fields}
use Rattle.command.specs.Layout.{fields_of, write, write_ends, read_ends, data_read, spans, register_write, register_read, soft_reset, rows, by_number, decode_by}

-- an arm of the layout
pub to_fields : (k n : Layout) (low : ℕ) (f : Fields) → k ≡ n → f ≡ fields_of n low → f ≡ fields_of k low
to_fields k n low f e q = q ∙ ap (λ (m : Layout). fields_of m low) (sym e)

-- the words beside ENDs have five bits
five : (k : Layout) (w : ℕ) → (fields_of k (w % 4096)).words < 32
unfolding fields_of
five Ours w = omega arith
five Makers w = omega arith

pub words_fit : (k : Layout) (w : ℕ) (f : Fields) → f ≡ fields_of k (w % 4096) → f.words + 1 < 65536
words_fit k w f e = rw e (let h = five k w in omega (arith, h))

-- a span by its two tests
pub to_span : (f : Fields) (a n : ℕ) → f.zeros ≡ true → a ≡ f.address → n ≡ f.count → leb (a + n) 12 ≡ spans f
unfolding spans
to_span f a n z e g = rw (z, e, g) refl

pub no_span : (f : Fields) → f.zeros ≡ false → f.zeros ≡ spans f
unfolding spans
no_span f z = rw z refl

-- a command of the registers, by its span and by its way
module _ (crc reads : Bool) (f : Fields) where
  pub no_register : spans f ≡ false → Malformed ≡ pick reads (register_read crc f) (register_write crc f)
  unfolding register_read register_write pick
  no_register e = rw e (go reads)
    where
      go : (r : Bool) → Malformed ≡ pick r Malformed Malformed
      go true = refl
      go false = refl

  pub to_register_of_read : spans f ≡ true → reads ≡ true → RegisterRead crc f.address f.count ≡ pick reads (register_read crc f) (register_write crc f)
  unfolding register_read register_write pick
  to_register_of_read e r = rw (r, e) refl

  pub to_register_of_write : spans f ≡ true → reads ≡ false
      → RegisterWrite crc f.address f.count ≡ pick reads (register_read crc f) (register_write crc f)
  unfolding register_read register_write pick
  to_register_of_write e r = rw (r, e) refl

-- 0xFFFF is filler in every layout
pub to_filler : (k : Layout) (w : ℕ) → w ≡ 65535 → Filler ≡ decode_by k w
unfolding decode_by pick
to_filler k w e = rw e refl

-- an arm of a range knows the number
pub to_number : (k : Layout) (w n : ℕ) (x : Command) → (w ≡ 65535 → ⊥) → w / 4096 ≡ n → x ≡ by_number k n (w % 4096) → x ≡ decode_by k w
unfolding decode_by
to_number k w n x h e f = pick_ne _ _ _ _ _ h (f ∙ ap (λ (m : ℕ). by_number k m (w % 4096)) (sym e))

-- the rows that allow only some low bits
module _ (k : Layout) (w : ℕ) (x : Command) where
  pub to_write_crc : 0x2000 ≤ w → w < 0x2200 → x ≡ Forward true (w % 4096 + 1) 0 false → x ≡ decode_by k w
  unfolding by_number rows write
  to_write_crc h l e =
      let m : w % 4096 + 1 ≤ 512 = omega arith in
      to_number k w 2 x (omega arith) (omega arith) (pick_le _ _ _ _ _ m e)

  pub to_write : 0x3000 ≤ w → w < 0x4000 → x ≡ Forward false (w % 4096 + 1) 0 false → x ≡ decode_by k w
  unfolding by_number rows write
  to_write h l e =
      let m : w % 4096 + 1 ≤ 4096 = omega arith in
      to_number k w 3 x (omega arith) (omega arith) (pick_le _ _ _ _ _ m e)

  pub to_read_crc : 0x8000 ≤ w → w < 0x8100 → x ≡ DataRead true (w % 4096 + 1) → x ≡ decode_by k w
  unfolding by_number rows data_read
  to_read_crc h l e =
      let m : w % 4096 < 256 = omega arith in
      to_number k w 8 x (omega arith) (omega arith) (pick_lt _ _ _ _ _ m e)

  pub to_read : 0x9000 ≤ w → w < 0x9100 → x ≡ DataRead false (w % 4096 + 1) → x ≡ decode_by k w
  unfolding by_number rows data_read
  to_read h l e =
      let m : w % 4096 < 256 = omega arith in
      to_number k w 9 x (omega arith) (omega arith) (pick_lt _ _ _ _ _ m e)

pub ruleset somes = (to_filler, to_write_crc, to_write, to_read_crc, to_read)

-- the rows of fields
module _ (k : Layout) (w : ℕ) (f : Fields) (e : f ≡ fields_of k (w % 4096)) (x : Command) where
  pub to_write_ends_crc : 0x4000 ≤ w → w < 0x5000 → x ≡ Forward true f.words f.ends false → x ≡ decode_by k w
  unfolding by_number rows
  to_write_ends_crc h l q = to_number k w 4 x (omega arith) (omega arith) (q ∙ ap (write_ends true) e)

  pub to_write_ends : 0x5000 ≤ w → w < 0x6000 → x ≡ Forward false f.words f.ends false → x ≡ decode_by k w
  unfolding by_number rows
  to_write_ends h l q = to_number k w 5 x (omega arith) (omega arith) (q ∙ ap (write_ends false) e)

  pub to_read_ends_crc : 0x6000 ≤ w → w < 0x7000 → x ≡ Forward true (f.words + 1) f.ends true → x ≡ decode_by k w
  unfolding by_number rows
  to_read_ends_crc h l q = to_number k w 6 x (omega arith) (omega arith) (q ∙ ap (read_ends true) e)

  pub to_read_ends : 0x7000 ≤ w → w < 0x8000 → x ≡ Forward false (f.words + 1) f.ends true → x ≡ decode_by k w
  unfolding by_number rows
  to_read_ends h l q = to_number k w 7 x (omega arith) (omega arith) (q ∙ ap (read_ends false) e)

  pub to_register_write_crc : 0xA000 ≤ w → w < 0xB000 → x ≡ pick false (register_read true f) (register_write true f) → x ≡ decode_by k w
  unfolding by_number rows pick
  to_register_write_crc h l q = to_number k w 10 x (omega arith) (omega arith) (q ∙ ap (register_write true) e)

  pub to_register_write : 0xB000 ≤ w → w < 0xC000 → x ≡ pick false (register_read false f) (register_write false f) → x ≡ decode_by k w
  unfolding by_number rows pick
  to_register_write h l q = to_number k w 11 x (omega arith) (omega arith) (q ∙ ap (register_write false) e)

  pub to_register_read_crc : 0xC000 ≤ w → w < 0xD000 → x ≡ pick true (register_read true f) (register_write true f) → x ≡ decode_by k w
  unfolding by_number rows pick
  to_register_read_crc h l q = to_number k w 12 x (omega arith) (omega arith) (q ∙ ap (register_read true) e)

  pub to_register_read : 0xD000 ≤ w → w < 0xE000 → x ≡ pick true (register_read false f) (register_write false f) → x ≡ decode_by k w
  unfolding by_number rows pick
  to_register_read h l q = to_number k w 13 x (omega arith) (omega arith) (q ∙ ap (register_read false) e)

  pub to_soft_reset : 0xE000 ≤ w → w < 0xF000 → x ≡ soft_reset f → x ≡ decode_by k w
  unfolding by_number rows
  to_soft_reset h l q = to_number k w 14 x (omega arith) (omega arith) (q ∙ ap soft_reset e)

pub ruleset fielded =
    (to_write_ends_crc, to_write_ends, to_read_ends_crc, to_read_ends, to_register_write_crc, to_register_write, to_register_read_crc, to_register_read, to_soft_reset)

-- what no arm takes: numbers 0 and 1, the low bits that a row does not allow, and number 15
module _ (k : Layout) (w : ℕ) where
  below : (n : ℕ) → n < 2 → Malformed ≡ by_number k n (w % 4096)
  unfolding by_number rows
  below zero h = refl
  below (suc zero) h = refl
  below (suc (suc n)) h = absurd (omega arith)

  above : (n : ℕ) → 15 ≤ n → Malformed ≡ by_number k n (w % 4096)
  unfolding by_number rows
  above n h = sym (get_or-eq_default (rows (fields_of k (w % 4096)) (w % 4096)) Malformed h)

  pub none_below : w < 0x2000 → Malformed ≡ decode_by k w
  none_below h = to_number k w (w / 4096) Malformed (omega arith) refl (below (w / 4096) (omega arith))

  pub none_written : 0x2200 ≤ w → w < 0x3000 → Malformed ≡ decode_by k w
  unfolding by_number rows write
  none_written h l =
      let m : 512 < w % 4096 + 1 = omega arith in
      to_number k w 2 Malformed (omega arith) (omega arith) (pick_not_le _ _ _ _ _ m refl)

  pub none_read_crc : 0x8100 ≤ w → w < 0x9000 → Malformed ≡ decode_by k w
  unfolding by_number rows data_read
  none_read_crc h l =
      let m : 256 ≤ w % 4096 = omega arith in
      to_number k w 8 Malformed (omega arith) (omega arith) (pick_not_lt _ _ _ _ _ m refl)

  pub none_read : 0x9100 ≤ w → w < 0xA000 → Malformed ≡ decode_by k w
  unfolding by_number rows data_read
  none_read h l =
      let m : 256 ≤ w % 4096 = omega arith in
      to_number k w 9 Malformed (omega arith) (omega arith) (pick_not_lt _ _ _ _ _ m refl)

  pub none_above : 0xF000 ≤ w → (w ≡ 0xFFFF → ⊥) → Malformed ≡ decode_by k w
  none_above h f = to_number k w (w / 4096) Malformed f refl (above (w / 4096) (omega arith))

pub ruleset nones = (none_below, none_written, none_read_crc, none_read, none_above)
