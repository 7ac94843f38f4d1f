-- Written and decoded: each is the other's inverse, in either layout. Where the fields stand is asked once for each kind of row. Assumes nothing.
use mathlib.Core.Path.{◌≡◌, refl, sym, ◌∙◌, ap, ap₂}
use mathlib.Core.Bool.{Bool, true, false, ◌&&◌}
use Prim.Native.Nat.{ℕ, ◌+◌, ◌-◌, ◌*◌, ◌/◌, ◌%◌, ◌≤◌, ◌<◌}
use native.Mathlib.Omega.{arith}
use lib.Dec.{ltb, leb, eqb}
use borrow.Author.Tests.{le-leb, eq-eqb, leb-true, eqb-true}
use Rattle.base.specs.Pick.{pick_true, pick_le, pick_lt, pick_ne, and_l, and_r, and_both}
use Rattle.layout.specs.declared.Layout.{Layout}
use Rattle.layout.specs.declared.Layout.TheVariants.{Ours, Makers}
use Rattle.command.specs.Layout.{fields_of, spans, by_number, rows, write, write_ends, read_ends, data_read, register_write, register_read, soft_reset, decode_by, registers_end, reset_bits}
use Rattle.command.specs.declared.Fields.{Fields}
use Rattle.command.specs.declared.Command.{Command}
use Rattle.command.specs.declared.Command.TheVariants.{Forward, DataRead, RegisterWrite, RegisterRead, SoftReset}
use Rattle.state.specs.Frame.{data_words}
use Rattle.frames_found.specs.Frames.{is_command}
use Rattle.frames.specs.Orders.{ends_bits, span_bits, fixed_bits, within, command_word, meant}
use Rattle.frames.specs.declared.Order.{Order}
use Rattle.frames.specs.declared.Order.TheVariants.{FwdWrCrc, FwdWr, FwdWrEndCrc, FwdWrEnd, FwdRdEndCrc, FwdRdEnd, DataRdCrc, DataRd, RegWrCrc, RegWr, RegRdCrc, RegRd, SoftResetCrc}

-- an order within its limits, as facts
abbrev pub Bounds : Order → ℕ → Type 0
Bounds FwdWrCrc n = (1 ≤ n) × (n ≤ 512)
Bounds FwdWr n = (1 ≤ n) × (n ≤ 4096)
Bounds (FwdWrEndCrc ends) n = (ends ≤ 127) × (n ≤ 31)
Bounds (FwdWrEnd ends) n = (ends ≤ 127) × (n ≤ 31)
Bounds (FwdRdEndCrc ends) n = (ends ≤ 127) × ((1 ≤ n) × (n ≤ 32))
Bounds (FwdRdEnd ends) n = (ends ≤ 127) × ((1 ≤ n) × (n ≤ 32))
Bounds (DataRdCrc count) n = ((1 ≤ count) × (count ≤ 256)) × (n ≡ 0)
Bounds (DataRd count) n = ((1 ≤ count) × (count ≤ 256)) × (n ≡ 0)
Bounds (RegWrCrc address) n = (1 ≤ n) × (address + n ≤ registers_end)
Bounds (RegWr address) n = (1 ≤ n) × (address + n ≤ registers_end)
Bounds (RegRdCrc address count) n = ((1 ≤ count) × (address + count ≤ registers_end)) × (n ≡ 0)
Bounds (RegRd address count) n = ((1 ≤ count) × (address + count ≤ registers_end)) × (n ≡ 0)
Bounds SoftResetCrc n = n ≡ 0

both_le : (a b m n : ℕ) → (leb a b && leb m n) ≡ true → (a ≤ b) × (m ≤ n)
both_le a b m n h = (leb-true a b (and_l (leb a b) (leb m n) h), leb-true m n (and_r (leb a b) (leb m n) h))

le_and : (a b : ℕ) (t : Bool) → (leb a b && t) ≡ true → a ≤ b
le_and a b t h = leb-true a b (and_l (leb a b) t h)

none : (t : Bool) (n : ℕ) → (t && eqb n 0) ≡ true → n ≡ 0
none t n h = eqb-true n 0 (and_r t (eqb n 0) h)

pub bounds : (o : Order) (n : ℕ) → within o n ≡ true → Bounds o n
bounds FwdWrCrc n h = both_le 1 n n 512 h
bounds FwdWr n h = both_le 1 n n 4096 h
bounds (FwdWrEndCrc ends) n h = both_le ends 127 n 31 h
bounds (FwdWrEnd ends) n h = both_le ends 127 n 31 h
bounds (FwdRdEndCrc ends) n h = (le_and ends 127 (leb 1 n && leb n 32) h, both_le 1 n n 32 (and_r (leb ends 127) (leb 1 n && leb n 32) h))
bounds (FwdRdEnd ends) n h = (le_and ends 127 (leb 1 n && leb n 32) h, both_le 1 n n 32 (and_r (leb ends 127) (leb 1 n && leb n 32) h))
bounds (DataRdCrc count) n h = (both_le 1 count count 256 (and_l (leb 1 count && leb count 256) (eqb n 0) h), none (leb 1 count && leb count 256) n h)
bounds (DataRd count) n h = (both_le 1 count count 256 (and_l (leb 1 count && leb count 256) (eqb n 0) h), none (leb 1 count && leb count 256) n h)
bounds (RegWrCrc address) n h = both_le 1 n (address + n) registers_end (and_r (ltb address registers_end) (leb 1 n && leb (address + n) registers_end) h)
bounds (RegWr address) n h = both_le 1 n (address + n) registers_end (and_r (ltb address registers_end) (leb 1 n && leb (address + n) registers_end) h)
bounds (RegRdCrc address count) n h = (both_le 1 count (address + count) registers_end (and_l (leb 1 count && leb (address + count) registers_end) (eqb n 0) h), none (leb 1 count && leb (address + count) registers_end) n h)
bounds (RegRd address count) n h = (both_le 1 count (address + count) registers_end (and_l (leb 1 count && leb (address + count) registers_end) (eqb n 0) h), none (leb 1 count && leb (address + count) registers_end) n h)
bounds SoftResetCrc n h = eqb-true n 0 h

-- Extra ENDs and words, where the layout has them (4 to 7).
pub record EndsIn (ends words : ℕ) (f : Fields) : Type 0 where
  pub words_are : words ≡ f.words
  pub ends_are : ends ≡ f.ends

module _ (ends words : ℕ) (h : ends ≤ 127) (m : words ≤ 31) where
  pub ends_in : (k : Layout) → EndsIn ends words (fields_of k (ends_bits k ends words))
  unfolding fields_of
  ends_in Ours = record { words_are = omega arith; ends_are = omega arith }
  ends_in Makers = record { words_are = omega arith; ends_are = omega arith }

  pub ends_low : (k : Layout) → ends_bits k ends words < 4096
  ends_low Ours = omega arith
  ends_low Makers = omega arith

-- An address and a count, where the layout has them (10 to 13).
pub record SpanIn (address count : ℕ) (f : Fields) : Type 0 where
  pub zeros_are : f.zeros ≡ true
  pub address_is : address ≡ f.address
  pub count_is : count ≡ f.count

module _ (address count : ℕ) (h : 1 ≤ count) (m : address + count ≤ registers_end) where
  pub span_in : (k : Layout) → SpanIn address count (fields_of k (span_bits k address count))
  unfolding fields_of
  span_in Ours =
      let low : ℕ = (count - 1) * 256 + address in
      record { zeros_are = eq-eqb (low / 16 % 16) 0 (omega arith); address_is = omega arith; count_is = omega arith }
  span_in Makers =
      let low : ℕ = address * 64 + (count - 1) in
      let a : low / 64 ≡ address = omega arith in
      let b : address % 16 ≡ address = omega arith in
      let p : low / 16 ≡ address * 4 = omega arith in
      let q : address * 4 % 4 ≡ 0 = omega arith in
      record {
        zeros_are = and_both _ _ (eq-eqb (low / 1024) 0 (omega arith)) (eq-eqb (low / 16 % 4) 0 (ap (λ (i : ℕ). i % 4) p ∙ q));
        address_is = sym (ap (λ (i : ℕ). i % 16) a ∙ b);
        count_is = omega arith;
      }

  pub span_low : (k : Layout) → span_bits k address count < 4096
  span_low Ours = omega arith
  span_low Makers = omega arith

-- The fixed low bits (14).
reset_in : (k : Layout) → (fields_of k (fixed_bits k)).reset ≡ true
unfolding fields_of
reset_in Ours = eq-eqb 0 0 refl
reset_in Makers = eq-eqb reset_bits reset_bits refl

pub reset_low : (k : Layout) → fixed_bits k < 4096
reset_low Ours = omega arith
reset_low Makers = omega arith

-- a command by the fields
module _ (crc : Bool) (f : Fields) where
  module _ (address count : ℕ) (h : SpanIn address count f) (m : address + count ≤ registers_end) where
    spanned : spans f ≡ true
    unfolding spans
    spanned =
        let a : address ≡ f.address = h.address_is in
        let c : count ≡ f.count = h.count_is in
        and_both f.zeros (leb (f.address + f.count) registers_end) h.zeros_are (le-leb (f.address + f.count) registers_end (omega arith))

    to_register_write : RegisterWrite crc address count ≡ register_write crc f
    unfolding register_write
    to_register_write = pick_true _ _ _ _ spanned (ap₂ (λ (a c : ℕ). RegisterWrite crc a c) h.address_is h.count_is)

    to_register_read : RegisterRead crc address count ≡ register_read crc f
    unfolding register_read
    to_register_read = pick_true _ _ _ _ spanned (ap₂ (λ (a c : ℕ). RegisterRead crc a c) h.address_is h.count_is)

  -- forwards with ENDs
  module _ (ends words : ℕ) where
    to_write_ends : EndsIn ends words f → Forward crc words ends false ≡ write_ends crc f
    to_write_ends h = ap₂ (λ (x y : ℕ). Forward crc x y false) h.words_are h.ends_are

    to_read_ends : 1 ≤ words → EndsIn ends (words - 1) f → Forward crc words ends true ≡ read_ends crc f
    to_read_ends m h =
        let e : words - 1 ≡ f.words = h.words_are in
        let w : words ≡ f.words + 1 = omega arith in
        ap₂ (λ (x y : ℕ). Forward crc x y true) w h.ends_are

-- forwards without ENDs, and reads of RX
to_forward : (crc : Bool) (most n : ℕ) → 1 ≤ n → n ≤ most → Forward crc n 0 false ≡ write crc most (n - 1)
unfolding write
to_forward crc most n h m =
    let e : n ≡ n - 1 + 1 = omega arith in
    pick_le (n - 1 + 1) most _ _ _ (omega arith) (ap (λ (i : ℕ). Forward crc i 0 false) e)

to_data : (crc : Bool) (n : ℕ) → 1 ≤ n → n ≤ 256 → DataRead crc n ≡ data_read crc (n - 1)
unfolding data_read
to_data crc n h m =
    let e : n ≡ n - 1 + 1 = omega arith in
    pick_lt (n - 1) 256 _ _ _ (omega arith) (ap (λ (i : ℕ). DataRead crc i) e)

to_reset : (k : Layout) → SoftReset ≡ soft_reset (fields_of k (fixed_bits k))
unfolding soft_reset
to_reset k = pick_true _ _ _ _ (reset_in k) refl

module _ (k : Layout) where
  -- a command word: its number and its low bits are what its row says
  to_row : (number low : ℕ) (x : Command) → number < 15 → low < 4096 → x ≡ by_number k number low → x ≡ decode_by k (number * 4096 + low)
  unfolding decode_by
  to_row number low x h l f =
      let a : number ≡ (number * 4096 + low) / 4096 = omega arith in
      let b : low ≡ (number * 4096 + low) % 4096 = omega arith in
      pick_ne (number * 4096 + low) 65535 _ _ _ (λ e. omega (arith, e)) (f ∙ ap₂ (λ (i j : ℕ). by_number k i j) a b)

  decoded : (o : Order) (n : ℕ) → Bounds o n → meant o n ≡ decode_by k (command_word k o n)
  unfolding by_number rows
  decoded FwdWrCrc n h = to_row 2 (n - 1) _ (omega arith) (omega (arith, h.0, h.1)) (to_forward true 512 n h.0 h.1)
  decoded FwdWr n h = to_row 3 (n - 1) _ (omega arith) (omega (arith, h.0, h.1)) (to_forward false 4096 n h.0 h.1)
  decoded (FwdWrEndCrc ends) n h =
      to_row 4 (ends_bits k ends n) _ (omega arith) (ends_low ends n h.0 h.1 k) (to_write_ends true _ ends n (ends_in ends n h.0 h.1 k))
  decoded (FwdWrEnd ends) n h =
      to_row 5 (ends_bits k ends n) _ (omega arith) (ends_low ends n h.0 h.1 k) (to_write_ends false _ ends n (ends_in ends n h.0 h.1 k))
  decoded (FwdRdEndCrc ends) n h =
      let m : n - 1 ≤ 31 = omega (arith, h.1.1) in
      to_row 6 (ends_bits k ends (n - 1)) _ (omega arith) (ends_low ends (n - 1) h.0 m k)
      (to_read_ends true _ ends n h.1.0 (ends_in ends (n - 1) h.0 m k))
  decoded (FwdRdEnd ends) n h =
      let m : n - 1 ≤ 31 = omega (arith, h.1.1) in
      to_row 7 (ends_bits k ends (n - 1)) _ (omega arith) (ends_low ends (n - 1) h.0 m k)
      (to_read_ends false _ ends n h.1.0 (ends_in ends (n - 1) h.0 m k))
  decoded (DataRdCrc count) n h =
      to_row 8 (count - 1) _ (omega arith) (omega (arith, h.0.0, h.0.1)) (to_data true count h.0.0 h.0.1)
  decoded (DataRd count) n h =
      to_row 9 (count - 1) _ (omega arith) (omega (arith, h.0.0, h.0.1)) (to_data false count h.0.0 h.0.1)
  decoded (RegWrCrc address) n h =
      to_row 10 (span_bits k address n) _ (omega arith) (span_low address n h.0 h.1 k)
      (to_register_write true _ address n (span_in address n h.0 h.1 k) h.1)
  decoded (RegWr address) n h =
      to_row 11 (span_bits k address n) _ (omega arith) (span_low address n h.0 h.1 k)
      (to_register_write false _ address n (span_in address n h.0 h.1 k) h.1)
  decoded (RegRdCrc address count) n h =
      to_row 12 (span_bits k address count) _ (omega arith) (span_low address count h.0.0 h.0.1 k)
      (to_register_read true _ address count (span_in address count h.0.0 h.0.1 k) h.0.1)
  decoded (RegRd address count) n h =
      to_row 13 (span_bits k address count) _ (omega arith) (span_low address count h.0.0 h.0.1 k)
      (to_register_read false _ address count (span_in address count h.0.0 h.0.1 k) h.0.1)
  decoded SoftResetCrc n h = to_row 14 (fixed_bits k) SoftReset (omega arith) (reset_low k) (to_reset k)

-- the bridge's own decoding of a command word finds the command that was ordered
pub decodes : (k : Layout) (o : Order) (n : ℕ) → within o n ≡ true → decode_by k (command_word k o n) ≡ meant o n
decodes k o n h = sym (decoded k o n (bounds o n h))

-- and its own count of data words
pub brings_words : (o : Order) (n : ℕ) → within o n ≡ true → data_words (meant o n) ≡ n
brings_words o n h = counted o n (bounds o n h)
  where
    counted : (o : Order) (n : ℕ) → Bounds o n → data_words (meant o n) ≡ n
    counted FwdWrCrc n h = refl
    counted FwdWr n h = refl
    counted (FwdWrEndCrc ends) n h = refl
    counted (FwdWrEnd ends) n h = refl
    counted (FwdRdEndCrc ends) n h = refl
    counted (FwdRdEnd ends) n h = refl
    counted (DataRdCrc count) n h = sym h.1
    counted (DataRd count) n h = sym h.1
    counted (RegWrCrc address) n h = refl
    counted (RegWr address) n h = refl
    counted (RegRdCrc address count) n h = sym h.1
    counted (RegRd address count) n h = sym h.1
    counted SoftResetCrc n h = sym h

pub opens_frame : (o : Order) (n : ℕ) → is_command (meant o n) ≡ true
opens_frame FwdWrCrc n = refl
opens_frame FwdWr n = refl
opens_frame (FwdWrEndCrc ends) n = refl
opens_frame (FwdWrEnd ends) n = refl
opens_frame (FwdRdEndCrc ends) n = refl
opens_frame (FwdRdEnd ends) n = refl
opens_frame (DataRdCrc count) n = refl
opens_frame (DataRd count) n = refl
opens_frame (RegWrCrc address) n = refl
opens_frame (RegWr address) n = refl
opens_frame (RegRdCrc address count) n = refl
opens_frame (RegRd address count) n = refl
opens_frame SoftResetCrc n = refl
