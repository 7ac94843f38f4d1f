-- Every well-formed frame is what the writer writes, for exactly one order and words, in either layout. Assumes nothing.
use mathlib.Core.Path.{◌≡◌, refl, sym, ◌∙◌, ap, ap₂}
use mathlib.Core.Bool.{true, false, ◌&&◌}
use mathlib.Core.List.{List, [], ◌∷◌, ◌++◌}
use Prim.Native.Nat.{ℕ, zero, suc, ◌+◌, ◌-◌, ◌*◌, ◌/◌, ◌%◌, ◌≤◌, ◌<◌}
use native.Mathlib.Omega.{arith}
use lib.Dec.{ltb, leb, eqb}
use lib.ListN.{length, get_or, drop, length-append}
use borrow.Author.Tests.{le-leb, lt-ltb, eq-eqb, leb-true, ltb-true, eqb-true}
use Rattle.base.specs.Pick.{pick_keeps, and_l, and_r, and_both}
use Rattle.base.specs.Truth.{never}
use Rattle.layout.specs.declared.Layout.{Layout}
use Rattle.layout.specs.declared.Layout.TheVariants.{Ours, Makers}
use Rattle.crc16.specs.Crc.{crc_from}
use Rattle.command.specs.Layout.{fields_of, spans, by_number, rows, write, write_ends, read_ends, data_read, register_write, register_read, soft_reset, decode_by, registers_end, reset_bits}
use Rattle.command.specs.declared.Fields.{Fields}
use Rattle.command.specs.declared.Command.{Command}
use Rattle.command.specs.declared.Command.TheVariants.{Malformed}
use Rattle.state.specs.Frame.{data_words}
use Rattle.frames.specs.Frames.{frame_of}
use Rattle.frames.specs.Orders.{ends_bits, span_bits, fixed_bits, within, command_word}
use Rattle.frames.specs.declared.Order.{Order}
use Rattle.frames.specs.declared.Order.TheVariants.{FwdWrCrc, FwdWr, FwdWrEndCrc, FwdWrEnd, FwdRdEndCrc, FwdRdEnd, DataRdCrc, DataRd, RegWrCrc, RegWr, RegRdCrc, RegRd, SoftResetCrc}
use Rattle.frames_found.specs.Frames.{is_command, WellFormed, Writes, OneWay}
use Rattle.frames_found.proofs.Decoding.{Bounds, bounds, ends_in, ends_low, span_in, span_low, reset_low, decodes, brings_words, opens_frame}

-- the order of a command word, by its number, its fields and its low bits
abbrev orders : Fields → ℕ → List Order
orders f low =
    SoftResetCrc
    ∷ SoftResetCrc
    ∷ FwdWrCrc
    ∷ FwdWr
    ∷ FwdWrEndCrc f.ends
    ∷ FwdWrEnd f.ends
    ∷ FwdRdEndCrc f.ends
    ∷ FwdRdEnd f.ends
    ∷ DataRdCrc (low + 1)
    ∷ DataRd (low + 1)
    ∷ RegWrCrc f.address
    ∷ RegWr f.address
    ∷ RegRdCrc f.address f.count
    ∷ RegRd f.address f.count
    ∷ SoftResetCrc
    ∷ []

abbrev order_at : Layout → ℕ → ℕ → Order
order_at k number low = get_or (orders (fields_of k low) low) number SoftResetCrc

abbrev order_in : Layout → ℕ → Order
order_in k word = order_at k (word / 4096) (word % 4096)

count_of : (F : ℕ → Order) (count : ℕ) → 1 ≤ count → F (count - 1 + 1) ≡ F count
count_of F count h = let e : count - 1 + 1 ≡ count = omega arith in ap F e

-- An order is the one of its command word.
module _ (k : Layout) where
  parts : (number low : ℕ) → low < 4096 → order_in k (number * 4096 + low) ≡ order_at k number low
  parts number low h =
      let a : (number * 4096 + low) / 4096 ≡ number = omega arith in
      let b : (number * 4096 + low) % 4096 ≡ low = omega arith in
      ap₂ (λ (i j : ℕ). order_at k i j) a b

  module _ (ends n : ℕ) (h : ends ≤ 127) (m : n ≤ 31) where
    ends_word : (number : ℕ) → order_in k (number * 4096 + ends_bits k ends n) ≡ order_at k number (ends_bits k ends n)
    ends_word number = parts number _ (ends_low ends n h m k)

    ends_of : (F : ℕ → Order) → F (fields_of k (ends_bits k ends n)).ends ≡ F ends
    ends_of F = ap F (sym (ends_in ends n h m k).ends_are)

  module _ (address count : ℕ) (h : 1 ≤ count) (m : address + count ≤ registers_end) where
    span_word : (number : ℕ) → order_in k (number * 4096 + span_bits k address count) ≡ order_at k number (span_bits k address count)
    span_word number = parts number _ (span_low address count h m k)

    address_of : (F : ℕ → Order) → F (fields_of k (span_bits k address count)).address ≡ F address
    address_of F = ap F (sym (span_in address count h m k).address_is)

    span_of : (F : ℕ → ℕ → Order)
        → F (fields_of k (span_bits k address count)).address (fields_of k (span_bits k address count)).count ≡ F address count
    span_of F = ap₂ F (sym (span_in address count h m k).address_is) (sym (span_in address count h m k).count_is)

  found_order : (o : Order) (n : ℕ) → Bounds o n → order_in k (command_word k o n) ≡ o
  found_order FwdWrCrc n h = parts 2 (n - 1) (omega (arith, h.0, h.1))
  found_order FwdWr n h = parts 3 (n - 1) (omega (arith, h.0, h.1))
  found_order (FwdWrEndCrc ends) n h = ends_word ends n h.0 h.1 4 ∙ ends_of ends n h.0 h.1 (λ (e : ℕ). FwdWrEndCrc e)
  found_order (FwdWrEnd ends) n h = ends_word ends n h.0 h.1 5 ∙ ends_of ends n h.0 h.1 (λ (e : ℕ). FwdWrEnd e)
  found_order (FwdRdEndCrc ends) n h =
      let m : n - 1 ≤ 31 = omega (arith, h.1.1) in
      ends_word ends (n - 1) h.0 m 6 ∙ ends_of ends (n - 1) h.0 m (λ (e : ℕ). FwdRdEndCrc e)
  found_order (FwdRdEnd ends) n h =
      let m : n - 1 ≤ 31 = omega (arith, h.1.1) in
      ends_word ends (n - 1) h.0 m 7 ∙ ends_of ends (n - 1) h.0 m (λ (e : ℕ). FwdRdEnd e)
  found_order (DataRdCrc count) n h = parts 8 (count - 1) (omega (arith, h.0.1)) ∙ count_of (λ (c : ℕ). DataRdCrc c) count h.0.0
  found_order (DataRd count) n h = parts 9 (count - 1) (omega (arith, h.0.1)) ∙ count_of (λ (c : ℕ). DataRd c) count h.0.0
  found_order (RegWrCrc address) n h =
      span_word address n h.0 h.1 10 ∙ address_of address n h.0 h.1 (λ (a : ℕ). RegWrCrc a)
  found_order (RegWr address) n h = span_word address n h.0 h.1 11 ∙ address_of address n h.0 h.1 (λ (a : ℕ). RegWr a)
  found_order (RegRdCrc address count) n h =
      span_word address count h.0.0 h.0.1 12 ∙ span_of address count h.0.0 h.0.1 (λ (a c : ℕ). RegRdCrc a c)
  found_order (RegRd address count) n h =
      span_word address count h.0.0 h.0.1 13 ∙ span_of address count h.0.0 h.0.1 (λ (a c : ℕ). RegRd a c)
  found_order SoftResetCrc n h = parts 14 (fixed_bits k) (reset_low k)

-- The fields of low bits, put back where the layout has them, are those low bits.
record EndsBack (k : Layout) (low : ℕ) (f : Fields) : Type 0 where
  ends_most : f.ends ≤ 127
  words_most : f.words ≤ 31
  low_is : ends_bits k f.ends f.words ≡ low

module _ (low : ℕ) (h : low < 4096) where
  ends_back : (k : Layout) → EndsBack k low (fields_of k low)
  unfolding fields_of
  ends_back Ours = record { ends_most = omega arith; words_most = omega arith; low_is = omega arith }
  ends_back Makers = record { ends_most = omega arith; words_most = omega arith; low_is = omega arith }

  span_back : (k : Layout) → (fields_of k low).zeros ≡ true → span_bits k (fields_of k low).address (fields_of k low).count ≡ low
  unfolding fields_of
  span_back Ours t = let z : low / 16 % 16 ≡ 0 = eqb-true (low / 16 % 16) 0 t in omega arith
  span_back Makers t =
      let y : low / 1024 ≡ 0 = eqb-true (low / 1024) 0 (and_l (eqb (low / 1024) 0) (eqb (low / 16 % 4) 0) t) in
      let z : low / 16 % 4 ≡ 0 = eqb-true (low / 16 % 4) 0 (and_r (eqb (low / 1024) 0) (eqb (low / 16 % 4) 0) t) in
      omega arith

  reset_back : (k : Layout) → (fields_of k low).reset ≡ true → fixed_bits k ≡ low
  unfolding fields_of
  reset_back Ours t = sym (eqb-true low 0 t)
  reset_back Makers t = sym (eqb-true low reset_bits t)

  some_count : (k : Layout) → 1 ≤ (fields_of k low).count
  unfolding fields_of
  some_count Ours = omega arith
  some_count Makers = omega arith

-- Each row, the other way: a command word that opens a frame is the one of its order.
pub record Row (k : Layout) (number low : ℕ) (c : Command) : Type 0 where
  pub allowed : within (order_at k number low) (data_words c) ≡ true
  pub word_is : command_word k (order_at k number low) (data_words c) ≡ number * 4096 + low

abbrev Back : Layout → ℕ → ℕ → Command → Type 0
Back k number low c = is_command c ≡ true → Row k number low c

no_command : {A : Type 0} → is_command Malformed ≡ true → A
no_command h = never false h refl

-- a number with its low bits
on_number : (number a b : ℕ) → a ≡ b → number * 4096 + a ≡ number * 4096 + b
on_number number a b e = ap (λ (i : ℕ). number * 4096 + i) e

module _ (k : Layout) (low : ℕ) (h : low < 4096) where
  abbrev f : Fields
  f = fields_of k low

  some : (most : ℕ) → leb (low + 1) most ≡ true → (leb 1 (low + 1) && leb (low + 1) most) ≡ true
  some most t = and_both (leb 1 (low + 1)) (leb (low + 1) most) (le-leb 1 (low + 1) (omega arith)) t

  -- 2, 3
  back_write_crc : Back k 2 low (write true 512 low)
  unfolding write
  back_write_crc =
      pick_keeps (Back k 2 low) (leb (low + 1) 512) _ _ (λ t i. record { allowed = some 512 t; word_is = omega arith }) (λ t i. no_command i)

  back_write : Back k 3 low (write false 4096 low)
  unfolding write
  back_write =
      pick_keeps (Back k 3 low) (leb (low + 1) 4096) _ _ (λ t i. record { allowed = some 4096 t; word_is = omega arith }) (λ t i. no_command i)

  -- 4 to 7
  e : EndsBack k low f
  e = ends_back low h k

  ends_allowed : (leb f.ends 127 && leb f.words 31) ≡ true
  ends_allowed = and_both (leb f.ends 127) (leb f.words 31) (le-leb f.ends 127 e.ends_most) (le-leb f.words 31 e.words_most)

  back_allowed : (leb f.ends 127 && (leb 1 (f.words + 1) && leb (f.words + 1) 32)) ≡ true
  back_allowed =
      and_both (leb f.ends 127) (leb 1 (f.words + 1) && leb (f.words + 1) 32) (le-leb f.ends 127 e.ends_most)
      (and_both (leb 1 (f.words + 1)) (leb (f.words + 1) 32) (le-leb 1 (f.words + 1) (omega arith))
      (le-leb (f.words + 1) 32 (omega (arith, e.words_most))))

  read_back_low : ends_bits k f.ends (f.words + 1 - 1) ≡ low
  read_back_low = let z : f.words + 1 - 1 ≡ f.words = omega arith in ap (λ (n : ℕ). ends_bits k f.ends n) z ∙ e.low_is

  back_ends_crc : Back k 4 low (write_ends true f)
  back_ends_crc i = record { allowed = ends_allowed; word_is = on_number 4 _ _ e.low_is }

  back_ends : Back k 5 low (write_ends false f)
  back_ends i = record { allowed = ends_allowed; word_is = on_number 5 _ _ e.low_is }

  back_read_ends_crc : Back k 6 low (read_ends true f)
  back_read_ends_crc i = record { allowed = back_allowed; word_is = on_number 6 _ _ read_back_low }

  back_read_ends : Back k 7 low (read_ends false f)
  back_read_ends i = record { allowed = back_allowed; word_is = on_number 7 _ _ read_back_low }

  -- 8, 9
  data_allowed : ltb low 256 ≡ true → ((leb 1 (low + 1) && leb (low + 1) 256) && eqb 0 0) ≡ true
  data_allowed t =
      let l = ltb-true low 256 t in
      and_both (leb 1 (low + 1) && leb (low + 1) 256) (eqb 0 0) (some 256 (le-leb (low + 1) 256 (omega (arith, l)))) (eq-eqb 0 0 refl)

  back_data_crc : Back k 8 low (data_read true low)
  unfolding data_read
  back_data_crc =
      pick_keeps (Back k 8 low) (ltb low 256) _ _ (λ t i. record { allowed = data_allowed t; word_is = omega arith }) (λ t i. no_command i)

  back_data : Back k 9 low (data_read false low)
  unfolding data_read
  back_data =
      pick_keeps (Back k 9 low) (ltb low 256) _ _ (λ t i. record { allowed = data_allowed t; word_is = omega arith }) (λ t i. no_command i)

  -- 10 to 13
  module _ (t : spans f ≡ true) where
    within_end : f.address + f.count ≤ registers_end
    unfolding spans
    within_end = leb-true (f.address + f.count) registers_end (and_r f.zeros (leb (f.address + f.count) registers_end) t)

    low_back : span_bits k f.address f.count ≡ low
    unfolding spans
    low_back = span_back low h k (and_l f.zeros (leb (f.address + f.count) registers_end) t)

    span_allowed : (leb 1 f.count && leb (f.address + f.count) registers_end) ≡ true
    span_allowed =
        and_both (leb 1 f.count) (leb (f.address + f.count) registers_end) (le-leb 1 f.count (some_count low h k))
        (le-leb (f.address + f.count) registers_end within_end)

    write_allowed : (ltb f.address registers_end && (leb 1 f.count && leb (f.address + f.count) registers_end)) ≡ true
    write_allowed =
        and_both (ltb f.address registers_end) (leb 1 f.count && leb (f.address + f.count) registers_end)
        (lt-ltb f.address registers_end (omega (arith, within_end, some_count low h k))) span_allowed

    read_allowed : ((leb 1 f.count && leb (f.address + f.count) registers_end) && eqb 0 0) ≡ true
    read_allowed = and_both (leb 1 f.count && leb (f.address + f.count) registers_end) (eqb 0 0) span_allowed (eq-eqb 0 0 refl)

  back_register_write_crc : Back k 10 low (register_write true f)
  unfolding register_write
  back_register_write_crc =
      pick_keeps (Back k 10 low) (spans f) _ _ (λ t i. record { allowed = write_allowed t; word_is = on_number 10 _ _ (low_back t) }) (λ t i. no_command i)

  back_register_write : Back k 11 low (register_write false f)
  unfolding register_write
  back_register_write =
      pick_keeps (Back k 11 low) (spans f) _ _ (λ t i. record { allowed = write_allowed t; word_is = on_number 11 _ _ (low_back t) }) (λ t i. no_command i)

  back_register_read_crc : Back k 12 low (register_read true f)
  unfolding register_read
  back_register_read_crc =
      pick_keeps (Back k 12 low) (spans f) _ _ (λ t i. record { allowed = read_allowed t; word_is = on_number 12 _ _ (low_back t) }) (λ t i. no_command i)

  back_register_read : Back k 13 low (register_read false f)
  unfolding register_read
  back_register_read =
      pick_keeps (Back k 13 low) (spans f) _ _ (λ t i. record { allowed = read_allowed t; word_is = on_number 13 _ _ (low_back t) }) (λ t i. no_command i)

  -- 14
  back_reset : Back k 14 low (soft_reset f)
  unfolding soft_reset
  back_reset =
      pick_keeps (Back k 14 low) f.reset _ _
      (λ t i. record { allowed = eq-eqb 0 0 refl; word_is = on_number 14 _ _ (reset_back low h k t) })
      (λ t i. no_command i)

  back : (number : ℕ) → Back k number low (by_number k number low)
  unfolding by_number rows
  back zero i = no_command i
  back (suc zero) i = no_command i
  back (suc (suc zero)) i = back_write_crc i
  back (suc (suc (suc zero))) i = back_write i
  back (suc (suc (suc (suc zero)))) i = back_ends_crc i
  back (suc (suc (suc (suc (suc zero))))) i = back_ends i
  back (suc (suc (suc (suc (suc (suc zero)))))) i = back_read_ends_crc i
  back (suc (suc (suc (suc (suc (suc (suc zero))))))) i = back_read_ends i
  back (suc (suc (suc (suc (suc (suc (suc (suc zero)))))))) i = back_data_crc i
  back (suc (suc (suc (suc (suc (suc (suc (suc (suc zero))))))))) i = back_data i
  back (suc (suc (suc (suc (suc (suc (suc (suc (suc (suc zero)))))))))) i = back_register_write_crc i
  back (suc (suc (suc (suc (suc (suc (suc (suc (suc (suc (suc zero))))))))))) i = back_register_write i
  back (suc (suc (suc (suc (suc (suc (suc (suc (suc (suc (suc (suc zero)))))))))))) i = back_register_read_crc i
  back (suc (suc (suc (suc (suc (suc (suc (suc (suc (suc (suc (suc (suc zero))))))))))))) i = back_register_read i
  back (suc (suc (suc (suc (suc (suc (suc (suc (suc (suc (suc (suc (suc (suc zero)))))))))))))) i = back_reset i
  back (suc (suc (suc (suc (suc (suc (suc (suc (suc (suc (suc (suc (suc (suc (suc n))))))))))))))) i = no_command i

back_word : (k : Layout) (w : ℕ) → Back k (w / 4096) (w % 4096) (decode_by k w)
unfolding decode_by
back_word k w =
    pick_keeps (Back k (w / 4096) (w % 4096)) (eqb w 65535) _ _ (λ t i. never false i refl) (λ t. back k (w % 4096) (omega arith) (w / 4096))

-- the last word of a list that ends in one more
last_apart : (xs ys : List ℕ) (a b : ℕ) → xs ++ (a ∷ []) ≡ ys ++ (b ∷ []) → xs ≡ ys
last_apart [] [] a b e = refl
last_apart [] (y ∷ ys) a b e = absurd (omega (arith, ap length e, length-append ys (b ∷ [])))
last_apart (x ∷ xs) [] a b e = absurd (omega (arith, ap length e, length-append xs (a ∷ [])))
last_apart (x ∷ xs) (y ∷ ys) a b e =
    ap₂ (λ (v : ℕ) (vs : List ℕ). v ∷ vs) (ap (λ (l : List ℕ). get_or l 0 0) e) (last_apart xs ys a b (ap (λ (l : List ℕ). drop 1 l) e))

module _ (k : Layout) (s : ℕ) where
  -- "for exactly one order and words"
  only_one : (o p : Order) (ws vs frame : List ℕ) → Writes k s o ws frame → Writes k s p vs frame → (o ≡ p) × (ws ≡ vs)
  only_one o p ws vs frame a b = (order_is, words_are)
    where
      same : frame_of k s o ws ≡ frame_of k s p vs
      same = a.frame_is ∙ sym b.frame_is

      words_are : ws ≡ vs
      words_are = last_apart ws vs _ _ (ap (λ (l : List ℕ). drop 1 l) same)

      word_is : command_word k o (length ws) ≡ command_word k p (length vs)
      word_is = ap (λ (l : List ℕ). get_or l 0 0) same

      order_is : o ≡ p
      order_is =
          sym (found_order k o (length ws) (bounds o (length ws) a.within_limits)) ∙ ap (λ (w : ℕ). order_in k w) word_is
          ∙ found_order k p (length vs) (bounds p (length vs) b.within_limits)

  -- "every well-formed frame is one the writer gives"
  pub one_way : (frame : List ℕ) → WellFormed k s frame → OneWay k s frame
  one_way frame f = record { order = o; words = f.words; writes = written; only = λ p vs b. only_one p o vs f.words frame b written }
    where
      o : Order
      o = order_in k f.word

      row : Row k (f.word / 4096) (f.word % 4096) (decode_by k f.word)
      row = back_word k f.word f.opens

      word_back : command_word k o (length f.words) ≡ f.word
      word_back =
          let s : f.word / 4096 * 4096 + f.word % 4096 ≡ f.word = omega arith in
          ap (λ (n : ℕ). command_word k o n) f.all_there ∙ row.word_is ∙ s

      written : Writes k s o f.words frame
      written = record {
        within_limits = ap (λ (n : ℕ). within o n) f.all_there ∙ row.allowed;
        frame_is =
            ap (λ (w : ℕ). w ∷ (f.words ++ (crc_from s (w ∷ f.words) ∷ []))) word_back
            ∙ ap (λ (c : ℕ). f.word ∷ (f.words ++ (c ∷ []))) (sym f.right) ∙ sym f.is;
      }

  -- "Every command that 01 allows can be written", and what is written is well formed
  pub well_formed : (o : Order) (words : List ℕ) → within o (length words) ≡ true → WellFormed k s (frame_of k s o words)
  well_formed o words h =
      let n : ℕ = length words in
      let d = decodes k o n h in
      record {
        word = command_word k o n;
        words = words;
        crc = crc_from s (command_word k o n ∷ words);
        is = refl;
        opens = ap (λ (c : Command). is_command c) d ∙ opens_frame o n;
        all_there = sym (ap (λ (c : Command). data_words c) d ∙ brings_words o n h);
        right = refl;
      }
