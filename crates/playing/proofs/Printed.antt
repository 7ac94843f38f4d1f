-- Laws of the lines of a group, as the functions' proofs ask them. Assumes nothing.
use mathlib.Core.Path.{◌≡◌, refl, sym, ◌∙◌, ap, ap₂}
use mathlib.Core.Bool.{true}
use mathlib.Core.List.{List, [], ◌∷◌, ◌++◌}
use Prim.Native.Nat.{ℕ, ◌+◌, ◌-◌, ◌*◌, ◌/◌, ◌≤◌, ◌<◌}
use native.Mathlib.Omega.{arith}
use lib.Dec.{eqb}
use lib.ListN.{length, get_or, take, drop, length-append, length-drop}
use lib.Seq.{sets, take_all, length-sets}
use Rattle.script.specs.Script.{value_of, line_of}
use Rattle.script.specs.declared.Line.{Line}
use Rattle.playing.specs.Playing.{bytes_of}
use Rattle.playing.specs.Lines.{line_with, first_line, lines_in, refused_lines}
use Rattle.playing.proofs.Laws.{sets_append, Short, line_short}

-- what the code's `s[n..]` is
pub rest_of : (n : ℕ) (s : List ℕ) → take (length s - n) (drop n s) ≡ drop n s
rest_of n s = let l = length-drop n s in take_all (length s - n) (drop n s) (omega (arith, l))

-- some lines are printed: those of the records left, from here, are the whole
pub record Lined (text₀ cells₀ : List ℕ) (at : ℕ) (text cells : List ℕ) (next : ℕ) (left : List ℕ) : Type 0 where
  pub all : sets cells next text ≡ sets cells₀ at text₀
  pub place : next + length text ≡ at + length text₀
  pub space : next + length left / 3 * 17 ≤ length cells
  pub same : length cells ≡ length cells₀

lined_begins : (text cells : List ℕ) (at : ℕ) (left : List ℕ) → at + length left / 3 * 17 ≤ length cells → Lined text cells at text cells at left
lined_begins text cells at left h = record { all = refl; place = refl; space = h; same = refl }

module _ (text₀ cells₀ : List ℕ) (at : ℕ) (text cells : List ℕ) (next : ℕ) (left : List ℕ) (v : Lined text₀ cells₀ at text cells next left) where
  -- none are left
  module _ (e : text ≡ []) where
    lined_place : next ≡ at + length text₀
    lined_place = let n : length text ≡ 0 = ap length e in omega (arith, n, v.place)

    lined_text : cells ≡ sets cells₀ at text₀
    lined_text = sym (ap (sets cells next) e) ∙ v.all

  -- one more line
  module _ (h : 3 ≤ length left) (line : Line) (s : Short line) where
    lined_fits : next + line.length ≤ length cells
    lined_fits = omega (arith, s.1, v.space)

    lined_again : (more : List ℕ) → text ≡ bytes_of line ++ more → (c : List ℕ) (n : ℕ) → c ≡ sets cells next (bytes_of line) → n ≡ next + line.length
        → Lined text₀ cells₀ at more c n (drop 3 left)
    lined_again more e c n f k =
        let m : n ≡ next + length (bytes_of line) = omega (arith, s.0, k) in
        let l = length-append (bytes_of line) more in
        let j : length text ≡ length (bytes_of line ++ more) = ap length e in
        let p = length-drop 3 left in
        let size : length c ≡ length cells = ap length f ∙ length-sets cells next (bytes_of line) in
        record {
          all =
              ap₂ (λ (x : List ℕ) (y : ℕ). sets x y more) f m ∙ sym (sets_append (bytes_of line) more cells next)
              ∙ ap (sets cells next) (sym e) ∙ v.all;
          place = omega (arith, m, l, j, v.place);
          space = omega (arith, p, s.1, k, size, v.space);
          same = size ∙ v.same;
        }

-- The lines of events that were done.
pub to_first : (records s : List ℕ) (value note sdo : ℕ) (line : Line) → value ≡ value_of (get_or records 1 0) (get_or records 2 0) → note ≡ get_or s 0 0
    → sdo ≡ value_of (get_or s 1 0) (get_or s 2 0) → line ≡ line_of (get_or records 0 0) value note sdo (eqb (get_or s 3 0) 1) → line ≡ first_line records s
to_first records s value note sdo line v n d e = e ∙ rw (v, n, d)

first_of_lem : (records s : List ℕ) → 3 ≤ length records → lines_in records s ≡ bytes_of (first_line records s) ++ lines_in (drop 3 records) (drop 4 s)
unfolding lines_in
first_of_lem [] s h = absurd (omega arith)
first_of_lem (kind ∷ []) s h = absurd (omega arith)
first_of_lem (kind ∷ high ∷ []) s h = absurd (omega arith)
first_of_lem (kind ∷ high ∷ low ∷ rest) s h = refl

-- fewer than three bytes are no record
none_in : (records s : List ℕ) → length records < 3 → lines_in records s ≡ []
unfolding lines_in
none_in [] s h = refl
none_in (kind ∷ []) s h = refl
none_in (kind ∷ high ∷ []) s h = refl
none_in (kind ∷ high ∷ low ∷ rest) s h = absurd (omega arith)

-- no more than the longest line of each
pub lines_short : (records s : List ℕ) → length (lines_in records s) ≤ length records / 3 * 17
unfolding lines_in
lines_short [] s = omega arith
lines_short (kind ∷ []) s = omega arith
lines_short (kind ∷ high ∷ []) s = omega arith
lines_short (kind ∷ high ∷ low ∷ rest) s =
    let f = lines_short rest (drop 4 s) in
    let h = line_short kind (value_of high low) (get_or s 0 0) (value_of (get_or s 1 0) (get_or s 2 0)) (eqb (get_or s 3 0) 1) in
    let a = length-append (bytes_of (line_with kind (value_of high low) s)) (lines_in rest (drop 4 s)) in
    omega (arith, f, h.0, h.1, a)

pub record Printed (records results cells₀ : List ℕ) (at : ℕ) (cells left given : List ℕ) (next : ℕ) : Type 0 where
  pub lined : Lined (lines_in records results) cells₀ at (lines_in left given) cells next left
  pub bytes : length left / 3 * 4 ≤ length given

pub print_begins : (records results cells : List ℕ) (at : ℕ) → length records / 3 * 4 ≤ length results → at + length records / 3 * 17 ≤ length cells
    → Printed records results cells at cells records results at
print_begins records results cells at h k = record { lined = lined_begins (lines_in records results) cells at records k; bytes = h }

module _ (records results cells₀ : List ℕ) (at : ℕ) (cells left given : List ℕ) (next : ℕ)
    (v : Printed records results cells₀ at cells left given next) where
  module _ (h : length left < 3) where
    pub print_place : next ≡ at + length (lines_in records results)
    print_place = lined_place _ _ _ _ _ _ _ v.lined (none_in left given h)

    pub print_text : cells ≡ sets cells₀ at (lines_in records results)
    print_text = lined_text _ _ _ _ _ _ _ v.lined (none_in left given h)

  module _ (h : 3 ≤ length left) where
    pub print_room : 4 ≤ length given
    print_room = omega (arith, v.bytes)

    module _ (line : Line) (e : line ≡ first_line left given) where
      short : Short line
      short = rw e (line_short _ _ _ _ _)

      pub print_short : line.length ≤ 17
      print_short = short.1

      pub print_fits : next + line.length ≤ length cells
      print_fits = lined_fits _ _ _ _ _ _ _ v.lined h line short

      pub print_again : (c : List ℕ) (n : ℕ) → c ≡ sets cells next (bytes_of line) → n ≡ next + line.length
          → Printed records results cells₀ at c (take (length left - 3) (drop 3 left)) (take (length given - 4) (drop 4 given)) n
      print_again c n f k =
          let p = length-drop 3 left in
          let q = length-drop 4 given in
          let more : List ℕ = lines_in (drop 3 left) (drop 4 given) in
          let g : lines_in left given ≡ bytes_of line ++ more = first_of_lem left given h ∙ ap (λ (x : Line). bytes_of x ++ more) (sym e) in
          let w : Printed records results cells₀ at c (drop 3 left) (drop 4 given) n =
          record { lined = lined_again _ _ _ _ _ _ _ v.lined h line short more g c n f k; bytes = omega (arith, p, q, v.bytes) } in
          rw (rest_of 3 left, rest_of 4 given) w

-- The lines of events that were refused.
module _ (note : ℕ) where
  abbrev refused_line : List ℕ → Line
  refused_line records = line_of (get_or records 0 0) (value_of (get_or records 1 0) (get_or records 2 0)) note 0xFFFF true

  first_refused : (records : List ℕ) → 3 ≤ length records → refused_lines note records ≡ bytes_of (refused_line records) ++ refused_lines note (drop 3 records)
  unfolding refused_lines
  first_refused [] h = absurd (omega arith)
  first_refused (kind ∷ []) h = absurd (omega arith)
  first_refused (kind ∷ high ∷ []) h = absurd (omega arith)
  first_refused (kind ∷ high ∷ low ∷ rest) h = refl

  none_refused : (records : List ℕ) → length records < 3 → refused_lines note records ≡ []
  unfolding refused_lines
  none_refused [] h = refl
  none_refused (kind ∷ []) h = refl
  none_refused (kind ∷ high ∷ []) h = refl
  none_refused (kind ∷ high ∷ low ∷ rest) h = absurd (omega arith)

  pub record PrintedRefused (records cells₀ : List ℕ) (at : ℕ) (cells left : List ℕ) (next : ℕ) : Type 0 where
    pub lined : Lined (refused_lines note records) cells₀ at (refused_lines note left) cells next left

  pub refused_begins : (records cells : List ℕ) (at : ℕ) → at + length records / 3 * 17 ≤ length cells → PrintedRefused records cells at cells records at
  refused_begins records cells at k = record { lined = lined_begins (refused_lines note records) cells at records k }

  module _ (records cells₀ : List ℕ) (at : ℕ) (cells left : List ℕ) (next : ℕ) (v : PrintedRefused records cells₀ at cells left next) where
    module _ (h : length left < 3) where
      pub refused_place : next ≡ at + length (refused_lines note records)
      refused_place = lined_place _ _ _ _ _ _ _ v.lined (none_refused left h)

      pub refused_text : cells ≡ sets cells₀ at (refused_lines note records)
      refused_text = lined_text _ _ _ _ _ _ _ v.lined (none_refused left h)

    module _ (h : 3 ≤ length left) (value : ℕ) (w : value ≡ value_of (get_or left 1 0) (get_or left 2 0)) (line : Line)
        (e : line ≡ line_of (get_or left 0 0) value note 0xFFFF true) where
      is_refused : line ≡ refused_line left
      is_refused = e ∙ rw w

      its_short : Short line
      its_short = rw e (line_short _ _ _ _ _)

      pub refused_short : line.length ≤ 17
      refused_short = its_short.1

      pub refused_fits : next + line.length ≤ length cells
      refused_fits = lined_fits _ _ _ _ _ _ _ v.lined h line its_short

      pub refused_again : (c : List ℕ) (n : ℕ) → c ≡ sets cells next (bytes_of line) → n ≡ next + line.length
          → PrintedRefused records cells₀ at c (take (length left - 3) (drop 3 left)) n
      refused_again c n f k =
          let more : List ℕ = refused_lines note (drop 3 left) in
          let g : refused_lines note left ≡ bytes_of line ++ more = first_refused left h ∙ ap (λ (x : Line). bytes_of x ++ more) (sym is_refused) in
          let w : PrintedRefused records cells₀ at c (drop 3 left) n =
          record { lined = lined_again _ _ _ _ _ _ _ v.lined h line its_short more g c n f k } in
          rw (rest_of 3 left) w
