-- The bits in a night's results are the run's own, and a run of two parts. Assumes nothing.
use mathlib.Core.Path.{◌≡◌, refl, sym, ◌∙◌, ap, ap₂}
use mathlib.Core.Bool.{Bool, true, false}
use mathlib.Core.List.{List, [], ◌∷◌, ◌++◌, append_assoc}
use Prim.Native.Nat.{ℕ}
use lib.Dec.{eqb}
use Rattle.command.specs.Layouts.{Layouts}
use Rattle.state.specs.Notes.{note_number}
use Rattle.events.specs.Turn.{Out}
use Rattle.events.specs.declared.Event.{Event}
use Rattle.bridge.specs.Runs.{Config, out_of, next, end_of, line_bit, sout_of}
use Rattle.listing.specs.Results.{bit_byte, four_bytes}
use Rattle.whole_night.specs.Night.{bytes_in}
use Rattle.night_order.specs.Line.{sout_in}

-- the byte of a bit says the bit
bit_read : (b : Bool) → eqb (bit_byte b) 1 ≡ b
unfolding bit_byte
bit_read true = refl
bit_read false = refl

abbrev bytes_of : Out → List ℕ
bytes_of o = four_bytes (note_number o.answer.note) o.answer.sdo o.answer.sout

module _ (l : Layouts) where
  -- whatever stands behind the results
  pub bits_in_results : (c : Config) (es : List Event) (rest : List ℕ) → sout_in es (bytes_in l c es ++ rest) ≡ sout_of l c es
  unfolding sout_in bytes_in sout_of
  bits_in_results c [] rest = refl
  bits_in_results c (e ∷ es) rest =
      ap₂ (λ (x y : List Bool). x ++ y) (ap (line_bit e) (bit_read (out_of l c e).answer.sout)) (bits_in_results (next l c e) es rest)

  -- A run of two parts: where it ends, its results and its bits.
  pub end_append : (c : Config) (es more : List Event) → end_of l c (es ++ more) ≡ end_of l (end_of l c es) more
  unfolding end_of
  end_append c [] more = refl
  end_append c (e ∷ es) more = end_append (next l c e) es more

  pub bytes_append : (c : Config) (es more : List Event) → bytes_in l c (es ++ more) ≡ bytes_in l c es ++ bytes_in l (end_of l c es) more
  unfolding bytes_in end_of
  bytes_append c [] more = refl
  bytes_append c (e ∷ es) more =
      ap (λ (x : List ℕ). bytes_of (out_of l c e) ++ x) (bytes_append (next l c e) es more)
      ∙ sym (append_assoc (bytes_of (out_of l c e)) (bytes_in l (next l c e) es) (bytes_in l (end_of l (next l c e) es) more))

  pub sout_append : (c : Config) (es more : List Event) → sout_of l c (es ++ more) ≡ sout_of l c es ++ sout_of l (end_of l c es) more
  unfolding sout_of end_of
  sout_append c [] more = refl
  sout_append c (e ∷ es) more =
      let bits : List Bool = line_bit e (out_of l c e).answer.sout in
      ap (λ (x : List Bool). bits ++ x) (sout_append (next l c e) es more)
      ∙ sym (append_assoc bits (sout_of l (next l c e) es) (sout_of l (end_of l (next l c e) es) more))
