-- Runs that meet the theorem's premises: every line with one check bit changed, as ticks from power-up; and, computed, one with host words in its midst,
-- where the host then reads the number. Assumes nothing.
use mathlib.Core.Path.{◌≡◌, refl}
use mathlib.Core.Bool.{Bool, true, false, not, ◌&&◌, ◌||◌}
use mathlib.Core.List.{List, [], ◌∷◌, ◌++◌, map}
use Prim.Native.Nat.{ℕ, ◌<◌, min}
use native.Mathlib.Omega.{arith}
use lib.ListN.{length, take, drop}
use borrow.Author.Tests.{not-true}
use Rattle.base.specs.Bits.{word_end}
use Rattle.base.specs.Pick.{and_l, and_r}
use Rattle.crc16.specs.Crc.{crc_of}
use Rattle.command.specs.Layout.{register_read}
use Rattle.command.specs.Layouts.{Layouts, layouts}
use Rattle.line.specs.Format.{Segment, word_bits, end_bits, words_bits, encode, Words, Sixteen}
use Rattle.line.specs.Reader.{last_number}
use Rattle.line.specs.Damage.{wrong_bits, damaged, bit_before, bit_behind, passes_for_end}
use Rattle.line.specs.declared.Ear.TheVariants.{Quiet}
use Rattle.registers.specs.Registers.{read_of}
use Rattle.closing.specs.Closing.{read_closed}
use Rattle.answers.specs.Answers.{answer_with, register_answered, answered}
use Rattle.kept.proofs.Fits.{layouts_fit}
use Rattle.events.specs.declared.Event.{Event}
use Rattle.events.specs.declared.Event.TheVariants.{Word, Tick}
use Rattle.bridge.specs.Runs.{Config, Whole, out_of, next, end_of}
use Rattle.order.specs.Accepted.{plan_of}
use Rattle.order.specs.Premises.{is_power}
use Rattle.order.proofs.Examples.{from, frame, opening, meets}
use Rattle.bad_word.specs.BadWord.{register11, check_bit_of, sin_of, resets_reader, Leaves, Undisturbed}
use Rattle.bad_word.proofs.BadWord.{register_is_the_word}

-- Ticks alone disturb nothing, so each line has a run.
ticks_undisturbed : (l : Layouts) (c : Config) (bits : List Bool) → Undisturbed l c (map Tick bits)
unfolding plan_of is_power resets_reader
ticks_undisturbed l c [] = tt
ticks_undisturbed l c (b ∷ bits) =
    (record { no_power = refl; no_reset = refl; no_clear = λ h. h }, ticks_undisturbed l (next l c (Tick b)) bits)

ticks_sin : (bits : List Bool) → sin_of (map Tick bits) ≡ bits
unfolding sin_of
ticks_sin [] = refl
ticks_sin (b ∷ bits) = rw (ticks_sin bits)

-- Power-up: the record is right, the reader idle, the flag down.
from_whole : Whole from
unfolding meets
from_whole = record { stores = record { tx_is = refl; rx_is = refl }; rules = refl; eight = refl }

from_quiet : from.bridge.receiving.reader.ear ≡ Quiet
unfolding meets
from_quiet = refl

from_down : check_bit_of from ≡ false
unfolding meets
from_down = refl

-- Each line with one check bit changed, as ticks.
pub on_ticks : (s : List Segment) (before : List ℕ) (w : ℕ) (after : List ℕ) (t : List Segment) → Sixteen s → Words before → w < word_end
    → passes_for_end before w after ≡ false
    → register11 (end_of layouts from (map Tick (damaged s before w after t))) ≡ min (length before) last_number
on_ticks s before w after t a b g p =
    let bits : List Bool = damaged s before w after t in
    (register_is_the_word layouts layouts_fit from _ from_whole from_quiet from_down (ticks_undisturbed layouts from bits) s before w after t a b g p
    (ticks_sin bits)).1

-- `Undisturbed` as a test, for runs with host words.
leaves : Layouts → Config → Event → Bool
leaves l c e =
    (not (is_power e) && not (resets_reader (plan_of l c e).receive)) && (not (check_bit_of c) || (plan_of l c e).control.flags.check_bit)

undisturbed : Layouts → Config → List Event → Bool
undisturbed l c [] = true
undisturbed l c (e ∷ es) = leaves l c e && undisturbed l (next l c e) es

either : (a b : Bool) → (not a || b) ≡ true → a ≡ true → b ≡ true
either true b h k = h
either false b h k = cc

module _ (l : Layouts) where
  is_left : (c : Config) (e : Event) → leaves l c e ≡ true → Leaves l c e
  unfolding leaves
  is_left c e h = record {
    no_power = not-true _ (search (and_l, and_r));
    no_reset = not-true _ (search (and_l, and_r));
    no_clear = λ k. either (check_bit_of c) _ (search (and_l, and_r)) k;
  }

  are_undisturbed : (c : Config) (es : List Event) → undisturbed l c es ≡ true → Undisturbed l c es
  unfolding undisturbed
  are_undisturbed c [] h = tt
  are_undisturbed c (e ∷ es) h = (is_left c e (and_l (leaves l c e) _ h), are_undisturbed (next l c e) es (and_r (leaves l c e) _ h))

-- A command of two words, the second with its check bit changed.
pub line : List Bool
unfolding meets damaged encode words_bits word_bits end_bits wrong_bits
line = damaged [] (0x1234 ∷ []) 0xAAF0 [] []

-- The flags cleared, then that line, with a frame that asks for the register in its midst.
pub amid : List Event
amid = opening ++ (map Tick (take 25 line) ++ (frame (0xC00B ∷ []) ++ map Tick (drop 25 line)))

-- It meets the premises.
amid_undisturbed : undisturbed layouts from amid ≡ true
unfolding amid line undisturbed leaves resets_reader register_read read_closed answered answer_with register_answered
amid_undisturbed = refl

amid_sin : sin_of amid ≡ line
unfolding amid line sin_of
amid_sin = refl

-- The register shows word 1.
pub amid_shows : register11 (end_of layouts from amid) ≡ 1
unfolding line passes_for_end bit_before bit_behind
amid_shows =
    (register_is_the_word layouts layouts_fit from amid from_whole from_quiet from_down (are_undisturbed layouts from amid amid_undisturbed)
    [] (0x1234 ∷ []) 0xAAF0 [] [] tt (omega arith, tt) (omega arith) refl amid_sin).1

-- The host reads it: REG_RD_CRC of address 11.
pub asked : List Event
asked = amid ++ (Word 0xC00B ∷ Word (crc_of (0xC00B ∷ [])) ∷ [])

pub amid_read : (out_of layouts (end_of layouts from asked) (Word 0xFFFF)).answer.sdo ≡ 1
unfolding asked amid line register_read read_closed answered answer_with register_answered read_of
amid_read = refl
