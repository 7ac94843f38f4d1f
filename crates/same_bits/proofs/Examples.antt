-- What `SameBits` asks can be met: from power-up a word and two extra ENDs are queued, and their start bit goes out.
use Rattle.std.specs.Prelude.{None, Some}
use mathlib.Core.Path.{◌≡◌, refl}
use mathlib.Core.Bool.{true, false}
use mathlib.Core.List.{List, [], ◌∷◌}
use native.Mathlib.Omega.{arith}
use Rattle.state.specs.Power.{power_up, power_up_in}
use Rattle.state.specs.Queue.{new_place}
use Rattle.state.specs.Sending.{stored, done}
use Rattle.state.specs.declared.Deed.TheVariants.{Leave, Enqueue}
use Rattle.same_bits.specs.SameBits.{Alike, Act, ticked, hosted, bits_now, bits_before, Allowed}
use Rattle.same_bits.proofs.Bits.{line_bits_stay}

abbrev acts : List Act
acts = hosted (Some 0xAAF0) Leave ∷ hosted None (Enqueue (new_place 1 2 false)) ∷ ticked true 0xAAF0 ∷ []

alike : Alike power_up.sending power_up.sending
unfolding power_up_in
alike =
    record {
      fits = record {
        ranges = record { order = omega arith; most = omega arith; words = λ i l. absurd (omega arith); ends = λ i l. absurd (omega arith) };
        eight = refl;
      };
      others_fit = record {
        ranges = record { order = omega arith; most = omega arith; words = λ i l. absurd (omega arith); ends = λ i l. absurd (omega arith) };
        eight = refl;
      };
      tx = refl;
      sender = refl;
      waits = refl;
    }

allowed : Allowed power_up.sending power_up.sending acts
unfolding power_up_in stored done new_place
allowed = (tt, tt, ((omega arith, omega arith, omega arith), (omega arith, omega arith, omega arith), tt))

pub pair_alike : bits_now power_up.sending acts ≡ bits_before power_up.sending acts
pair_alike = line_bits_stay.same_bits power_up.sending power_up.sending acts alike allowed
