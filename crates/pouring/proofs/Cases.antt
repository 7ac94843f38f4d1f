-- What the arms of the functions by cases give, of the value that was told. Assumes nothing.
use mathlib.Core.Path.{◌≡◌}
use mathlib.Core.Bool.{Bool}
use Prim.Native.Nat.{ℕ}
use Rattle.command.specs.declared.Command.{Command}
use Rattle.state.specs.declared.Note.{Note}
use Rattle.state.specs.declared.Phase.{Phase}
use Rattle.pouring.specs.Pour.{bed_in, bed_of, stream_of, stays, stay_note, poured_phase}
use Rattle.pouring.specs.declared.Bed.{Bed}
use Rattle.pouring.specs.declared.Stream.{Stream}

pub to_bed_in : (c d : Command) (released blocked : Bool) (x : Bed) → c ≡ d → x ≡ bed_in d released blocked → x ≡ bed_in c released blocked
to_bed_in c d released blocked x h k = rw h k

pub to_bed : (p q : Phase) (x : Bed) → p ≡ q → x ≡ bed_of q → x ≡ bed_of p
to_bed p q x h k = rw h k

pub to_stream : (p q : Phase) (n : ℕ) (x : Stream) → p ≡ q → x ≡ stream_of q n → x ≡ stream_of p n
to_stream p q n x h k = rw h k

pub to_stays : (p q : Phase) (w : ℕ) (x : Bool) → p ≡ q → x ≡ stays q w → x ≡ stays p w
to_stays p q w x h k = rw h k

pub to_note : (p q : Phase) (x : Note) → p ≡ q → x ≡ stay_note q → x ≡ stay_note p
to_note p q x h k = rw h k

pub to_poured : (p q : Phase) (s : Stream) (x : Phase) → p ≡ q → x ≡ poured_phase q s → x ≡ poured_phase p s
to_poured p q s x h k = rw h k
