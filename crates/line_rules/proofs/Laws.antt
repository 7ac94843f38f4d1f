-- Laws of the definitions, in the form in which the functions' proofs ask them. Assumes nothing.
use mathlib.Core.Path.{◌≡◌, refl}
use mathlib.Core.Bool.{Bool, not, ◌&&◌, ◌||◌}
use Prim.Native.Nat.{ℕ}
use lib.Dec.{ltb, leb, eqb}
use Rattle.base.specs.Pick.{pick}
use Rattle.line.specs.declared.Ear.{Ear}
use Rattle.line.specs.declared.Piece.{Piece}
use Rattle.line.specs.declared.Piece.TheVariants.{EndPiece}
use Rattle.registers.specs.declared.Flags.{Flags}
use Rattle.state.specs.declared.Reader.{Reader}
use Rattle.state.specs.declared.Place.{Place}
use Rattle.state.specs.declared.Queue.{Queue}
use Rattle.state.specs.declared.Sender.{Sender}
use Rattle.line_rules.specs.Line.{end_sound, piece_sound, ear_sound, marks_sound}

pub to_marks : (v w : Ear) (r : Reader) (q : Queue) (f : Flags) (x : Bool) → v ≡ w → x ≡ marks_sound w r q f → x ≡ marks_sound v r q f
to_marks v w r q f x h e = rw h e

pub to_piece : (v w : Piece) (s : Sender) (busy : Bool) (p : Place) (x : Bool) → v ≡ w → x ≡ piece_sound w s busy p → x ≡ piece_sound v s busy p
to_piece v w s busy p x h e = rw h e

pub to_ear : (v w : Ear) (x : Bool) → v ≡ w → x ≡ ear_sound w → x ≡ ear_sound v
to_ear v w x h e = rw h e

-- an END's piece, by the ENDs that it was told may be left
pub end_told : (u : Piece) (s : Sender) (busy right : Bool) (p : Place) (most : ℕ) → u ≡ EndPiece → most ≡ pick busy p.ends 0 → right ≡ end_sound s p
    → (ltb 0 s.gone && leb s.gone 18 && eqb s.left 0 && leb s.ends most
    && (not busy || right)) ≡ piece_sound u s busy p
unfolding piece_sound
end_told u s busy right p most e h k = rw (e, h, k) refl
