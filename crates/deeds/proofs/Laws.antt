-- Laws of the definitions, in the form in which the functions' proofs ask them. Assumes nothing.
use Rattle.std.specs.Prelude.{Option}
use mathlib.Core.Path.{◌≡◌, refl, subst}
use mathlib.Core.Bool.{Bool, ◌&&◌}
use Prim.Native.Nat.{ℕ, ◌+◌, ◌≤◌, ◌<◌}
use native.Mathlib.Omega.{arith}
use lib.Dec.{leb}
use lib.ListN.{length}
use Rattle.line.specs.declared.Piece.{Piece}
use Rattle.line.specs.Format.{piece_length}
use Rattle.state.specs.Sending.{owing, stored, done}
use Rattle.state.specs.Facts.{Doable}
use Rattle.state.specs.declared.Place.{Place}
use Rattle.state.specs.declared.Sending.{Sending}
use Rattle.state.specs.declared.Deed.{Deed}
use Rattle.state.specs.declared.Deed.TheVariants.{Enqueue, TakeBack, ClearAll, ResetAll}
use Rattle.queue.proofs.Laws.{has_record}

-- an arm knows the constructor
pub to_stored : (s : Sending) (e v : Option ℕ) (x : Sending) → v ≡ e → x ≡ stored s e → x ≡ stored s v
to_stored s e v x h f = rw h f

pub to_done : (s : Sending) (e v : Deed) (x : Sending) → v ≡ e → x ≡ done s e → x ≡ done s v
to_done s e v x h f = rw h f

pub has_room : (s : Sending) (d : Deed) (p : Place) → d ≡ Enqueue p → Doable s d → length s.queue.places ≡ 8 → s.queue.used < 8
has_room s d p e h l = has_record s.queue p l (subst (λ (x : Deed). Doable s x) e h)

pub has_words : (s : Sending) (d : Deed) (n : ℕ) → d ≡ TakeBack n → Doable s d → n ≤ s.tx.count
has_words s d n e h = subst (λ (x : Deed). Doable s x) e h

pub has_next : (s : Sending) (d : Deed) (p : Place) → d ≡ Enqueue p → Doable s d → length s.queue.places ≡ 8 → s.queue.used + 1 < 65536
has_next s d p e h l = omega (arith, has_room s d p e h l)

-- a transmit clear: what a soft reset leaves, and one END owed
pub to_clear : (s c : Sending) → c ≡ done s ResetAll → record { tx = c.tx; queue = c.queue; sender = owing } ≡ done s ClearAll
unfolding done
to_clear s c e = rw e refl

-- a sender by what its piece's length was told to be
pub to_idle : (n g : ℕ) (p : Piece) (a b : Bool) → n ≡ piece_length p → (leb n g && a && b) ≡ (leb (piece_length p) g && a && b)
to_idle n g p a b h = rw h
