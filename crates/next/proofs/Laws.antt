-- Laws of the definitions, in the form in which the functions' proofs ask them. Assumes nothing.
use mathlib.Core.Path.{◌≡◌}
use mathlib.Core.Bool.{Bool}
use Prim.Native.Nat.{ℕ, ◌≤◌, ◌<◌}
use lib.Dec.{ltb}
use borrow.Author.Tests.{ltb-true}
use Rattle.base.specs.Pick.{pick, pick_lt, pick_not_lt, pick_keeps}
use Rattle.line.specs.Format.{piece_length}
use Rattle.line.specs.declared.Piece.{Piece}
use Rattle.state.specs.declared.Sender.{Sender}
use Rattle.state.specs.declared.Sending.{Sending}
use Rattle.next.specs.Room.{Room}
use Rattle.next.specs.Next.{bit_sent, choose}
use Rattle.next.specs.declared.Next.{Next}

-- an arm knows the constructor
pub to_bit : (n m : Next) (s : Sender) (w : ℕ) (x : Bool) → n ≡ m → x ≡ bit_sent m s w → x ≡ bit_sent n s w
to_bit n m s w x h e = rw h e

-- a piece by what its length was told to be
pub piece_more : (g n : ℕ) (p : Piece) (r x y : Next) → n ≡ piece_length p → g < n → r ≡ x → r ≡ pick (ltb g (piece_length p)) x y
piece_more g n p r x y h l e = pick_lt g _ r x y (rw (← h) l) e

pub piece_over : (g n : ℕ) (p : Piece) (r x y : Next) → n ≡ piece_length p → n ≤ g → r ≡ y → r ≡ pick (ltb g (piece_length p)) x y
piece_over g n p r x y h l e = pick_not_lt g _ r x y (rw (← h) l) e

-- a start was chosen with a place not yet begun
pub choose_room : (s : Sending) (may : Bool) → Room s.queue (choose s may)
unfolding choose
choose_room s may =
    pick_keeps (Room s.queue) _ _ _ (λ _. tt)
    (λ _. pick_keeps (Room s.queue) _ _ _
    (λ _. pick_keeps (Room s.queue) _ _ _ (λ _. tt) (λ _. tt))
    (λ _. pick_keeps (Room s.queue) _ _ _ (λ _. tt)
    (λ _. pick_keeps (Room s.queue) _ _ _
    (λ _. pick_keeps (Room s.queue) _ _ _
    (λ h. pick_keeps (Room s.queue) _ _ _ (λ _. ltb-true _ _ h) (λ _. ltb-true _ _ h))
    (λ _. tt))
    (λ _. tt))))
