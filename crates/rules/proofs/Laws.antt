-- Laws of the definitions, in the form in which the functions' proofs ask them. Assumes nothing.
use mathlib.Core.Path.{◌≡◌, refl}
use Prim.Native.Nat.{◌-◌, ◌<◌}
use Rattle.base.specs.Pick.{pick_lt}
use Rattle.state.specs.declared.Place.{Place}
use Rattle.state.specs.declared.Sending.{Sending}
use Rattle.state.specs.Queue.{place_at}
use Rattle.rules.specs.Sound.{last_left}

-- the youngest place waits: its words
pub last_told : (s : Sending) (p : Place) → s.queue.begun < s.queue.used → p ≡ place_at s.queue (s.queue.used - 1) → p.words ≡ last_left s
last_told s p h e = pick_lt _ _ _ _ _ h (rw e refl)
