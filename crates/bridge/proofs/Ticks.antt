-- The ticks of a run in two parts. Assumes nothing.
use mathlib.Core.Path.{◌≡◌}
use mathlib.Core.List.{List, [], ◌∷◌, ◌++◌}
use Prim.Native.Nat.{◌+◌}
use native.Mathlib.Omega.{arith}
use Rattle.events.specs.declared.Event.{Event}
use Rattle.events.specs.declared.Event.TheVariants.{Power, Word, Release, Tick, Clock as ClockReading}
use Rattle.bridge.specs.Runs.{ticks_in}

pub ticks_append : (a b : List Event) → ticks_in (a ++ b) ≡ ticks_in a + ticks_in b
unfolding ticks_in
ticks_append [] b = omega arith
ticks_append (Power good layout ∷ a) b = ticks_append a b
ticks_append (Word w ∷ a) b = ticks_append a b
ticks_append (Release ∷ a) b = ticks_append a b
ticks_append (Tick sin ∷ a) b = let e : ticks_in (a ++ b) ≡ ticks_in a + ticks_in b = ticks_append a b in omega arith
ticks_append (ClockReading reading ∷ a) b = ticks_append a b
