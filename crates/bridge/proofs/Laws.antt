-- A refusal, as the proof of `step` asks it. Assumes nothing.
use mathlib.Core.Path.{◌≡◌, ap}
use mathlib.Core.List.{List}
use Prim.Native.Nat.{ℕ}
use Rattle.state.specs.declared.Bridge.{Bridge}
use Rattle.state.specs.declared.Note.{Note}
use Rattle.events.specs.Turn.{out}
use Rattle.events.specs.declared.Answer.{Answer}
use Rattle.bridge.specs.Step.{refusal, refused}

pub to_refused : (b : Bridge) (tx rx : List ℕ) (n : Note) (a : Answer) → a ≡ refusal b n → out a tx rx ≡ refused b tx rx n
to_refused b tx rx n a e = ap (λ (x : Answer). out x tx rx) e
