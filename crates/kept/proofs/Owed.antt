-- What a frame has still to bring, where it brings nothing. Assumes nothing.
use mathlib.Core.Path.{◌≡◌, refl}
use mathlib.Core.Bool.{Bool, true, false}
use Prim.Native.Nat.{ℕ}
use Rattle.base.specs.Pick.{pick}
use Rattle.command.specs.declared.Command.{Command}
use Rattle.state.specs.Frame.{owed_by}

pub unreleased_owes_none : (command : Command) (got : ℕ) (released blocked : Bool) → released ≡ false → owed_by command got released blocked ≡ 0
unfolding owed_by pick
unreleased_owes_none command got released blocked e = rw e

pub blocked_brings_none : (command : Command) (got : ℕ) (released : Bool) → owed_by command got released true ≡ 0
unfolding owed_by pick
blocked_brings_none command got true = refl
blocked_brings_none command got false = refl
