-- A flag by its name, as the arms of `raise` ask it. Assumes nothing.
use mathlib.Core.Path.{◌≡◌, sym, ◌∙◌, ap}
use Rattle.registers.specs.declared.Flag.{Flag}
use Rattle.registers.specs.declared.Flags.{Flags}
use Rattle.registers.specs.Raising.{raised}

pub to_raised : (f : Flags) (name k : Flag) (x : Flags) → name ≡ k → x ≡ raised f k → x ≡ raised f name
to_raised f name k x e h = h ∙ ap (λ (n : Flag). raised f n) (sym e)
