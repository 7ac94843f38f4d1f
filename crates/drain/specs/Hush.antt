-- What a run of ticks inside a piece says of itself. No rule: they are `turn`s. Assumes nothing.
use Rattle.std.specs.Prelude.{◌≡◌, false, List, ℕ, ◌-◌, ◌≤◌, ltb}
use Rattle.command.specs.Layouts.{layouts}
use Rattle.state.specs.declared.Bridge.{Bridge}
use Rattle.bridge.specs.Fit.{Fit}
use Rattle.lull.specs.Lull.{hot_of, laid_by}
use Rattle.lull.specs.declared.Hot.{Hot}
use Rattle.drain.specs.Drain.{run_of}

-- what is left of the run, from the record that the ticks lay down, is the run from `from` on; the stores are as they were
pub record Hush (budget : ℕ) (b : Bridge) (from ticks : ℕ) (h : Hot) : Type 0 where
  pub whole : (tx rx : List ℕ)
      → run_of layouts (budget - ticks) ticks (laid_by (ltb from ticks) b false h) tx rx ≡ run_of layouts (budget - from) from b tx rx
  pub fit : (tx rx : List ℕ) → Fit b tx rx → Fit (laid_by (ltb from ticks) b false h) tx rx
  pub least : from ≤ ticks
  pub most : ticks ≤ budget
  pub first : ltb from ticks ≡ false → h ≡ hot_of b
  pub gone : h.gone ≤ 18
