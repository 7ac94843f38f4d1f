-- The chain of boards between SOUT and SIN: what goes out comes back as many ticks later as it has cells, and with none in the same tick ("looped
-- straight back", 01 Numbers). The cells are a ring. ours. Assumes nothing.
use Rattle.std.specs.Prelude.{Bool, false, List, ℕ, ◌+◌, ◌%◌, eqb, length, get_or, set}
use Rattle.base.specs.Pick.{pick}
use Rattle.command.specs.Layouts.{layouts}
use Rattle.state.specs.declared.Bridge.{Bridge}
use Rattle.events.specs.declared.Event.TheVariants.{Tick}
use Rattle.bridge.specs.Runs.{Config, next}
use Rattle.chain.specs.Echo.{echo}
use Rattle.board.specs.Moments.{config}
use Rattle.chain.specs.declared.Ticked.{Ticked}

-- the bridge with its stores, the bits under way in the chain, and the cell of the oldest
pub record Moment : Type 0 where
  pub at : Config
  pub chain : List Bool
  pub oldest : ℕ

abbrev pub moment : Bridge → List ℕ → List ℕ → List Bool → ℕ → Moment
moment b tx rx chain oldest = record { at = config b tx rx; chain = chain; oldest = oldest }

-- the bit that comes back while this one goes out
unfoldable pub back : List Bool → ℕ → Bool → Bool
back chain oldest sout = pick (eqb (length chain) 0) sout (get_or chain (oldest % length chain) false)

-- the bit that goes out takes its cell
unfoldable pub filled : List Bool → ℕ → Bool → List Bool
filled chain oldest sout = pick (eqb (length chain) 0) chain (set chain (oldest % length chain) sout)

unfoldable pub onward : List Bool → ℕ → ℕ
onward chain oldest = pick (eqb (length chain) 0) oldest ((oldest % length chain + 1) % length chain)

-- one tick of bridge and chain
unfoldable pub ticked : Moment → Moment
ticked m = record {
  at = next layouts m.at (Tick (back m.chain m.oldest (echo layouts m.at)));
  chain = filled m.chain m.oldest (echo layouts m.at);
  oldest = onward m.chain m.oldest;
}

-- what a tick leaves, and the bit that went out
pub record Gone : Type 0 where
  pub moment : Moment
  pub sout : Bool

abbrev pub gone : Ticked → List ℕ → List ℕ → List Bool → Gone
gone r tx rx chain = record { moment = moment r.bridge tx rx chain r.oldest; sout = r.sout }

abbrev pub gone_from : Moment → Gone
gone_from m = record { moment = ticked m; sout = echo layouts m.at }
