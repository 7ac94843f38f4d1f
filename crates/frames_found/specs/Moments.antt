-- A run, host word by host word: the bridge with its stores as a word finds it, the word, and what it is answered. Ticks, clock readings and releases have
-- no word. Assumes nothing.
use Rattle.std.specs.Prelude.{List, [], ◌∷◌, ◌++◌, ℕ}
use Rattle.command.specs.Layouts.{Layouts}
use Rattle.events.specs.declared.Answer.{Answer}
use Rattle.events.specs.declared.Event.{Event}
use Rattle.events.specs.declared.Event.TheVariants.{Power, Word, Release, Tick, Clock as ClockReading}
use Rattle.bridge.specs.Runs.{Config, out_of, next}

pub record Moment : Type 0 where
  pub at : Config
  pub word : ℕ
  pub answer : Answer

unfoldable pub moment_at : Layouts → Config → Event → List Moment
moment_at l c (Power good layout) = []
moment_at l c (Word w) = record { at = c; word = w; answer = (out_of l c (Word w)).answer } ∷ []
moment_at l c Release = []
moment_at l c (Tick sin) = []
moment_at l c (ClockReading reading) = []

unfoldable pub moments_in : Layouts → Config → List Event → List Moment
moments_in l c [] = []
moments_in l c (e ∷ es) = moment_at l c e ++ moments_in l (next l c e) es
