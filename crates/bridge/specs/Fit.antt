-- What runs of events that are not tested again ask and keep: stores and record as a turn needs them, with the eight places of the array. No
-- rule. Assumes nothing.
use Rattle.std.specs.Prelude.{◌≡◌, List, ℕ, length}
use Rattle.state.specs.declared.Bridge.{Bridge}
use Rattle.events.specs.Turn.{Out, Ready}

pub record Fit (b : Bridge) (tx rx : List ℕ) : Type 0 where
  pub ready : Ready b tx rx
  pub eight : length b.sending.queue.places ≡ 8

abbrev pub Kept : Out → Type 0
Kept o = Fit o.answer.state o.tx o.rx
