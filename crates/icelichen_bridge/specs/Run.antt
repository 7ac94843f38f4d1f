-- Calls one after the other, each lent the cells and the stores as the call before left them, and what they come to: the events given to `step` one by
-- one. Assumes nothing.
use Rattle.std.specs.Prelude.{◌≡◌, List, [], ◌∷◌, ℕ, Some}
use Rattle.command.specs.Layouts.{Layouts, layouts}
use Rattle.events.specs.declared.Event.{Event}
use Rattle.bridge.specs.Runs.{Config, out_of, next, end_of}
use Rattle.cells.specs.Lent.{lent}
use Rattle.icelichen_bridge.specs.Calls.{called, answer_of, event_by, event_on, event_leaves, powered, power_up_on, power_leaves}

-- the cells and stores of a caller
pub record Lent : Type 0 where
  pub cells : List ℕ
  pub tx : List ℕ
  pub rx : List ℕ

-- what they stand for
abbrev pub stand : Lent → Config
stand a = record { bridge = lent a.cells; tx = a.tx; rx = a.rx }

-- what `icelichen_event` ensures of a call with these two numbers
pub record Call (a : Lent) (kind value answer : ℕ) (b : Lent) : Type 0 where
  pub is : called answer b.cells b.tx b.rx ≡ event_on layouts (event_by kind value) a.cells a.tx a.rx
  pub leaves : lent b.cells ≡ event_leaves layouts (event_by kind value) (lent a.cells) a.tx a.rx

-- what `icelichen_power_up` ensures
pub record PoweredUp (power answer : ℕ) (was cells : List ℕ) : Type 0 where
  pub is : powered answer cells ≡ power_up_on power was
  pub leaves : lent cells ≡ power_leaves power (lent was)

-- a call that was made: its two numbers, the event that they say, what it answered and what it left
pub record Made : Type 0 where
  pub kind : ℕ
  pub value : ℕ
  pub event : Event
  pub answer : ℕ
  pub left : Lent

pub record Link (a : Lent) (m : Made) : Type 0 where
  pub says : event_by m.kind m.value ≡ Some m.event
  pub call : Call a m.kind m.value m.answer m.left

-- calls from what the first was lent, each as the one before left it
unfoldable pub Chained : Lent → List Made → Type 0
Chained a [] = Unit {0}
Chained a (m ∷ ms) = Link a m × Chained m.left ms

unfoldable pub left_after : Lent → List Made → Lent
left_after a [] = a
left_after a (m ∷ ms) = left_after m.left ms

unfoldable pub events_of : List Made → List Event
events_of [] = []
events_of (m ∷ ms) = m.event ∷ events_of ms

unfoldable pub answers_of : List Made → List ℕ
answers_of [] = []
answers_of (m ∷ ms) = m.answer ∷ answers_of ms

-- the answers of the events given to `step` one by one
unfoldable pub answers_in : Layouts → Config → List Event → List ℕ
answers_in l c [] = []
answers_in l c (e ∷ es) = answer_of (out_of l c e).answer ∷ answers_in l (next l c e) es

-- the same answers, and the same state and stores at the end
pub record SameRun (a : Lent) (ms : List Made) : Type 0 where
  pub answers : answers_of ms ≡ answers_in layouts (stand a) (events_of ms)
  pub left : stand (left_after a ms) ≡ end_of layouts (stand a) (events_of ms)
