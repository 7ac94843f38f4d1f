-- What the proofs keep of a call-up that is taken: more than `TakenRight` (crates/forty/specs) tells of it. Assumes nothing.
use mathlib.Core.Path.{◌≡◌}
use mathlib.Core.Bool.{false}
use mathlib.Core.List.{List, [], ◌∷◌, ◌++◌}
use Prim.Native.Nat.{ℕ, ◌+◌}
use lib.ListN.{length}
use Rattle.command.specs.Layouts.{Layouts}
use Rattle.state.specs.Queue.{new_place, queued}
use Rattle.state.specs.declared.Deed.{Deed}
use Rattle.state.specs.declared.Deed.TheVariants.{Leave, Enqueue, TakeBack, ClearAll, ResetAll}
use Rattle.state.specs.declared.Phase.TheVariants.{Idle}
use Rattle.events.specs.declared.Event.{Event}
use Rattle.events.specs.declared.Event.TheVariants.{Power, Word, Release, Tick, Clock as ClockReading}
use Rattle.bridge.specs.Runs.{Config, next, end_of}
use Rattle.bridge.proofs.Reached.{Obeys}
use Rattle.order.specs.Accepted.{plan_of, Log, log_by}
use Rattle.order.specs.Premises.{Premises}
use Rattle.callup.specs.CallUp.{vsync, call_up_to}
use Rattle.callup.specs.Taken.{AllDone, Same, Sixteens}

-- a host's event, and what it queues is not read back into RX
abbrev pub OfHost : Event → Type 0
OfHost (Power good layout) = ⊥
OfHost (Word w) = Unit {0}
OfHost Release = Unit {0}
OfHost (Tick sin) = ⊥
OfHost (ClockReading reading) = ⊥

abbrev pub NoReads : Deed → Type 0
NoReads Leave = Unit {0}
NoReads (Enqueue p) = p.store ≡ false
NoReads (TakeBack n) = Unit {0}
NoReads ClearAll = Unit {0}
NoReads ResetAll = Unit {0}

abbrev pub AllWrite : Layouts → Config → List Event → Type 0
AllWrite l c [] = Unit {0}
AllWrite l c (e ∷ es) = (OfHost e × NoReads (plan_of l c e).deed) × AllWrite l (next l c e) es

-- A taken call-up, from a configuration and a log: every note is 0, demand 3's premises hold, both commands are accepted, in order, and
-- nothing else is; two places and n + 1 words more, and what `Same` names as it was.
pub record Taken (l : Layouts) (c : Config) (g : Log) (ws : List ℕ) : Type 0 where
  pub notes : AllDone l c (call_up_to c ws)
  pub premises : Premises l c (call_up_to c ws)
  pub writes : AllWrite l c (call_up_to c ws)
  pub log : log_by l g c (call_up_to c ws) ≡ record { closed = g.closed ++ (ws ∷ (vsync ∷ []) ∷ []); words = []; accepted = false }
  pub same : Same c (end_of l c (call_up_to c ws))
  pub obeys : Obeys (end_of l c (call_up_to c ws))
  pub idle_frame : (end_of l c (call_up_to c ws)).bridge.frame.phase ≡ Idle
  pub queue :
      (end_of l c (call_up_to c ws)).bridge.sending.queue
      ≡ queued (queued c.bridge.sending.queue (new_place (length ws) 0 false)) (new_place 1 0 false)
  pub count : (end_of l c (call_up_to c ws)).bridge.sending.tx.count ≡ c.bridge.sending.tx.count + length ws + 1
  pub cells : Sixteens c.tx → Sixteens (end_of l c (call_up_to c ws)).tx
