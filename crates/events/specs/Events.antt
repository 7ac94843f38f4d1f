-- What each event does (01 What the bridge is; The line). A rule sees the state, the event and the oldest word of each store. Assumes nothing.
use Rattle.std.specs.Prelude.{Bool, true, ℕ, None}
use Rattle.base.specs.Pick.{pick}
use Rattle.command.specs.Layouts.{Layouts}
use Rattle.layout.specs.declared.Layout.{Layout}
use Rattle.state.specs.Power.{power_up_in, power_up_bad_in}
use Rattle.state.specs.declared.Bridge.{Bridge}
use Rattle.state.specs.declared.Clock.{Clock}
use Rattle.plan.specs.Plan.{marked, performed}
use Rattle.host.specs.Frames.{planned}
use Rattle.release.specs.Release.{released_in}
use Rattle.plan.specs.declared.Plan.{Plan}
use Rattle.ticks.specs.declared.Did.{Did}
use Rattle.events.specs.declared.Event.{Event}
use Rattle.events.specs.declared.Event.TheVariants.{Power, Word, Release, Tick, Clock as ClockReading}
use Rattle.ticks.specs.Ticks.{quietly, ticked}
use Rattle.clock.specs.Clock.{clocked}

-- "A power-up event gives it, or with bad OTP the same in INIT with that flag.", in the layout that the event chooses (02 item 7)
unfoldable pub powered : Bool → Layout → Bridge
powered good layout = pick good (power_up_in layout) (power_up_bad_in layout)

-- a host's plan carried out
abbrev pub hosted : Layouts → Bridge → Clock → Plan → Did
hosted l b clock p = record { bridge = performed l b clock p; sdo = p.sdo; sout = true; note = p.note; tx = p.store; rx = None }

-- the event's rule; w and x are the oldest words of TX and RX
unfoldable pub reacted : Layouts → Bridge → Event → ℕ → ℕ → Did
reacted l b (Power good layout) w x = quietly (powered good layout)
reacted l b (Word word) w x = hosted l b (marked b.clock) (planned l b word x)
reacted l b Release w x = hosted l b b.clock (released_in b b.frame.phase)
reacted l b (Tick sin) w x = ticked b sin w
reacted l b (ClockReading reading) w x = clocked b reading
