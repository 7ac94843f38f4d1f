-- One event for the outside (01 What the bridge is; Notes, 1 and 2): refused with everything as lent, or the event's rule carried out.
use Rattle.std.specs.Prelude.{true, List, ℕ, eqb, length}
use Rattle.base.specs.Pick.{pick}
use Rattle.command.specs.Layouts.{Layouts}
use Rattle.state.specs.Rings.{tx_size, rx_size}
use Rattle.state.specs.declared.Bridge.{Bridge}
use Rattle.state.specs.declared.Note.{Note}
use Rattle.state.specs.declared.Note.TheVariants.{WrongStores, BrokenRecord}
use Rattle.rules.specs.Sound.{sound}
use Rattle.plan.specs.Plan.{no_answer}
use Rattle.events.specs.Turn.{Out, out, turn}
use Rattle.events.specs.declared.Answer.{Answer}
use Rattle.events.specs.declared.Event.{Event}

-- "state, stores unchanged"
abbrev pub refusal : Bridge → Note → Answer
refusal b n = record { state = b; sdo = no_answer; sout = true; note = n }

abbrev pub refused : Bridge → List ℕ → List ℕ → Note → Out
refused b tx rx n = out (refusal b n) tx rx

-- notes 1 and 2 come first, in this order, for every event
unfoldable pub step : Layouts → Bridge → List ℕ → List ℕ → Event → Out
step l b tx rx e =
    pick (eqb (length tx) tx_size)
    (pick (eqb (length rx) rx_size)
    (pick (sound b) (turn l b tx rx e) (refused b tx rx BrokenRecord))
    (refused b tx rx WrongStores))
    (refused b tx rx WrongStores)
