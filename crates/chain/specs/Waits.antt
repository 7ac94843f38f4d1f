-- Ticks until a call-up finds room (02 item 13, "35 no room"), or until nothing is left to send (01 The line, "Draining"). ours. Assumes nothing.
use Rattle.std.specs.Prelude.{Bool, true, not, List, ℕ, zero, suc, ◌+◌}
use Rattle.base.specs.Pick.{pick}
use Rattle.command.specs.Layouts.{layouts}
use Rattle.bridge.specs.Runs.{Config}
use Rattle.drain.specs.Drain.{at_rest}
use Rattle.verdict.specs.Verdicts.{is_no_room}
use Rattle.chain.specs.Echo.{echo}
use Rattle.board.specs.Board.{verdict_of}
use Rattle.chain.specs.declared.Goal.{Goal}
use Rattle.chain.specs.declared.Goal.TheVariants.{Room, Sent}
use Rattle.chain.specs.declared.Waited.{Waited}
use Rattle.chain.specs.Chain.{Moment, moment, ticked}

-- a call-up for this slot, of so many words, is not refused for want of room (35); nothing is left to send, or nothing may go
unfoldable pub met : Goal → Config → Bool
met (Room slot words) c = not (is_no_room (verdict_of c slot words))
met Sent c = at_rest c.bridge

-- what a wait leaves: so many ticks made, and the bit of the last
pub record Waiting : Type 0 where
  pub moment : Moment
  pub ticks : ℕ
  pub sout : Bool

abbrev pub waiting : Moment → ℕ → Bool → Waiting
waiting m ticks sout = record { moment = m; ticks = ticks; sout = sout }

abbrev pub waited : Waited → List ℕ → List ℕ → List Bool → Waiting
waited r tx rx chain = waiting (moment r.bridge tx rx chain r.oldest) r.ticks r.sout

-- with this budget left, and so many ticks made so far
unfoldable pub wait_of : ℕ → Goal → Waiting → Waiting
wait_of zero goal w = w
wait_of (suc budget) goal w =
    pick (met goal w.moment.at) w
    (wait_of budget goal (waiting (ticked w.moment) (w.ticks + 1) (echo layouts w.moment.at)))

-- from the start; where no tick is made the bit told is a 1
abbrev pub wait_from : ℕ → Goal → Moment → Waiting
wait_from budget goal m = wait_of budget goal (waiting m 0 true)
