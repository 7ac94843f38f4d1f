-- A shift that ends: what it begins with, how many ticks it may need (01 The line, "Draining"), and what it leaves. ours. Assumes nothing.
use Rattle.std.specs.Prelude.{◌≡◌, true, List, [], ◌∷◌, ◌++◌, ℕ, ◌+◌, ◌≤◌, length, replicate}
use Rattle.line.specs.Format.{Words}
use Rattle.line.specs.declared.Ear.TheVariants.{Quiet}
use Rattle.state.specs.Sending.{idle}
use Rattle.command.specs.Layouts.{layouts}
use Rattle.line.specs.Reader.{read_line}
use Rattle.events.specs.declared.Event.{Event}
use Rattle.bridge.specs.Runs.{Config, sout_of, AllSent}
use Rattle.order.specs.Accepted.{accepted_in}
use Rattle.verdict.specs.Verdicts.{last_slot, call_up_most, Taken}
use Rattle.callup.specs.CallUp.{pairs, ticks_for}
use Rattle.callup.specs.Taken.{Open, Sixteens}
use Rattle.board.specs.Board.{showing}
use Rattle.board.specs.declared.Board.{Board}
use Rattle.chain.specs.Chain.{Moment}
use Rattle.shift.specs.Shifts.{Due, Shifting}

-- the ticks that call-ups need, with a chain that gives each bit back `delay` ticks later: for each its cost and the delay
unfoldable pub budget_for : ℕ → List Due → ℕ
budget_for delay [] = 0
budget_for delay (d ∷ ds) = ticks_for (length d.words) + delay + budget_for delay ds

-- refusals 32 and 33 do not meet it, and its words are of sixteen bits
pub record Right (d : Due) : Type 0 where
  pub in_board : d.slot ≤ last_slot
  pub some : 1 ≤ length d.words
  pub most : length d.words ≤ call_up_most
  pub sixteen : Words d.words

abbrev pub AllRight : List Due → Type 0
AllRight [] = Unit {0}
AllRight (d ∷ ds) = Right d × AllRight ds

-- NORMAL and no flag up that refusal 34 asks about; nothing queued, nothing under way on the line or in the chain
pub record AtRest (m : Moment) : Type 0 where
  pub free : Open m.at
  pub none_queued : m.at.bridge.sending.queue.used ≡ 0
  pub sender : idle m.at.bridge.sending.sender ≡ true
  pub reader : m.at.bridge.receiving.reader.ear ≡ Quiet
  pub chain_idle : m.chain ≡ replicate (length m.chain) true
  pub cells : Sixteens m.at.tx

-- the words of call-ups, and the board that shows them all
unfoldable pub words_of : List Due → List (List ℕ)
words_of [] = []
words_of (d ∷ ds) = d.words ∷ words_of ds

unfoldable pub board_after : Board → List Due → Board
board_after board [] = board
board_after board (d ∷ ds) = board_after (showing board d.slot d.reading d.words) ds

-- all taken, in time, all sent, the board shows them, and the bridge is as open as it was
pub record AllTaken (board : Board) (delay : ℕ) (ds : List Due) (s : Shifting) : Type 0 where
  pub verdict_is : s.verdict ≡ Taken
  pub taken_is : s.taken ≡ length ds
  pub in_time : s.ticks ≤ budget_for delay ds
  pub board_is : s.board ≡ board_after board ds
  pub all_sent : AllSent s.moment.at.bridge.sending
  pub still_open : Open s.moment.at

-- the line of a run and then of a shift: what was accepted before, and then each call-up's words and VSYNC, and nothing else
abbrev pub LineShows : Config → List Event → List Event → List Due → Type 0
LineShows c before during ds = (read_line (sout_of layouts c (before ++ during))).finished ≡ accepted_in layouts c before ++ pairs (words_of ds)
