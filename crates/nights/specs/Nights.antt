-- A night: call-ups offered to the board, among the events of demand 3 (02 item 13, "This is the program for the shift"). Assumes nothing.
use Rattle.std.specs.Prelude.{◌≡◌, Bool, false, List, [], ◌∷◌, ◌++◌, ℕ, length}
use Rattle.layout.specs.declared.Layout.{Layout}
use Rattle.base.specs.Pick.{pick}
use Rattle.command.specs.Layouts.{layouts}
use Rattle.line.specs.Format.{Words}
use Rattle.events.specs.declared.Event.{Event}
use Rattle.bridge.specs.Runs.{Config, next, end_of, power_on}
use Rattle.order.specs.Accepted.{plan_of, Log, no_log, accepts, logged, listed, accepted_in}
use Rattle.order.specs.Demand.{Faithful}
use Rattle.order.specs.Premises.{Fair}
use Rattle.verdict.specs.Verdicts.{is_taken}
use Rattle.callup.specs.CallUp.{vsync, call_up_to, pairs}
use Rattle.board.specs.Board.{Outcome, verdict_of, call_up_of}
use Rattle.board.specs.Moments.{config}
use Rattle.board.specs.declared.Board.{Board}

-- an event of the bridge, or a call-up: slot, reading, words
pub data Act : Type 0 where
  event : Event → Act
  call : ℕ → ℕ → List ℕ → Act

-- the board, and the bridge with its stores
pub record Yard : Type 0 where
  pub board : Board
  pub at : Config

abbrev pub yard : Board → Config → Yard
yard board c = record { board = board; at = c }

abbrev pub left_in : Outcome → Yard
left_in o = yard o.answer.board (config o.answer.bridge o.tx o.rx)

-- what an act leaves: the rule of the event, or of `board::call_up`
unfoldable pub act_on : Yard → Act → Yard
act_on y (event e) = yard y.board (next layouts y.at e)
act_on y (call slot reading ws) = left_in (call_up_of y.board y.at slot reading ws)

abbrev pub takes : Yard → ℕ → List ℕ → Bool
takes y slot ws = is_taken (verdict_of y.at slot (length ws))

-- what an act gives to the bridge: a call-up refused gives nothing
unfoldable pub given_by : Yard → Act → List Event
given_by y (event e) = e ∷ []
given_by y (call slot reading ws) = pick (takes y slot ws) (call_up_to y.at ws) []

-- the events of a night
unfoldable pub events_in : Yard → List Act → List Event
events_in y [] = []
events_in y (a ∷ acts) = given_by y a ++ events_in (act_on y a) acts

-- what it leaves
unfoldable pub yard_after : Yard → List Act → Yard
yard_after y [] = y
yard_after y (a ∷ acts) = yard_after (act_on y a) acts

-- the words of the call-ups taken, in the order taken
unfoldable pub taken_by : Yard → Act → List (List ℕ)
taken_by y (event e) = []
taken_by y (call slot reading ws) = pick (takes y slot ws) (ws ∷ []) []

unfoldable pub taken_in : Yard → List Act → List (List ℕ)
taken_in y [] = []
taken_in y (a ∷ acts) = taken_by y a ++ taken_in (act_on y a) acts

-- What demand 3's theorems ask of an event (`Fair`, less than its own premises), asked of the other events alone. Of a call-up nothing is asked but that its words are of sixteen bits, as the code's type says.
abbrev pub KeptBy : Yard → List Act → Type 0
KeptBy y [] = Unit {0}
KeptBy y (event e ∷ acts) = Fair layouts y.at e × KeptBy (act_on y (event e)) acts
KeptBy y (call slot reading ws ∷ acts) = Words ws × KeptBy (act_on y (call slot reading ws)) acts

-- What is accepted: what demand 3 lists of the other events, and of each call-up taken its words and then VSYNC, all in order.
abbrev pub called_up : Log → List ℕ → Log
called_up g ws = record { closed = g.closed ++ (ws ∷ (vsync ∷ []) ∷ []); words = []; accepted = false }

unfoldable pub logged_by : Log → Yard → Act → Log
logged_by g y (event e) = logged g (plan_of layouts y.at e)
logged_by g y (call slot reading ws) = pick (takes y slot ws) (called_up g ws) g

unfoldable pub log_in : Log → Yard → List Act → Log
log_in g y [] = g
log_in g y (a ∷ acts) = log_in (logged_by g y a) (act_on y a) acts

-- the other events queue no command of their own
abbrev pub Quiet : Yard → List Act → Type 0
Quiet y [] = Unit {0}
Quiet y (event e ∷ acts) = (accepts (plan_of layouts y.at e).deed ≡ false) × Quiet (act_on y (event e)) acts
Quiet y (call slot reading ws ∷ acts) = Quiet (act_on y (call slot reading ws)) acts

-- A night from power-up, by the line: demand 3's own statement holds of its bits, and what is accepted is as said above.
pub record Shown (good : Bool) (layout : Layout) (tx rx : List ℕ) (board : Board) (acts : List Act) : Type 0 where
  -- these events lead where the acts do
  pub led_to : end_of layouts (power_on good layout tx rx) (events_in (yard board (power_on good layout tx rx)) acts) ≡ (yard_after (yard board (power_on good layout tx rx)) acts).at
  pub faithful : Faithful layouts (power_on good layout tx rx) (events_in (yard board (power_on good layout tx rx)) acts)
  pub list_is :
      accepted_in layouts (power_on good layout tx rx) (events_in (yard board (power_on good layout tx rx)) acts)
      ≡ listed (log_in no_log (yard board (power_on good layout tx rx)) acts)
  -- where nothing else is queued, that is each taken call-up's words and then VSYNC
  pub pairs_are : Quiet (yard board (power_on good layout tx rx)) acts
      → accepted_in layouts (power_on good layout tx rx) (events_in (yard board (power_on good layout tx rx)) acts) ≡ pairs (taken_in (yard board (power_on good layout tx rx)) acts)
