-- What was asked of the call-up board: the words of 02 item 13 stand here in quotes, the rest is ours. Read this file from top to bottom; `proofs/Forty.antt` cites the
-- theorem behind each. `call_up_of` and `shift_of` are crates/board/specs and crates/shift/specs, and the contracts of `board::call_up` and `shift::shift` say that
-- the code does what they say, for every input, with no `requires`. Assumes nothing.
use Rattle.std.specs.Prelude.{◌≡◌, Bool, true, false, List, [], ◌∷◌, ◌++◌, ◌≢◌, ℕ, ◌+◌, ◌≤◌, ◌<◌, length, get_or, take, Err}
use Rattle.layout.specs.declared.Layout.{Layout}
use Rattle.command.specs.Layouts.{layouts}
use Rattle.line.specs.Format.{Words}
use Rattle.state.specs.declared.Phase.TheVariants.{Idle}
use Rattle.state.specs.Queue.{in_use}
use Rattle.rules.specs.Sound.{sound}
use Rattle.events.specs.declared.Event.{Event}
use Rattle.bridge.specs.Runs.{Config, RightStores, Whole, ticks_in, end_of, sout_of, power_on}
use Rattle.order.specs.Accepted.{accepted_in}
use Rattle.order.specs.Exactly.{Whole as WholeLine}
use Rattle.order.specs.Premises.{Premises}
use Rattle.verdict.specs.Verdicts.{slot_count, last_slot, call_up_most, is_ready, has_room, is_taken, is_broken, Taken}
use Rattle.verdict.specs.declared.Refusal.TheVariants.{WrongStores, BrokenRecord, NoSlot, WrongLength, NotReady, NoRoom}
use Rattle.callup.specs.CallUp.{call_up_to, pairs}
use Rattle.callup.specs.Taken.{Takes, AllDone, Same}
use Rattle.board.specs.Board.{called, verdict_of, call_up_of, slot_of, empty_slot, showing}
use Rattle.board.specs.declared.Board.{Board}
use Rattle.nights.specs.Nights.{Act, yard, KeptBy, Shown}
use Rattle.chain.specs.Chain.{Moment, ticked}
use Rattle.chain.specs.Echo.{echo}
use Rattle.shift.specs.Shifts.{Due, Shifting, shifting, cells_of, shift_from, shift_of}
use Rattle.forty.specs.Traces.{under_way, sin_at, shift_events}
use Rattle.forty.specs.Ends.{budget_for, AllRight, AtRest, words_of, board_after, AllTaken, LineShows}

-- What a call-up that is taken leaves: every note of its two frames is 0; two places and n + 1 words more, and what `Same` names as it was.
pub record TakenRight (c : Config) (ws : List ℕ) : Type 0 where
  pub notes : AllDone layouts c (call_up_to c ws)
  pub two_places : in_use (end_of layouts c (call_up_to c ws)).bridge.sending.queue ≡ in_use c.bridge.sending.queue + 2
  pub words_more : (end_of layouts c (call_up_to c ws)).bridge.sending.tx.count ≡ c.bridge.sending.tx.count + length ws + 1
  pub no_frame : (end_of layouts c (call_up_to c ws)).bridge.frame.phase ≡ Idle
  pub same : Same c (end_of layouts c (call_up_to c ws))

-- the first refusal that is due, in 02's order; notes 1 and 2 come before
pub record InOrder (c : Config) (slot n : ℕ) : Type 0 where
  pub wrong_stores : (RightStores c.tx c.rx → ⊥) → verdict_of c slot n ≡ Err WrongStores
  pub broken_record : RightStores c.tx c.rx → sound c.bridge ≡ false → verdict_of c slot n ≡ Err BrokenRecord
  pub no_slot : Whole c → last_slot < slot → verdict_of c slot n ≡ Err NoSlot
  pub no_words : Whole c → slot ≤ last_slot → n ≡ 0 → verdict_of c slot n ≡ Err WrongLength
  pub many_words : Whole c → slot ≤ last_slot → call_up_most < n → verdict_of c slot n ≡ Err WrongLength
  pub not_ready : Whole c → slot ≤ last_slot → 1 ≤ n → n ≤ call_up_most → is_ready c.bridge ≡ false → verdict_of c slot n ≡ Err NotReady
  pub no_room : Whole c → slot ≤ last_slot → 1 ≤ n → n ≤ call_up_most → is_ready c.bridge ≡ true → has_room c.bridge n ≡ false
      → verdict_of c slot n ≡ Err NoRoom

-- what a shift tells of itself, whatever the list, the chain and the budget: the first so many were taken, and the board shows these
pub record Counted (board : Board) (ds : List Due) (budget : ℕ) (s : Shifting) : Type 0 where
  pub no_more : s.taken ≤ length ds
  pub board_is : s.board ≡ board_after board (take s.taken ds)
  pub all_of_them : s.verdict ≡ Taken → s.taken ≡ length ds
  pub in_budget : s.ticks ≤ budget

pub record CallUpBoard : Type 0 where
  -- "A call-up is taken only when the bridge has two places free and room in TX for its words and the VSYNC, and any call-up that finds these, with no refusal
  -- below before it, is taken."
  pub taken_when : (board : Board) (c : Config) (slot reading : ℕ) (ws : List ℕ) → Whole c → slot ≤ last_slot → Takes c ws
      → call_up_of board c slot reading ws
      ≡ called (record { board = showing board slot reading ws; bridge = (end_of layouts c (call_up_to c ws)).bridge; verdict = Taken }) (end_of layouts c (call_up_to c ws)).tx
      (end_of layouts c (call_up_to c ws)).rx
  pub taken_only : (c : Config) (slot : ℕ) (ws : List ℕ) → Words ws → is_taken (verdict_of c slot (length ws)) ≡ true
      → RightStores c.tx c.rx × ((sound c.bridge ≡ true) × ((slot ≤ last_slot) × Takes c ws))
  pub taken_right : (c : Config) (ws : List ℕ) → Whole c → Takes c ws → TakenRight c ws
  -- "Refusals: 32 slot over 39, 33 no words or over 30, 34 .., 35 no room, in that order and after notes 1 and 2, board and bridge unchanged", and the stores
  pub in_order : (c : Config) (slot n : ℕ) → InOrder c slot n
  pub refused : (board : Board) (c : Config) (slot reading : ℕ) (ws : List ℕ) → is_taken (verdict_of c slot (length ws)) ≡ false
      → call_up_of board c slot reading ws ≡ called (record { board = board; bridge = c.bridge; verdict = verdict_of c slot (length ws) }) c.tx c.rx
  -- "a slot shows its last": reading, count and words; the others stay
  pub shows : (board : Board) (slot reading : ℕ) (ws : List ℕ) → length board.slots ≡ slot_count → slot ≤ last_slot
      → get_or (showing board slot reading ws).slots slot empty_slot ≡ slot_of reading ws
  pub shows_reading : (reading : ℕ) (ws : List ℕ) → ((slot_of reading ws).reading ≡ reading) × ((slot_of reading ws).count ≡ length ws)
  pub shows_words : (reading : ℕ) (ws : List ℕ) → length ws ≤ call_up_most → take (slot_of reading ws).count (slot_of reading ws).words ≡ ws
  pub others_stay : (board : Board) (slot reading : ℕ) (ws : List ℕ) (k : ℕ) → k ≢ slot
      → get_or (showing board slot reading ws).slots k empty_slot ≡ get_or board.slots k empty_slot
  -- FORTY DUE, FORTY SHOWN. Over the run of demand 3 with call-ups among the events, the premises asked of the other events alone: what the line shows is what is
  -- accepted, and each call-up taken stands in it with its VSYNC behind it, in the order taken, every word unchanged.
  pub forty_shown : (good : Bool) (layout : Layout) (tx rx : List ℕ) (board : Board) (acts : List Act) → RightStores tx rx
      → KeptBy (yard board (power_on good layout tx rx)) acts → Shown good layout tx rx board acts
  -- A chain gives back the oldest of the bits under way in it, and with none the bit of this tick.
  pub gives_back : (m : Moment) → under_way m ++ (echo layouts m.at ∷ []) ≡ sin_at m ∷ under_way (ticked m)
  -- What a shift tells of itself: these are its events, their ticks are the ticks told, and the count says which call-ups were taken.
  pub shift_given : (board : Board) (m : Moment) (ds : List Due) (budget : ℕ)
      → end_of layouts m.at (shift_events ds (shifting board m Taken 0 0) budget) ≡ (shift_from ds (shifting board m Taken 0 0) budget).moment.at
  pub shift_ticks : (board : Board) (m : Moment) (ds : List Due) (budget : ℕ)
      → ticks_in (shift_events ds (shifting board m Taken 0 0) budget) ≡ (shift_from ds (shifting board m Taken 0 0) budget).ticks
  pub shift_counted : (board : Board) (m : Moment) (ds : List Due) (budget : ℕ) → Counted board ds budget (shift_from ds (shifting board m Taken 0 0) budget)
  -- and with neither note 1 nor 2 due it is what `shift::shift` does, lent the cells of the list
  pub shift_is : (board : Board) (m : Moment) (ds : List Due) (budget : ℕ) → is_broken (verdict_of m.at 0 1) ≡ false
      → shift_of board m (cells_of ds) budget ≡ shift_from ds (shifting board m Taken 0 0) budget
  -- A SHIFT THAT ENDS. On a bridge at rest, with a chain that gives each bit back as many ticks later as it has cells (none:
  -- looped straight back), call-ups of any words, forty or four hundred: all are taken, all are sent, the board shows them, and the line has them all, within a
  -- budget that their words and the delay give.
  pub shift_ends : (board : Board) (m : Moment) (ds : List Due) (budget : ℕ) → Whole m.at → AtRest m → AllRight ds
      → budget_for (length m.chain) ds ≤ budget → AllTaken board (length m.chain) ds (shift_of board m (cells_of ds) budget)
  -- and after a run of demand 3 this is the line, and each of its bits
  pub shift_shown : (good : Bool) (layout : Layout) (tx rx : List ℕ) (before : List Event) (board : Board) (m : Moment) (ds : List Due) (budget : ℕ) → RightStores tx rx
      → Premises layouts (power_on good layout tx rx) before → m.at ≡ end_of layouts (power_on good layout tx rx) before → AtRest m → AllRight ds
      → budget_for (length m.chain) ds ≤ budget
      → LineShows (power_on good layout tx rx) before (shift_events ds (shifting board m Taken 0 0) budget) ds
  pub shift_exact : (good : Bool) (layout : Layout) (tx rx : List ℕ) (before : List Event) (board : Board) (m : Moment) (ds : List Due) (budget : ℕ) → RightStores tx rx
      → Premises layouts (power_on good layout tx rx) before → m.at ≡ end_of layouts (power_on good layout tx rx) before → AtRest m → AllRight ds
      → budget_for (length m.chain) ds ≤ budget
      → WholeLine (sout_of layouts (power_on good layout tx rx) (before ++ shift_events ds (shifting board m Taken 0 0) budget))
      (accepted_in layouts (power_on good layout tx rx) before ++ pairs (words_of ds))
