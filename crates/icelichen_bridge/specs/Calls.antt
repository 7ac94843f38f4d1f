-- What a program in C gets of the bridge (include/icelichen_bridge.h): the bridge is lent in cells, and each call is what the bridge does with the record
-- that they stand for. Ours, over 01 and 02 items 6 and 7. Assumes nothing.
use Rattle.std.specs.Prelude.{Bool, true, false, not, ◌&&◌, List, ℕ, ◌+◌, ◌*◌, ltb, eqb, ℤ, pos, negsuc, Option, None, Some}
use Rattle.base.specs.Pick.{pick}
use Rattle.command.specs.Layouts.{Layouts}
use Rattle.layout.specs.declared.Layout.TheVariants.{Ours, Makers}
use Rattle.registers.specs.Registers.{read_of}
use Rattle.state.specs.Notes.{note_number}
use Rattle.state.specs.Power.{power_up_in, power_up_bad_in}
use Rattle.state.specs.declared.Bridge.{Bridge}
use Rattle.state.specs.declared.Phase.{Phase}
use Rattle.state.specs.declared.Phase.TheVariants.{Idle, Collecting, Answering, Discarding}
use Rattle.rules.specs.Sound.{sound}
use Rattle.events.specs.Turn.{Out}
use Rattle.events.specs.declared.Answer.{Answer}
use Rattle.events.specs.declared.Event.{Event}
use Rattle.bridge.specs.Runs.{refuses}
use Rattle.bridge.specs.Step.{step}
use Rattle.drain.specs.Drain.{End, drain}
use Rattle.script.specs.Script.{record_of}
use Rattle.listing.specs.Results.{bit_byte}
use Rattle.whole_night.specs.Night as Night
use Rattle.whole_night.specs.Numbered.{config}
use Rattle.whole_night.specs.Outcomes.{outcome_number}
use Rattle.whole_night.specs.declared.Listed.{Listed}
use Rattle.whole_night.specs.declared.Outcome.{Outcome}
use Rattle.whole_night.specs.declared.Outcome.TheVariants.{Done, NoEvent, ShortResults, WrongStores, BrokenRecord}
use Rattle.cells.specs.Cells.{cells_of}
use Rattle.cells.specs.Lent.{lent}

-- the four bytes of an event's result (02 item 6), the first the highest
unfoldable pub answer_number : ℕ → ℕ → Bool → ℕ
answer_number note sdo sout = note * 16777216 + sdo * 256 + bit_byte sout

abbrev pub answer_of : Answer → ℕ
answer_of a = answer_number (note_number a.note) a.sdo a.sout

-- "22 a record that is no event": nothing on SDO, and SOUT 1. 02 item 6
abbrev pub no_event : ℕ
no_event = 0x16FFFF01

-- the event of two numbers, none of them cut: what is wider than a record's is no event's
unfoldable pub event_by : ℕ → ℕ → Option Event
event_by kind value = pick (ltb 255 kind) None (pick (ltb 65535 value) None (record_of kind value))

-- what a call answers, and cells and stores as it leaves them
pub record Called (A : Type 0) : Type 0 where
  pub answer : A
  pub cells : List ℕ
  pub tx : List ℕ
  pub rx : List ℕ

abbrev pub called : {A : Type 0} → A → List ℕ → List ℕ → List ℕ → Called A
called a cells tx rx = record { answer = a; cells = cells; tx = tx; rx = rx }

-- what the call leaves; a call that is refused leaves what was
unfoldable pub unless : {A : Type 0} → Bool → A → A → A
unless refused was new = pick refused was new

-- POWER-UP, whatever the cells held: "0 power (1 good, 0 bad)" in our layout, 2 and 3 in the maker's (01 The bench program; 02 item 7)
unfoldable pub power_by : ℕ → Bridge
power_by power =
    pick (eqb power 0) (power_up_bad_in Ours) (pick (eqb power 2) (power_up_bad_in Makers) (pick (eqb power 3) (power_up_in Makers) (power_up_in Ours)))

pub record Powered : Type 0 where
  pub answer : ℕ
  pub cells : List ℕ

abbrev pub powered : ℕ → List ℕ → Powered
powered a cells = record { answer = a; cells = cells }

-- note 0, nothing on SDO, and SOUT 1
abbrev pub done : ℕ
done = 0x00FFFF01

unfoldable pub power_up_on : ℕ → List ℕ → Powered
power_up_on power cells = pick (ltb power 4) (powered done (cells_of (power_by power))) (powered no_event cells)

-- the record that the cells then stand for; so below
unfoldable pub power_leaves : ℕ → Bridge → Bridge
power_leaves power was = pick (ltb power 4) (power_by power) was

-- ONE EVENT: refused as no event, or given to `step`
abbrev pub stepped : Out → List ℕ → Called ℕ
stepped o cells = called (answer_of o.answer) (unless (refuses o.answer.note) cells (cells_of o.answer.state)) o.tx o.rx

unfoldable pub event_on : Layouts → Option Event → List ℕ → List ℕ → List ℕ → Called ℕ
event_on l None cells tx rx = called no_event cells tx rx
event_on l (Some e) cells tx rx = stepped (step l (lent cells) tx rx e) cells

abbrev pub step_leaves : Out → Bridge → Bridge
step_leaves o was = unless (refuses o.answer.note) was o.answer.state

unfoldable pub event_leaves : Layouts → Option Event → Bridge → List ℕ → List ℕ → Bridge
event_leaves l None was tx rx = was
event_leaves l (Some e) was tx rx = step_leaves (step l was tx rx e) was

-- A LIST OF EVENTS (02 item 6): how many were done, or below 0 a refusal, minus its number (`negsuc n` is minus n + 1)
abbrev pub list_code : ℕ → Outcome → ℤ
list_code n Done = pos n
list_code n NoEvent = negsuc 21
list_code n ShortResults = negsuc 22
list_code n WrongStores = negsuc 0
list_code n BrokenRecord = negsuc 1

-- the results too
pub record CalledList : Type 0 where
  pub call : Called ℤ
  pub results : List ℕ

abbrev pub called_list : ℤ → List ℕ → List ℕ → List ℕ → List ℕ → CalledList
called_list a cells tx rx results = record { call = called a cells tx rx; results = results }

abbrev pub list_refused : Listed → Bool
list_refused d = not (eqb (outcome_number d.outcome) 0)

abbrev pub listed : Night.End → List ℕ → CalledList
listed n cells =
    called_list (list_code n.listed.done n.listed.outcome) (unless (list_refused n.listed) cells (cells_of n.listed.state)) n.tx n.rx
    n.results

unfoldable pub events_on : Layouts → List ℕ → List ℕ → List ℕ → List ℕ → List ℕ → CalledList
events_on l records cells tx rx results = listed (Night.night l (config (lent cells) tx rx) records results) cells

unfoldable pub events_leave : Layouts → List ℕ → Bridge → List ℕ → List ℕ → List ℕ → Bridge
events_leave l records was tx rx results =
    unless (list_refused (Night.night l (config was tx rx) records results).listed) was (Night.night l (config was tx rx) records results).listed.state

-- DRAINING (01 The line): the ticks made, and above them the note that stopped them
unfoldable pub drain_number : ℕ → ℕ → ℕ
drain_number note ticks = note * 4294967296 + ticks

abbrev pub drained : End → List ℕ → Called ℕ
drained n cells =
    called (drain_number (note_number n.drained.note) n.drained.ticks)
    (unless (refuses n.drained.note) cells (cells_of n.drained.state)) n.tx n.rx

unfoldable pub drain_on : Layouts → List ℕ → List ℕ → List ℕ → ℕ → Called ℕ
drain_on l cells tx rx budget = drained (drain l (lent cells) tx rx budget) cells

unfoldable pub drain_leaves : Layouts → Bridge → List ℕ → List ℕ → ℕ → Bridge
drain_leaves l was tx rx budget =
    unless (refuses (drain l was tx rx budget).drained.note) was (drain l was tx rx budget).drained.state

-- WHETHER THE NEXT HOST WORD IS ANSWERED (01 Frames: "one answer word for each further word event")
unfoldable pub is_answering : Phase → Bool
is_answering Idle = false
is_answering (Collecting command got crc mine released blocked) = false
is_answering (Answering reply crc) = true
is_answering Discarding = false

-- a broken record answers nothing: every event is refused. 01 Notes, 2
unfoldable pub answers : Bridge → Bool
answers b = sound b && is_answering b.frame.phase

-- WHAT A REGISTER READS NOW, as REG_RD would answer it (01 Registers): for the pins FAULT and DRDY, which are bits of STATUS. Below 0 a refusal, minus its
-- number: 20 for an address past the last register (02 items 1 and 4), 2 for a broken record
unfoldable pub register_on : ℕ → Bridge → ℤ
register_on address b =
    pick (ltb 11 address) (negsuc 19)
    (pick (sound b) (pos (read_of b.control b.sending.tx.count b.receiving.rx.count address)) (negsuc 1))
