-- What the bench prints of a script, and what it leaves (01 The bench program). Assumes nothing.
use Rattle.std.specs.Prelude.{Bool, true, false, List, [], ◌∷◌, ◌++◌, ℕ, ◌+◌, ◌*◌, ◌/◌, leb, length, take, drop, replicate, Option, None, Some}
use Rattle.base.specs.Pick.{pick}
use Rattle.command.specs.Layouts.{Layouts, layouts}
use Rattle.state.specs.Notes.{note_number}
use Rattle.state.specs.Power.{power_up}
use Rattle.state.specs.Rings.{tx_size, rx_size}
use Rattle.state.specs.declared.Bridge.{Bridge}
use Rattle.events.specs.declared.Answer.{Answer}
use Rattle.events.specs.declared.Event.{Event}
use Rattle.bridge.specs.Step.{step}
use Rattle.script.specs.Script.{is_head, value_of, record_of, line_of}
use Rattle.script.specs.declared.Line.{Line}
use Rattle.playing.specs.declared.Part.{Part}

-- the longest line, and the length of the two that say what is wrong
abbrev pub most_printed : ℕ
most_printed = 17

abbrev pub said_length : ℕ
said_length = 11

-- "A wrong head prints `bad script`; a wrong or cut record prints `bad record`": the two lines, in an array of the longest's size
abbrev pub bad_script : Line
bad_script = record {
  bytes = 0x62 ∷ 0x61 ∷ 0x64 ∷ 0x20 ∷ 0x73 ∷ 0x63 ∷ 0x72 ∷ 0x69 ∷ 0x70 ∷ 0x74 ∷ 0x0A ∷ 0 ∷ 0 ∷ 0 ∷ 0 ∷ 0 ∷ 0 ∷ [];
  length = said_length;
}

abbrev pub bad_record : Line
bad_record = record {
  bytes = 0x62 ∷ 0x61 ∷ 0x64 ∷ 0x20 ∷ 0x72 ∷ 0x65 ∷ 0x63 ∷ 0x6F ∷ 0x72 ∷ 0x64 ∷ 0x0A ∷ 0 ∷ 0 ∷ 0 ∷ 0 ∷ 0 ∷ 0 ∷ [];
  length = said_length;
}

-- the bytes of a line
abbrev pub bytes_of : Line → List ℕ
bytes_of line = take line.length line.bytes

-- "Each event prints kind, value, note, SDO, SOUT"
abbrev pub line_for : ℕ → ℕ → Answer → Line
line_for kind value a = line_of kind value (note_number a.note) a.sdo a.sout

-- state and stores after a part of a script, what it printed, and whether the script goes on
pub record Played : Type 0 where
  pub bridge : Bridge
  pub tx : List ℕ
  pub rx : List ℕ
  pub printed : List ℕ
  pub on : Bool

abbrev pub at_end : Bridge → List ℕ → List ℕ → Played
at_end b tx rx = record { bridge = b; tx = tx; rx = rx; printed = []; on = true }

-- "prints `bad record` and stops"
abbrev pub stopped : Bridge → List ℕ → List ℕ → Played
stopped b tx rx = record { bridge = b; tx = tx; rx = rx; printed = bytes_of bad_record; on = false }

abbrev pub after : List ℕ → Played → Played
after text p = record { bridge = p.bridge; tx = p.tx; rx = p.rx; printed = text ++ p.printed; on = p.on }

-- by what a record is: an event, or none
unfoldable pub judged : {A : Type 0} → Option Event → (Event → A) → A → A
judged (Some e) event wrong = event e
judged None event wrong = wrong

-- The records of a script, each judged when it is reached: an event prints its line, and the next begins from the state and the stores that
-- it left. One or two bytes at the end are a cut record.
unfoldable pub played : Layouts → Bridge → List ℕ → List ℕ → List ℕ → Played
played l b tx rx [] = at_end b tx rx
played l b tx rx (kind ∷ []) = stopped b tx rx
played l b tx rx (kind ∷ high ∷ []) = stopped b tx rx
played l b tx rx (kind ∷ high ∷ low ∷ rest) =
    judged (record_of kind (value_of high low))
    (λ (e : Event). after (bytes_of (line_for kind (value_of high low) (step l b tx rx e).answer))
    (played l (step l b tx rx e).answer.state (step l b tx rx e).tx (step l b tx rx e).rx rest))
    (stopped b tx rx)

-- a part, and then the rest of the script from what it left; where the script ended, nothing
unfoldable pub followed : Layouts → Played → List ℕ → Played
followed l p rest = pick p.on (after p.printed (played l p.bridge p.tx p.rx rest)) p

-- "It begins from the power-up value"; the stores are new. What a whole script prints
unfoldable pub script_prints : List ℕ → List ℕ
script_prints script =
    pick (is_head script) (played layouts power_up (replicate tx_size 0) (replicate rx_size 0) (drop 5 script)).printed (bytes_of bad_script)

-- what a function answers, and the stores and the output as it leaves them
pub record End : Type 0 where
  pub part : Part
  pub tx : List ℕ
  pub rx : List ℕ
  pub out : List ℕ

abbrev pub end : Part → List ℕ → List ℕ → List ℕ → End
end p tx rx out = record { part = p; tx = tx; rx = rx; out = out }

-- printed at the front of the output; the cells beyond are as lent
abbrev pub placed : List ℕ → List ℕ → List ℕ
placed text cells = text ++ drop (length text) cells

abbrev pub shown : Played → List ℕ → End
shown p cells = end (record { bridge = p.bridge; length = length p.printed; on = p.on }) p.tx p.rx (placed p.printed cells)

-- the longest line of each whole record, and `bad record`
abbrev pub room : List ℕ → ℕ
room records = length records / 3 * most_printed + said_length

-- Where the output has less room nothing is done: all is as lent, nothing printed, and the script does not go on.
unfoldable pub play : Layouts → Bridge → List ℕ → List ℕ → List ℕ → List ℕ → End
play l b tx rx records cells =
    pick (leb (room records) (length cells)) (shown (played l b tx rx records) cells)
    (end (record { bridge = b; length = 0; on = false }) tx rx cells)

-- the head of a script
pub record Begun : Type 0 where
  pub part : Part
  pub out : List ℕ

abbrev pub begun : Part → List ℕ → Begun
begun p out = record { part = p; out = out }

-- a right head prints nothing; where a wrong one has no room for its line, nothing is printed either
unfoldable pub begin : List ℕ → List ℕ → Begun
begin head cells =
    pick (is_head head) (begun (record { bridge = power_up; length = 0; on = true }) cells)
    (pick (leb said_length (length cells)) (begun (record { bridge = power_up; length = said_length; on = false }) (placed (bytes_of bad_script) cells))
    (begun (record { bridge = power_up; length = 0; on = false }) cells))
