-- The event script and what is printed of it (01 The bench program). Assumes nothing.
use Rattle.std.specs.Prelude.{Bool, true, false, ◌&&◌, List, [], ◌∷◌, ℕ, ◌+◌, ◌*◌, ◌/◌, ◌%◌, ltb, leb, eqb, length, get_or, Option, None, Some}
use Rattle.base.specs.Pick.{pick}
use Rattle.layout.specs.declared.Layout.TheVariants.{Ours, Makers}
use Rattle.events.specs.declared.Event.{Event}
use Rattle.events.specs.declared.Event.TheVariants.{Power, Word, Release, Tick, Clock}
use Rattle.script.specs.declared.Line.{Line}

-- "mark CWB, a 16-bit version 1 (high byte first)"; fewer bytes are a wrong head
abbrev pub is_head : List ℕ → Bool
is_head s =
    pick (ltb (length s) 5) false
    (eqb (get_or s 0 0) 0x43 && eqb (get_or s 1 0) 0x57 && eqb (get_or s 2 0) 0x42 && eqb (get_or s 3 0) 0 && eqb (get_or s 4 0) 1)

-- "a 16-bit value", high byte first
abbrev pub value_of : ℕ → ℕ → ℕ
value_of high low = high * 256 + low

-- "0 power (1 good, 0 bad)" is our layout's; the maker's is "script values 2 bad, 3 good" (02 item 7)
unfoldable pub power_record : ℕ → Option Event
power_record value =
    get_or (Some (Power false Ours) ∷ Some (Power true Ours) ∷ Some (Power false Makers) ∷ Some (Power true Makers) ∷ []) value None

-- "3 tick (0 or 1)"
unfoldable pub tick_record : ℕ → Option Event
tick_record value = pick (leb value 1) (Some (Tick (eqb value 1))) None

-- "2 release (0)"
unfoldable pub release_record : ℕ → Option Event
release_record value = pick (eqb value 0) (Some Release) None

-- by the kind byte: "0 power .., 1 word, 2 release .., 3 tick .., 4 clock"; every other is a wrong record
unfoldable pub record_of : ℕ → ℕ → Option Event
record_of kind value =
    get_or
    (power_record value ∷ Some (Word value) ∷ release_record value ∷ tick_record value ∷ Some (Clock value) ∷ [])
    kind
    None

-- hex digits are capitals
abbrev pub hex_digit : ℕ → ℕ
hex_digit n = pick (ltb n 10) (n + 0x30) (n + 0x37)

abbrev pub digit : ℕ → ℕ
digit n = n % 10 + 0x30

abbrev pub space : ℕ
space = 0x20

abbrev pub newline : ℕ
newline = 0x0A

unfoldable pub sign : Bool → ℕ
sign true = 0x31
sign false = 0x30

-- "Each event prints kind, value, note, SDO, SOUT (value and SDO as four hex digits, the rest decimal)": a line, in an array of the longest's size
unfoldable pub line_of : ℕ → ℕ → ℕ → ℕ → Bool → Line
line_of kind value note sdo sout =
    pick (ltb note 10)
    (record {
      bytes =
          digit kind
          ∷ space
          ∷ hex_digit (value / 4096 % 16)
          ∷ hex_digit (value / 256 % 16)
          ∷ hex_digit (value / 16 % 16)
          ∷ hex_digit (value % 16)
          ∷ space
          ∷ digit note
          ∷ space
          ∷ hex_digit (sdo / 4096 % 16)
          ∷ hex_digit (sdo / 256 % 16)
          ∷ hex_digit (sdo / 16 % 16)
          ∷ hex_digit (sdo % 16)
          ∷ space
          ∷ sign sout
          ∷ newline
          ∷ 0
          ∷ [];
      length = 16;
    })
    (record {
      bytes =
          digit kind
          ∷ space
          ∷ hex_digit (value / 4096 % 16)
          ∷ hex_digit (value / 256 % 16)
          ∷ hex_digit (value / 16 % 16)
          ∷ hex_digit (value % 16)
          ∷ space
          ∷ digit (note / 10)
          ∷ digit note
          ∷ space
          ∷ hex_digit (sdo / 4096 % 16)
          ∷ hex_digit (sdo / 256 % 16)
          ∷ hex_digit (sdo / 16 % 16)
          ∷ hex_digit (sdo % 16)
          ∷ space
          ∷ sign sout
          ∷ newline
          ∷ [];
      length = 17;
    })
