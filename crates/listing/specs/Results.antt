-- The four bytes of an event at their place (02 item 6): "note, SDO high byte first, SOUT". Assumes nothing.
use Rattle.std.specs.Prelude.{Bool, true, false, List, [], ◌∷◌, ℕ, ◌+◌, ◌*◌, ◌/◌, ◌%◌, set}

unfoldable pub bit_byte : Bool → ℕ
bit_byte true = 1
bit_byte false = 0

abbrev pub four_bytes : ℕ → ℕ → Bool → List ℕ
four_bytes note sdo sout = note ∷ sdo / 256 ∷ sdo % 256 ∷ bit_byte sout ∷ []

-- those of event k, counted from 0
unfoldable pub put : List ℕ → ℕ → ℕ → ℕ → Bool → List ℕ
put s k note sdo sout = set (set (set (set s (k * 4) note) (k * 4 + 1) (sdo / 256)) (k * 4 + 2) (sdo % 256)) (k * 4 + 3) (bit_byte sout)
