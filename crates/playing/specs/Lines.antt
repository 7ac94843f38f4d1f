-- The lines of events by their records and by what a list call says of them (02 item 6): what the inner functions print. Assumes nothing.
use Rattle.std.specs.Prelude.{true, List, [], ◌∷◌, ◌++◌, ℕ, eqb, get_or, drop}
use Rattle.plan.specs.Plan.{no_answer}
use Rattle.script.specs.Script.{value_of, line_of}
use Rattle.script.specs.declared.Line.{Line}
use Rattle.playing.specs.Playing.{bytes_of}

-- of an event whose four bytes are in front: "note, SDO high byte first, SOUT"
abbrev pub line_with : ℕ → ℕ → List ℕ → Line
line_with kind value s = line_of kind value (get_or s 0 0) (value_of (get_or s 1 0) (get_or s 2 0)) (eqb (get_or s 3 0) 1)

abbrev pub first_line : List ℕ → List ℕ → Line
first_line records s = line_with (get_or records 0 0) (value_of (get_or records 1 0) (get_or records 2 0)) s

-- of each record
unfoldable pub lines_in : List ℕ → List ℕ → List ℕ
lines_in [] s = []
lines_in (kind ∷ []) s = []
lines_in (kind ∷ high ∷ []) s = []
lines_in (kind ∷ high ∷ low ∷ rest) s = bytes_of (line_with kind (value_of high low) s) ++ lines_in rest (drop 4 s)

-- of each record where the list is refused with this note
unfoldable pub refused_lines : ℕ → List ℕ → List ℕ
refused_lines note [] = []
refused_lines note (kind ∷ []) = []
refused_lines note (kind ∷ high ∷ []) = []
refused_lines note (kind ∷ high ∷ low ∷ rest) = bytes_of (line_of kind (value_of high low) note no_answer true) ++ refused_lines note rest
