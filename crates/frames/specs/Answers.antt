-- The answer to an order, read (02 item 1; 01 Frames, "FWD, REG_WR and reset answer STATUS and its CRC", "Reads answer the words .., then their CRC"). Assumes
-- nothing.
use Rattle.std.specs.Prelude.{Bool, ◌&&◌, List, ℕ, ◌+◌, eqb, length, get_or, take, Option, None, Some}
use Rattle.base.specs.Pick.{pick}
use Rattle.crc16.specs.Crc.{crc_from}
use Rattle.frames.specs.Orders.{fields_within}
use Rattle.frames.specs.declared.Order.{Order}
use Rattle.frames.specs.declared.Order.TheVariants.{FwdWrCrc, FwdWr, FwdWrEndCrc, FwdWrEnd, FwdRdEndCrc, FwdRdEnd, DataRdCrc, DataRd, RegWrCrc, RegWr, RegRdCrc, RegRd, SoftResetCrc}
use Rattle.frames.specs.declared.Told.{Told}
use Rattle.frames.specs.declared.Told.TheVariants.{Status, Data}
use Rattle.frames.specs.declared.Due.{Due}
use Rattle.frames.specs.declared.Due.TheVariants.{StatusDue, DataDue}

-- what an order is answered with
abbrev pub answer_of : Order → Due
answer_of FwdWrCrc = StatusDue
answer_of FwdWr = StatusDue
answer_of (FwdWrEndCrc ends) = StatusDue
answer_of (FwdWrEnd ends) = StatusDue
answer_of (FwdRdEndCrc ends) = StatusDue
answer_of (FwdRdEnd ends) = StatusDue
answer_of (DataRdCrc count) = DataDue count
answer_of (DataRd count) = DataDue count
answer_of (RegWrCrc address) = StatusDue
answer_of (RegWr address) = StatusDue
answer_of (RegRdCrc address count) = DataDue count
answer_of (RegRd address count) = DataDue count
answer_of SoftResetCrc = StatusDue

-- an order outside the limits has no answer
unfoldable pub due_of : Order → Option Due
due_of o = pick (fields_within o) (Some (answer_of o)) None

-- n words, and then their CRC, which starts at s
unfoldable pub is_answer : ℕ → ℕ → List ℕ → Bool
is_answer s n words = eqb (length words) (n + 1) && eqb (get_or words n 0) (crc_from s (take n words))

unfoldable pub told_by : ℕ → Option Due → List ℕ → Option Told
told_by s None words = None
told_by s (Some StatusDue) words = pick (is_answer s 1 words) (Some (Status (get_or words 0 0))) None
told_by s (Some (DataDue count)) words = pick (is_answer s count words) (Some (Data count)) None

-- "20 .. an answer of wrong length or CRC", by the CRC of its frame (02 item 7)
unfoldable pub told_of : ℕ → Order → List ℕ → Option Told
told_of s o words = told_by s (due_of o) words

-- the refusal by 02's number; 0 is none
abbrev pub answer_refusal : Option Told → ℕ
answer_refusal (Some told) = 0
answer_refusal None = 20
