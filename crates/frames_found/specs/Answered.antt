-- What the bridge answers to an order, and that it reads back as such (02 item 1, "read the answer back as STATUS or data"). Assumes nothing.
use Rattle.std.specs.Prelude.{◌≡◌, true, false, List, [], ◌∷◌, map, ℕ, ◌+◌, eqb, length, take, Option, None, Some}
use Rattle.base.specs.Bits.{bit}
use Rattle.base.specs.Pick.{pick}
use Rattle.command.specs.Layouts.{Layouts, layouts}
use Rattle.command.specs.declared.Command.{Command}
use Rattle.command.specs.declared.Command.TheVariants.{Filler, Malformed, Forward, DataRead, RegisterWrite, RegisterRead, SoftReset}
use Rattle.registers.specs.Registers.{status_of, read_of}
use Rattle.state.specs.Rings.{oldest}
use Rattle.state.specs.declared.Phase.TheVariants.{Idle}
use Rattle.plan.specs.Plan.{no_answer}
use Rattle.events.specs.declared.Event.{Event}
use Rattle.bridge.specs.Runs.{Config}
use Rattle.order.specs.Framed.{host_words}
use Rattle.frames.specs.Answers.{answer_of, told_of}
use Rattle.frames.specs.declared.Due.{Due}
use Rattle.frames.specs.declared.Due.TheVariants.{StatusDue, DataDue}
use Rattle.frames.specs.declared.Order.{Order}
use Rattle.frames.specs.declared.Order.TheVariants.{FwdWrCrc, FwdWr, FwdWrEndCrc, FwdWrEnd, FwdRdEndCrc, FwdRdEnd, DataRdCrc, DataRd, RegWrCrc, RegWr, RegRdCrc, RegRd, SoftResetCrc}
use Rattle.frames.specs.declared.Told.TheVariants.{Status, Data}
use Rattle.frames_found.specs.Moments.{Moment, moments_in}

-- the SDO words of a run, one for each host word: what the host reads
unfoldable pub sdo_in : Layouts → Config → List Event → List ℕ
sdo_in l c es = map (λ (m : Moment). m.answer.sdo) (moments_in l c es)

-- the bridge and its stores as each host word finds them
unfoldable pub found_by : Layouts → Config → List Event → List Config
found_by l c es = map (λ (m : Moment). m.at) (moments_in l c es)

-- "Reads answer the words, each read as it is answered" (01 Frames): the next of the values that an order asks for, as it is at that moment. The oldest word
-- of RX, or 0xFFFF where there is none (note 15); the register at an address.
abbrev pub rx_word : Config → ℕ
rx_word c = pick (eqb c.bridge.receiving.rx.count 0) no_answer (oldest c.rx c.bridge.receiving.rx)

abbrev pub register : Config → ℕ → ℕ
register c address = read_of c.bridge.control c.bridge.sending.tx.count c.bridge.receiving.rx.count address

-- words of RX, one at each moment; registers from an address on, one at each moment
unfoldable pub handed_at : List Config → List ℕ
handed_at [] = []
handed_at (c ∷ cs) = rx_word c ∷ handed_at cs

unfoldable pub registers_at : ℕ → List Config → List ℕ
registers_at address [] = []
registers_at address (c ∷ cs) = register c address ∷ registers_at (address + 1) cs

-- the data that an order asks for
unfoldable pub data_at : Order → List Config → List ℕ
data_at FwdWrCrc cs = []
data_at FwdWr cs = []
data_at (FwdWrEndCrc ends) cs = []
data_at (FwdWrEnd ends) cs = []
data_at (FwdRdEndCrc ends) cs = []
data_at (FwdRdEnd ends) cs = []
data_at (DataRdCrc count) cs = handed_at (take count cs)
data_at (DataRd count) cs = handed_at (take count cs)
data_at (RegWrCrc address) cs = []
data_at (RegWr address) cs = []
data_at (RegRdCrc address count) cs = registers_at address (take count cs)
data_at (RegRd address count) cs = registers_at address (take count cs)
data_at SoftResetCrc cs = []

-- what the bridge answers a command with: "FWD, REG_WR and reset answer STATUS", "Reads answer the words" (01 Frames)
abbrev pub answered_with : Command → Option Due
answered_with Filler = None
answered_with Malformed = None
answered_with (Forward crc words ends reads) = Some StatusDue
answered_with (DataRead crc words) = Some (DataDue words)
answered_with (RegisterWrite crc address count) = Some StatusDue
answered_with (RegisterRead crc address count) = Some (DataDue count)
answered_with SoftReset = Some StatusDue

-- c is as the frame's CRC word left it, and es brings as many host words as the answer has; s is where the frame's CRC started, and so its answer's: "the next
-- SPI command uses the new algorithm" (001 7.5.3), also where the frame itself changed it. "unless SPICTRL bit 0 is 1" (01 Frames).
pub record ReadsBack (s : ℕ) (o : Order) (c : Config) (es : List Event) : Type 0 where
  -- "STATUS and its CRC .. taken at the CRC word after its effects"
  pub status : answer_of o ≡ StatusDue → bit 0 c.bridge.control.regs.spictrl ≡ false → length (host_words es) ≡ 2
      → told_of s o (sdo_in layouts c es) ≡ Some (Status (status_of c.bridge.control))
  pub no_status : answer_of o ≡ StatusDue → bit 0 c.bridge.control.regs.spictrl ≡ true → c.bridge.frame.phase ≡ Idle
  pub data_told : (count : ℕ) → answer_of o ≡ DataDue count → length (host_words es) ≡ count + 1 → told_of s o (sdo_in layouts c es) ≡ Some (Data count)
  pub data_is : (count : ℕ) → answer_of o ≡ DataDue count → length (host_words es) ≡ count + 1 → take count (sdo_in layouts c es) ≡ data_at o (found_by layouts c es)
