-- The answer (01 Frames, "Reads answer the words, each read as it is answered, then their CRC"; note 15). Assumes nothing.
use Rattle.std.specs.Prelude.{false, ℕ, ◌+◌, ◌-◌, leb, eqb, None}
use Rattle.base.specs.Pick.{pick}
use Rattle.command.specs.Layouts.{Layouts}
use Rattle.registers.specs.Registers.{read_of}
use Rattle.registers.specs.Raising.{raised_in}
use Rattle.registers.specs.declared.Control.{Control}
use Rattle.registers.specs.declared.Flag.TheVariants.{RxUvf}
use Rattle.state.specs.declared.Bridge.{Bridge}
use Rattle.state.specs.declared.Deed.TheVariants.{Leave}
use Rattle.state.specs.declared.Note.{Note}
use Rattle.state.specs.declared.Note.TheVariants.{Done, RxEmpty}
use Rattle.state.specs.declared.Phase.{Phase}
use Rattle.state.specs.declared.Phase.TheVariants.{Idle, Answering}
use Rattle.state.specs.declared.Reply.{Reply}
use Rattle.state.specs.declared.Reply.TheVariants.{Status, Data, Registers, Check}
use Rattle.plan.specs.Plan.{no_answer}
use Rattle.plan.specs.declared.Plan.{Plan}
use Rattle.plan.specs.declared.Receive.{Receive}
use Rattle.plan.specs.declared.Receive.TheVariants.{LeaveRx, PopRx, StopRx}

-- "each read as it is answered, then their CRC".

unfoldable pub answer_with : Bridge → Control → Receive → Note → Phase → ℕ → Plan
answer_with b c r n p w = record {
  phase = p;
  held = b.frame.held;
  control = c;
  store = None;
  deed = Leave;
  receive = r;
  note = n;
  sdo = w;
  status = false;
}

-- the oldest word of RX, w; note 15: "RXFFUVF, answer word 0xFFFF"
unfoldable pub data_answered : Layouts → Bridge → ℕ → ℕ → ℕ → Plan
data_answered l b left sum w =
    pick (eqb b.receiving.rx.count 0)
    (answer_with b (raised_in b.control RxUvf) StopRx RxEmpty (Answering next (l.crc_step sum no_answer)) no_answer)
    (answer_with b b.control PopRx Done (Answering next (l.crc_step sum w)) w)
  where
    next : Reply
    next = pick (leb left 1) Check (Data (left - 1))

unfoldable pub register_answered : Layouts → Bridge → ℕ → ℕ → ℕ → ℕ → Plan
register_answered l b address left sum w =
    answer_with b b.control LeaveRx Done
    (Answering (pick (leb left 1) Check (Registers (address + 1) (left - 1))) (l.crc_step sum w)) w

unfoldable pub answered : Layouts → Bridge → Reply → ℕ → ℕ → Plan
answered l b (Status s) sum w = answer_with b b.control LeaveRx Done (Answering Check (l.crc_step sum s)) s
answered l b (Data left) sum w = data_answered l b left sum w
answered l b (Registers address left) sum w =
    register_answered l b address left sum (read_of b.control b.sending.tx.count b.receiving.rx.count address)
answered l b Check sum w = answer_with b b.control LeaveRx Done Idle sum
