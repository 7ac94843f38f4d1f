-- Arms of an answer, as the proofs of src/lib.rt ask them. Assumes nothing.
use mathlib.Core.Path.{◌≡◌}
use mathlib.Core.Bool.{true, ◌&&◌}
use Prim.Native.Nat.{ℕ, ◌+◌, ◌<◌, ◌≤◌}
use Rattle.command.specs.Layouts.{layouts}
use Rattle.registers.specs.Registers.{read_of}
use Rattle.state.specs.declared.Reply.{Reply}
use Rattle.state.specs.declared.Reply.TheVariants.{Status, Registers, Check}
use Rattle.state.specs.declared.Phase.{Phase}
use Rattle.state.specs.declared.Phase.TheVariants.{Answering}
use Rattle.state.specs.declared.Bridge.{Bridge}
use Rattle.state.specs.declared.Note.{Note}
use Rattle.state.specs.declared.Note.TheVariants.{Done}
use Rattle.registers.specs.declared.Control.{Control}
use Rattle.plan.specs.Plan.{plain}
use Rattle.plan.specs.declared.Receive.{Receive}
use Rattle.answers.specs.Answers.{answer_with, register_answered, answered}
use Rattle.plan.specs.declared.Plan.{Plan}
use Rattle.plan.specs.declared.Receive.TheVariants.{LeaveRx}
use native.Mathlib.Omega.{arith}
use lib.Dec.{ltb, leb}
use Rattle.base.specs.Pick.{and_r}
use Rattle.state.specs.Frame.{reply_sound}
use borrow.Author.Tests.{leb-true}

-- a word of the answer, over the plan that only moves the phase
pub to_answer_with : (b : Bridge) (c : Control) (r : Receive) (n : Note) (phase : Phase) (w : ℕ) (p : Plan) → p ≡ plain b phase n
    → ◌≡◌ {A = Plan}
    (record {
      phase = p.phase;
      held = p.held;
      control = c;
      store = p.store;
      deed = p.deed;
      receive = r;
      note = p.note;
      sdo = w;
      status = p.status;
    })
    (answer_with b c r n phase w)
unfolding answer_with
to_answer_with b c r n phase w p h = rw h

pub to_unchanged : (b : Bridge) (phase : Phase) (w : ℕ) (p : Plan) → p ≡ plain b phase Done
    → ◌≡◌ {A = Plan}
    (record {
      phase = p.phase;
      held = p.held;
      control = p.control;
      store = p.store;
      deed = p.deed;
      receive = p.receive;
      note = p.note;
      sdo = w;
      status = p.status;
    })
    (answer_with b b.control LeaveRx Done phase w)
unfolding answer_with
to_unchanged b phase w p h = rw h

-- an arm of an answer
pub to_answer : (b : Bridge) (reply k : Reply) (sum w : ℕ) (x : Plan) → reply ≡ k → x ≡ answered layouts b k sum w → x ≡ answered layouts b reply sum w
to_answer b reply k sum w x h e = rw h e

pub to_status : (b : Bridge) (reply : Reply) (status sum w : ℕ) (p : Phase) (x : Plan) → reply ≡ Status status
    → p ≡ Answering Check (layouts.crc_step sum status) → x ≡ answer_with b b.control LeaveRx Done p status → x ≡ answered layouts b reply sum w
unfolding answered
to_status b reply status sum w p x h q e = rw (h, ← q) e

pub to_register : (b : Bridge) (reply : Reply) (address left sum w v : ℕ) (x : Plan) → reply ≡ Registers address left
    → v ≡ read_of b.control b.sending.tx.count b.receiving.rx.count address → x ≡ register_answered layouts b address left sum v
    → x ≡ answered layouts b reply sum w
unfolding answered
to_register b reply address left sum w v x h q e = rw (h, ← q) e

-- the registers of a read exist
pub next_fits : (reply : Reply) (address left : ℕ) → reply_sound reply ≡ true → reply ≡ Registers address left → address < 65535
unfolding reply_sound
next_fits reply address left s h =
    let t : (ltb 0 left && leb (address + left) 12) ≡ true = rw h at s in
    let l : address + left ≤ 12 = leb-true _ _ (and_r (ltb 0 left) _ t) in
    omega arith
