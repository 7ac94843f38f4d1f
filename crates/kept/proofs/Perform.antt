-- A plan that keeps the rules of sending side, frame and registers, carried out, keeps them all (01 Notes, note 2). Assumes nothing.
use mathlib.Core.Path.{◌≡◌, refl}
use mathlib.Core.Bool.{Bool, true, false}
use Prim.Native.Nat.{ℕ}
use native.Mathlib.Nat.{mod-lt}
use native.Mathlib.Omega.{arith}
use Rattle.base.specs.Bits.{bit}
use Rattle.base.specs.Pick.{pick, pick_keeps}
use Rattle.command.specs.Layouts.{Layouts}
use Rattle.plan.specs.Plan.{cleared_away, received, settled, concluded, performed}
use Rattle.plan.specs.declared.Plan.{Plan}
use Rattle.plan.specs.declared.Receive.{Receive}
use Rattle.plan.specs.declared.Receive.TheVariants.{LeaveRx, PopRx, StopRx, EmptyRx, ResetRx}
use Rattle.layout.specs.declared.Layout.{Layout}
use Rattle.layout.specs.declared.Layout.TheVariants.{Ours, Makers}
use Rattle.frame_rules.specs.Frames.{algorithm_sound}
use Rattle.registers.specs.Registers.{regs_sound, status_of}
use Rattle.registers.specs.Spictrl.{is_xmodem_in}
use Rattle.registers.specs.declared.Control.{Control}
use Rattle.line_rules.specs.Line.{ear_sound}
use Rattle.state.specs.Facts.{RingFit}
use Rattle.state.specs.Frame.{mine_of, to_come, reply_sound, phase_sound}
use Rattle.state.specs.declared.Bridge.{Bridge}
use Rattle.state.specs.declared.Clock.{Clock}
use Rattle.state.specs.declared.Deed.{Deed}
use Rattle.state.specs.declared.Deed.TheVariants.{Leave, Enqueue, TakeBack, ClearAll, ResetAll}
use Rattle.state.specs.declared.Phase.{Phase}
use Rattle.state.specs.declared.Phase.TheVariants.{Idle, Answering}
use Rattle.state.specs.declared.Receiving.{Receiving}
use Rattle.state.specs.declared.Reply.TheVariants.{Status}
use Rattle.state.specs.declared.Sending.{Sending}
use Rattle.kept.proofs.Control.{Rises, performed_control}
use Rattle.kept.proofs.Forward.{Leaves}
use Rattle.kept.proofs.Marks.{performed_marks}
use Rattle.kept.proofs.Stands.{stands_done}
use Rattle.kept.specs.Rules.{SendRules, BridgeRules}

-- STATUS is answered only where the frame is over
pub record PlanRules (b : Bridge) (p : Plan) : Type 0 where
  pub leaves : Leaves b.sending p.store p.deed p.phase
  pub regs : regs_sound p.control.regs ≡ true
  pub ending : p.status ≡ true → p.phase ≡ Idle

-- the receiving side's rules
pub record Hears (r : Receiving) : Type 0 where
  pub rx : RingFit 256 r.rx
  pub ear : ear_sound r.reader.ear ≡ true

cleared_away_hears : (r : Receiving) (d : Deed) → Hears r → Hears (cleared_away r d)
unfolding cleared_away
cleared_away_hears r Leave h = h
cleared_away_hears r (Enqueue p) h = h
cleared_away_hears r (TakeBack n) h = h
cleared_away_hears r ClearAll h = record { rx = h.rx; ear = h.ear }
cleared_away_hears r ResetAll h = h

received_hears : (r : Receiving) (v : Receive) → Hears r → Hears (received r v)
unfolding received ear_sound
received_hears r LeaveRx h = h
received_hears r PopRx h = record { rx = record { head = mod-lt _ (omega arith); count = omega (arith, h.rx.count) }; ear = h.ear }
received_hears r StopRx h = record { rx = h.rx; ear = h.ear }
received_hears r EmptyRx h = record { rx = record { head = h.rx.head; count = omega arith }; ear = h.ear }
received_hears r ResetRx h = record { rx = record { head = h.rx.head; count = omega arith }; ear = refl }

-- what STATUS's answer leaves to a frame that is over: nothing to bring, nothing in TX
abbrev Fares : Sending → Phase → Type 0
Fares s p = SendRules s (to_come p) (mine_of p) × (phase_sound p ≡ true)

concluded_fares : (l : Layouts) (xmodem status : Bool) (c : Control) (p : Phase) (s : Sending) → (status ≡ true → p ≡ Idle) → Fares s p
    → Fares s (concluded l xmodem status c p)
unfolding concluded pick to_come mine_of phase_sound reply_sound
concluded_fares l xmodem true c p s e f =
    let i : Fares s Idle = rw (e refl) at f in
    pick_keeps (Fares s) (bit 0 c.regs.spictrl) Idle (Answering (Status (status_of c)) (l.crc_start xmodem)) (λ h. i) (λ h. i)
concluded_fares l xmodem false c p s e f = f

-- a frame that is opened takes what its layout has
in_force : (layout : Layout) (spictrl : ℕ) → algorithm_sound layout (is_xmodem_in layout spictrl) ≡ true
unfolding is_xmodem_in
in_force Ours spictrl = refl
in_force Makers spictrl = refl

performed_algorithm : (l : Layouts) (b : Bridge) (clock : Clock) (p : Plan) → Rises b p
    → algorithm_sound b.control.regs.layout b.frame.xmodem ≡ true
    → algorithm_sound (performed l b clock p).control.regs.layout (performed l b clock p).frame.xmodem ≡ true
unfolding performed settled
performed_algorithm l b clock p v a =
    rw v.layout
    (pick_keeps (λ (x : Bool). algorithm_sound b.control.regs.layout x ≡ true) _ _ _
    (λ h. in_force b.control.regs.layout b.control.regs.spictrl) (λ h. a))

pub performed_keeps : (l : Layouts) (b : Bridge) (clock : Clock) (p : Plan) → BridgeRules b → PlanRules b p → Rises b p
    → BridgeRules (performed l b clock p)
unfolding performed settled
performed_keeps l b clock p r k v =
    let h : Hears (received (cleared_away b.receiving p.deed) p.receive)
    = received_hears _ p.receive (cleared_away_hears b.receiving p.deed (record { rx = r.rx; ear = r.ear })) in
    let f = concluded_fares l b.frame.xmodem p.status (performed l b clock p).control p.phase _ k.ending (k.leaves.sending, k.leaves.phase) in
    record {
      sending = f.0;
      stands = stands_done b.sending p.store p.deed r.sending.queue r.sending.eight r.stands k.leaves.asks;
      phase = f.1;
      rx = h.rx;
      ear = h.ear;
      marks = performed_marks b p r v k.leaves.asks;
      control = performed_control l b clock p r.control.word v;
      regs = k.regs;
      algorithm = performed_algorithm l b clock p v r.algorithm;
    }
