-- Power-up obeys the record rules, and a clock reading keeps them (01 Notes, note 2: "every state reached from power-up obeys them"). Assumes nothing.
use mathlib.Core.Path.{◌≡◌, refl}
use mathlib.Core.Bool.{Bool, true, false}
use Prim.Native.Nat.{ℕ}
use Rattle.layout.specs.declared.Layout.{Layout}
use Rattle.base.specs.Pick.{pick, pick_keeps}
use Rattle.events.specs.Events.{powered}
use Rattle.clock.specs.Clock.{watch_fires, flags_at, control_at, clocked}
use Rattle.plan.specs.Plan.{settled}
use Rattle.rules.proofs.Facts.{power_up_sound, power_up_bad_sound}
use Rattle.state.specs.Power.{power_up_in, power_up_bad_in}
use Rattle.state.specs.declared.Bridge.{Bridge}
use Rattle.kept.proofs.Sound.{sound_facts}
use Rattle.kept.proofs.Marks.{sent_marks}
use Rattle.kept.proofs.Standing.{unread_same}
use Rattle.kept.specs.Rules.{BridgeRules}
use Rattle.registers.specs.Raising.{raised}
use Rattle.registers.specs.Registers.{rxff}
use Rattle.registers.specs.declared.Flags.{Flags}
use Rattle.events.proofs.Control.{clock_control}

good_rules : (layout : Layout) → BridgeRules (power_up_in layout)
unfolding power_up_in
good_rules layout = sound_facts (power_up_in layout) (power_up_sound layout) refl

bad_rules : (layout : Layout) → BridgeRules (power_up_bad_in layout)
unfolding power_up_bad_in
bad_rules layout = sound_facts (power_up_bad_in layout) (power_up_bad_sound layout) refl

pub power_keeps : (good : Bool) (layout : Layout) → BridgeRules (powered good layout)
unfolding powered
power_keeps good layout = pick_keeps BridgeRules good _ _ (λ h. good_rules layout) (λ h. bad_rules layout)

-- the SIN flag is no RX flag
still_heard : (f : Flags) (fires : Bool) → rxff (flags_at f fires) ≡ rxff f
unfolding flags_at raised pick
still_heard f true = refl
still_heard f false = refl

pub clock_keeps : (b : Bridge) (reading : ℕ) → BridgeRules b → BridgeRules (clocked b reading).bridge
unfolding clocked control_at settled
clock_keeps b reading r = record {
  sending = r.sending;
  stands = r.stands;
  phase = r.phase;
  rx = r.rx;
  ear = r.ear;
  marks =
      sent_marks b.receiving b.sending.queue b.sending.queue b.control.flags _ (unread_same b.sending.queue)
      (still_heard b.control.flags (watch_fires b.clock reading))
      r.marks;
  control = clock_control b reading r.control;
  regs = r.regs;
  algorithm = r.algorithm;
}
