-- One event of a run that is not broken off, seen from the frame: what a host word gives by its plan, and that ticks and clock readings leave alone the phase,
-- but that they may block a forward (01 Notes, 5), the CRC that the frame uses and the registers.
use mathlib.Core.Path.{◌≡◌, ap}
use Prim.Native.Nat.{ℕ}
use mathlib.Core.Bool.{Bool}
use Rattle.base.specs.Pick.{pick_keeps}
use Rattle.command.specs.Layouts.{layouts}
use Rattle.registers.specs.declared.Regs.{Regs}
use Rattle.state.specs.Rings.{oldest}
use Rattle.state.specs.declared.Phase.{Phase}
use Rattle.plan.specs.Plan.{settled, concluded, xmodem_after, performed}
use Rattle.plan.specs.declared.Plan.{Plan}
use Rattle.host.specs.Frames.{planned_in, planned}
use Rattle.ticks.specs.Ticks.{blocked_in, phase_after, control_ticked, tick_ends, tick_hears, ticked}
use Rattle.clock.specs.Clock.{control_at, clocked}
use Rattle.kept.proofs.Fits.{layouts_fit}
use Rattle.kept.proofs.Sound.{sound_facts}
use Rattle.events.specs.Events.{reacted}
use Rattle.events.specs.Turn.{turned, turn}
use Rattle.events.specs.declared.Event.{Event}
use Rattle.events.specs.declared.Event.TheVariants.{Word, Tick, Clock as ClockReading}
use Rattle.bridge.specs.Runs.{Config, out_of, next}
use Rattle.bridge.proofs.Reached.{Obeys, obeyed_turn, step_obeys}
use Rattle.frames_found.specs.Found.{Awaits}

pub awaits_obeys : (c : Config) → Awaits c → Obeys c
awaits_obeys c a = record { rules = sound_facts c.bridge a.rules a.eight; stores = a.stores }

pub obeys_on : (c : Config) (e : Event) → Obeys c → Obeys (next layouts c e)
obeys_on c e o = step_obeys layouts layouts_fit c e o

abbrev pub phase_of : Config → Phase
phase_of c = c.bridge.frame.phase

-- what a frame goes by
pub record View : Type 0 where
  pub phase : Phase
  pub xmodem : Bool
  pub regs : Regs

abbrev pub view_of : Config → View
view_of c = record { phase = phase_of c; xmodem = c.bridge.frame.xmodem; regs = c.bridge.control.regs }

-- "while a blocking flag is or was up during this frame"
abbrev pub blocked_view : View → View
blocked_view v = record { phase = blocked_in v.phase; xmodem = v.xmodem; regs = v.regs }

-- what is asked of the phase alone
abbrev pub OfPhase : (Phase → Type 0) → View → Type 0
OfPhase P v = P v.phase

-- what a host word asks for there
abbrev pub plan_at : Config → ℕ → Plan
plan_at c w = planned layouts c.bridge w (oldest c.rx c.bridge.receiving.rx)

pub plan_in : (c : Config) (w : ℕ) (ph : Phase) → phase_of c ≡ ph
    → plan_at c w ≡ planned_in layouts c.bridge ph w (oldest c.rx c.bridge.receiving.rx)
unfolding planned
plan_in c w ph h = ap (λ (q : Phase). planned_in layouts c.bridge q w (oldest c.rx c.bridge.receiving.rx)) h

module _ (c : Config) (o : Obeys c) where
  module _ (w : ℕ) where
    pub word_note : (out_of layouts c (Word w)).answer.note ≡ (plan_at c w).note
    unfolding turn turned reacted
    word_note = rw (obeyed_turn layouts layouts_fit c (Word w) o)

    pub word_sdo : (out_of layouts c (Word w)).answer.sdo ≡ (plan_at c w).sdo
    unfolding turn turned reacted
    word_sdo = rw (obeyed_turn layouts layouts_fit c (Word w) o)

    -- STATUS is that of the control which the word leaves; its CRC is the frame's
    pub word_phase : phase_of (next layouts c (Word w))
        ≡ concluded layouts c.bridge.frame.xmodem (plan_at c w).status (next layouts c (Word w)).bridge.control (plan_at c w).phase
    unfolding next turn turned reacted performed
    word_phase = rw (obeyed_turn layouts layouts_fit c (Word w) o)

    pub word_xmodem : (next layouts c (Word w)).bridge.frame.xmodem ≡ xmodem_after c.bridge (plan_at c w).phase
    unfolding next turn turned reacted performed
    word_xmodem = rw (obeyed_turn layouts layouts_fit c (Word w) o)

  -- what a blocked phase keeps, a tick and a clock reading keep
  module _ (P : View → Type 0) (blocks : (v : View) → P v → P (blocked_view v)) (h : P (view_of c)) where
    pub tick_keeps : (sin : Bool) → P (view_of (next layouts c (Tick sin)))
    unfolding next turn turned reacted ticked tick_hears tick_ends phase_after control_ticked settled
    tick_keeps sin = rw (obeyed_turn layouts layouts_fit c (Tick sin) o) (pick_keeps in_phase _ _ _ (λ t. blocks _ h) (λ t. h))
      where
        in_phase : Phase → Type 0
        in_phase ph = P (record { phase = ph; xmodem = c.bridge.frame.xmodem; regs = c.bridge.control.regs })

    pub clock_keeps : (reading : ℕ) → P (view_of (next layouts c (ClockReading reading)))
    unfolding next turn turned reacted clocked control_at settled
    clock_keeps reading = rw (obeyed_turn layouts layouts_fit c (ClockReading reading) o) h
