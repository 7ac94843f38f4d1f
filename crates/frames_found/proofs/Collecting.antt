-- A host word in an order's frame: the command word opens it, a data word is counted, a right CRC word closes it; and the note is of the state (02 item 1, "the
-- bridge's reader finds that same command"). Assumes nothing.
use mathlib.Core.Path.{◌≡◌, refl}
use mathlib.Core.Bool.{Bool, true, false, ◌||◌}
use Prim.Native.Nat.{ℕ, ◌+◌, ◌<◌}
use native.Mathlib.Omega.{arith}
use lib.ListN.{take}
use Rattle.base.specs.Pick.{pick, pick_keeps}
use Rattle.base.specs.Truth.{never}
use Rattle.command.specs.Layouts.{layouts}
use Rattle.command.specs.declared.Command.{Command}
use Rattle.command.specs.declared.Command.TheVariants.{Filler, Malformed, Forward, DataRead, RegisterWrite, RegisterRead, SoftReset}
use Rattle.registers.specs.declared.Control.{Control}
use Rattle.registers.specs.declared.Regs.{Regs}
use Rattle.state.specs.Frame.{data_words, is_forward}
use Rattle.state.specs.declared.Bridge.{Bridge}
use Rattle.state.specs.Sending.{idle}
use Rattle.state.specs.declared.Note.{Note}
use Rattle.state.specs.declared.Note.TheVariants.{Done, LineBusy}
use Rattle.state.specs.declared.Phase.{Phase}
use Rattle.state.specs.declared.Phase.TheVariants.{Idle, Collecting, Answering}
use Rattle.state.specs.declared.Progress.{Progress}
use Rattle.state.specs.declared.Reply.TheVariants.{Data, Registers}
use Rattle.state.specs.declared.Queue.{Queue}
use Rattle.forwards.specs.Forward.{guard, forwarded, forward_word, forward_begun}
use Rattle.forwards.specs.declared.Granted.{Granted}
use Rattle.forwards.specs.declared.Wish.{Wish}
use Rattle.writes.specs.Writes.{busy, no_effects, write_all, held_word, register_word}
use Rattle.closing.specs.Closing.{forward_closed, registers_closed, read_closed, reset_closed, crc_due}
use Rattle.host.specs.Frames.{opened, data_word}
use Rattle.plan.specs.Plan.{concluded}
use Rattle.plan.specs.declared.Plan.{Plan}
use Rattle.ticks.specs.Ticks.{blocked_in}
use Rattle.frames_found.specs.Frames.{is_command}
use Rattle.frames_found.specs.Found.{is_of_state}
use Rattle.frames_found.proofs.Turns.{View, blocked_view}

-- the phase of a frame of which so many data words came, with the CRC so far
pub record Collects (command : Command) (got sum : ℕ) (ph : Phase) : Type 0 where
  pub mine : ℕ
  pub released : Bool
  pub blocked : Bool
  pub is : ph ≡ Collecting command got sum mine released blocked

pub collects_blocked : (command : Command) (got sum : ℕ) (ph : Phase) → Collects command got sum ph → Collects command got sum (blocked_in ph)
unfolding blocked_in
collects_blocked command got sum ph h = record { mine = h.mine; released = h.released; blocked = is_forward command || h.blocked; is = rw h.is }

-- no frame is open
abbrev pub IsIdle : Phase → Type 0
IsIdle ph = ph ≡ Idle

pub idle_blocked : (ph : Phase) → IsIdle ph → IsIdle (blocked_in ph)
unfolding blocked_in
idle_blocked ph h = rw h

-- a frame that collects, with the CRC that its command word found in force
pub record Gathers (command : Command) (got sum : ℕ) (xmodem : Bool) (v : View) : Type 0 where
  pub collects : Collects command got sum v.phase
  pub latched : v.xmodem ≡ xmodem

pub gathers_blocked : (command : Command) (got sum : ℕ) (xmodem : Bool) (v : View) → Gathers command got sum xmodem v
    → Gathers command got sum xmodem (blocked_view v)
gathers_blocked command got sum xmodem v h = record { collects = collects_blocked command got sum v.phase h.collects; latched = h.latched }

-- no frame is open, and the registers are these
pub record Rests (r : Regs) (v : View) : Type 0 where
  pub idle : IsIdle v.phase
  pub regs_are : v.regs ≡ r

pub rests_blocked : (r : Regs) (v : View) → Rests r v → Rests r (blocked_view v)
rests_blocked r v h = record { idle = idle_blocked v.phase h.idle; regs_are = h.regs_are }

-- a plan after which the frame goes on so
pub record GoesOn (command : Command) (got sum : ℕ) (p : Plan) : Type 0 where
  pub collects : Collects command got sum p.phase
  pub no_status : p.status ≡ false
  pub of_state : is_of_state p.note ≡ true

-- what the frame is answered with, by its CRC: STATUS, or what the command asks for
abbrev pub after_frame : Bool → Command → Control → Phase
after_frame xmodem Filler control = Idle
after_frame xmodem Malformed control = Idle
after_frame xmodem (Forward crc words ends reads) control = concluded layouts xmodem true control Idle
after_frame xmodem (DataRead crc words) control = Answering (Data words) (layouts.crc_start xmodem)
after_frame xmodem (RegisterWrite crc address count) control = concluded layouts xmodem true control Idle
after_frame xmodem (RegisterRead crc address count) control = Answering (Registers address count) (layouts.crc_start xmodem)
after_frame xmodem SoftReset control = concluded layouts xmodem true control Idle

-- a plan that ends the frame so
pub record Ends (xmodem : Bool) (command : Command) (p : Plan) : Type 0 where
  pub answer_is : (control : Control) → concluded layouts xmodem p.status control p.phase ≡ after_frame xmodem command control
  pub of_state : is_of_state p.note ≡ true

abbrev Granting : Granted → Type 0
Granting g = is_of_state g.note ≡ true

-- notes 5, 8 and 9
guard_of_state : (blocked : Bool) (count : ℕ) (q : Queue) (w : Wish) → Granting (guard blocked count q w)
unfolding guard
guard_of_state blocked count q w =
    pick_keeps Granting _ _ _ (λ t. refl)
    (λ t. pick_keeps Granting _ _ _ (λ u. refl)
    (λ u. pick_keeps Granting _ _ _ (λ v. pick_keeps Granting _ _ _ (λ x. refl) (λ x. refl)) (λ v. refl)))

-- a frame that goes on
goes : (command : Command) (got sum mine : ℕ) (released blocked : Bool) (p : Plan) → p.phase ≡ Collecting command got sum mine released blocked
    → p.status ≡ false → is_of_state p.note ≡ true → GoesOn command got sum p
goes command got sum mine released blocked p h s n =
    record { collects = record { mine = mine; released = released; blocked = blocked; is = h }; no_status = s; of_state = n }

module _ (b : Bridge) where
  pub opened_goes : (command : Command) (sum : ℕ) → is_command command ≡ true → GoesOn command 0 sum (opened b command sum)
  unfolding opened forward_begun forwarded
  opened_goes Filler sum h = never false h refl
  opened_goes Malformed sum h = never false h refl
  opened_goes (Forward crc words ends reads) sum h = goes _ 0 sum _ _ _ _ refl refl (guard_of_state _ _ _ _)
  opened_goes (DataRead crc words) sum h = goes _ 0 sum _ _ _ _ refl refl refl
  opened_goes (RegisterWrite crc address count) sum h = goes _ 0 sum _ _ _ _ refl refl refl
  opened_goes (RegisterRead crc address count) sum h = goes _ 0 sum _ _ _ _ refl refl refl
  opened_goes SoftReset sum h = goes _ 0 sum _ _ _ _ refl refl refl

  -- note 10
  busy_of_state : (refused : Bool) → is_of_state (pick refused LineBusy Done) ≡ true
  busy_of_state refused = pick_keeps (λ (n : Note). is_of_state n ≡ true) _ _ _ (λ t. refl) (λ t. refl)

  pub data_goes : (command : Command) (at : Progress) (w : ℕ) → at.got < data_words command
      → GoesOn command (at.got + 1) at.crc (data_word b command at w)
  unfolding data_word forward_word forwarded register_word held_word
  data_goes Filler at w h = absurd (omega arith)
  data_goes Malformed at w h = absurd (omega arith)
  data_goes (Forward crc words ends reads) at w h = goes _ _ _ _ _ _ _ refl refl (guard_of_state _ _ _ _)
  data_goes (DataRead crc words) at w h = absurd (omega arith)
  data_goes (RegisterWrite crc address count) at w h =
      pick_keeps (GoesOn (RegisterWrite crc address count) (at.got + 1) at.crc) _ _ _ (λ t. goes _ _ _ _ _ _ _ refl refl refl)
      (λ t. goes _ _ _ _ _ _ _ refl refl (busy_of_state _))
  data_goes (RegisterRead crc address count) at w h = absurd (omega arith)
  data_goes SoftReset at w h = absurd (omega arith)

  -- note 11
  pub crc_ends : (command : Command) (mine : ℕ) (blocked : Bool) → is_command command ≡ true
      → Ends b.frame.xmodem command (crc_due layouts b command mine blocked true)
  unfolding crc_due forward_closed registers_closed read_closed reset_closed concluded pick
  crc_ends Filler mine blocked h = never false h refl
  crc_ends Malformed mine blocked h = never false h refl
  crc_ends (Forward crc words ends reads) mine blocked h = record { answer_is = λ k. refl; of_state = guard_of_state _ _ _ _ }
  crc_ends (DataRead crc words) mine blocked h = record { answer_is = λ k. refl; of_state = refl }
  crc_ends (RegisterWrite true address count) mine blocked h =
      record {
        answer_is = λ k. refl;
        of_state = busy_of_state (write_all (no_effects b.control) (busy b) address (take count b.frame.held)).refused;
      }
  crc_ends (RegisterWrite false address count) mine blocked h = record { answer_is = λ k. refl; of_state = refl }
  crc_ends (RegisterRead crc address count) mine blocked h = record { answer_is = λ k. refl; of_state = refl }
  crc_ends SoftReset mine blocked h =
      pick_keeps (Ends b.frame.xmodem SoftReset) (idle b.sending.sender) _ _ (λ t. record { answer_is = λ k. refl; of_state = refl })
      (λ t. record { answer_is = λ k. refl; of_state = refl })
