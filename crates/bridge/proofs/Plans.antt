-- The host's plans, by what they tell the outside: no plan is a refusal or a starved tick's, and without note 8 or 9 none raises a blocking
-- flag (01 Notes: both are transmit clears). Assumes nothing.
use mathlib.Core.Path.{◌≡◌, refl}
use mathlib.Core.Bool.{Bool, true, false, not, ◌||◌}
use mathlib.Core.List.{List, [], ◌∷◌}
use Prim.Native.Nat.{ℕ, zero, suc, ◌+◌}
use lib.Dec.{eqb}
use Rattle.base.specs.Pick.{pick, pick_keeps}
use Rattle.command.specs.Layouts.{Layouts}
use Rattle.command.specs.declared.Command.{Command}
use Rattle.command.specs.declared.Command.TheVariants.{Filler, Malformed, Forward, DataRead, RegisterWrite, RegisterRead, SoftReset}
use Rattle.registers.specs.Raising.{raised}
use Rattle.registers.specs.Registers.{blocking, cleared}
use Rattle.registers.specs.Writing.{write_ccsictrl, write_txfflvl, write_rxfflvl, write_status, write_masked, write_of}
use Rattle.registers.specs.declared.Control.{Control}
use Rattle.registers.specs.declared.Written.{Written}
use Rattle.state.specs.Notes.{note_number}
use Rattle.state.specs.declared.Bridge.{Bridge}
use Rattle.state.specs.declared.Deed.{Deed}
use Rattle.state.specs.declared.Deed.TheVariants.{Leave, ClearAll}
use Rattle.state.specs.declared.Note.{Note}
use Rattle.state.specs.declared.Note.TheVariants.{Done, LineBusy}
use Rattle.state.specs.declared.Phase.{Phase}
use Rattle.state.specs.declared.Phase.TheVariants.{Idle, Collecting, Answering, Discarding}
use Rattle.state.specs.declared.Reply.{Reply}
use Rattle.state.specs.declared.Reply.TheVariants.{Status, Data, Registers, Check}
use Rattle.forwards.specs.Forward.{guard, faulted, clears, forwarded, forward_word, forward_begun}
use Rattle.host.specs.Frames.{opened, data_word, planned_in, planned}
use Rattle.release.specs.Release.{released_in}
use Rattle.writes.specs.Writes.{with_write, write_all, no_effects, held_word, register_word}
use Rattle.closing.specs.Closing.{wrong_crc, forward_closed, registers_closed, read_closed, reset_closed, crc_due}
use Rattle.release.specs.Release.{cut}
use Rattle.answers.specs.Answers.{answer_with, data_answered, register_answered, answered}
use Rattle.writes.specs.declared.Effects.{Effects}
use Rattle.forwards.specs.declared.Granted.{Granted}
use Rattle.state.specs.declared.Progress.{Progress}
use Rattle.state.specs.declared.Queue.{Queue}
use Rattle.plan.specs.declared.Plan.{Plan}
use Rattle.forwards.specs.declared.Wish.{Wish}
use Rattle.bridge.specs.Runs.{refuses, faults}

-- a note that is neither a refusal's nor that of a starved tick
unfoldable pub of_host : Note → Bool
of_host n = not (refuses n || eqb (note_number n) 13)

pub record Tame (b : Bridge) (c : Control) (d : Deed) (n : Note) : Type 0 where
  pub note : of_host n ≡ true
  pub loud : faults n ≡ true → clears d ≡ true
  pub calm : blocking b.control.flags ≡ false → faults n ≡ false → blocking c.flags ≡ false

abbrev pub TameBy : Bridge → Plan → Type 0
TameBy b p = Tame b p.control p.deed p.note

-- Writes raise REG_WRITE at most.
abbrev Calm : Control → Written → Type 0
Calm c w = blocking c.flags ≡ false → blocking w.control.flags ≡ false

write_calm : (c : Control) (busy : Bool) (a v : ℕ) → Calm c (write_of c busy a v)
unfolding write_of write_masked write_ccsictrl write_txfflvl write_rxfflvl write_status blocking raised cleared
write_calm c busy zero v h = h
write_calm c busy (suc zero) v h = h
write_calm c busy (suc (suc zero)) v h = pick_keeps (Calm c) busy _ _ (λ t k. k) (λ t k. k) h
write_calm c busy (suc (suc (suc zero))) v h = h
write_calm c busy (suc (suc (suc (suc zero)))) v h = h
write_calm c busy (suc (suc (suc (suc (suc zero))))) v h = h
write_calm c busy (suc (suc (suc (suc (suc (suc zero)))))) v h = h
write_calm c busy (suc (suc (suc (suc (suc (suc (suc zero))))))) v h = pick_keeps (Calm c) _ _ _ (λ t k. refl) (λ t k. k) h
write_calm c busy (suc (suc (suc (suc (suc (suc (suc (suc a)))))))) v h = h

writes_calm : (e : Effects) (busy : Bool) (address : ℕ) (vs : List ℕ) → blocking e.control.flags ≡ false
    → blocking (write_all e busy address vs).control.flags ≡ false
unfolding write_all with_write
writes_calm e busy address [] h = h
writes_calm e busy address (v ∷ vs) h = writes_calm (with_write e (write_of e.control busy address v)) busy (address + 1) vs (write_calm e.control busy address v h)

module _ (b : Bridge) where
  -- what leaves the control alone, with a note of the host's
  still : (d : Deed) (n : Note) → of_host n ≡ true → faults n ≡ false → Tame b b.control d n
  still d n o q = record { note = o; loud = λ h. cc; calm = λ h k. h }

  -- notes 5, 8 and 9
  tame_guard : (blocked : Bool) (count : ℕ) (q : Queue) (w : Wish)
      → Tame b (faulted b.control (guard blocked count q w).note) (guard blocked count q w).deed (guard blocked count q w).note
  unfolding guard faulted of_host refuses faults clears
  tame_guard blocked count q w =
      pick_keeps (λ (g : Granted). Tame b (faulted b.control g.note) g.deed g.note) _ _ _ (λ t. still _ _ refl refl)
      (λ t. pick_keeps (λ (g : Granted). Tame b (faulted b.control g.note) g.deed g.note) _ _ _
      (λ u. record { note = refl; loud = λ h. refl; calm = λ h k. cc })
      (λ u. pick_keeps (λ (g : Granted). Tame b (faulted b.control g.note) g.deed g.note) _ _ _
      (λ v. pick_keeps (λ (g : Granted). Tame b (faulted b.control g.note) g.deed g.note) _ _ _
      (λ x. record { note = refl; loud = λ h. refl; calm = λ h k. cc }) (λ x. still _ _ refl refl)) (λ v. still _ _ refl refl)))

  tame_opened : (command : Command) (sum : ℕ) → TameBy b (opened b command sum)
  unfolding opened forward_begun forwarded of_host refuses faults
  tame_opened Filler sum = still _ _ refl refl
  tame_opened Malformed sum = still _ _ refl refl
  tame_opened (Forward crc words ends reads) sum = tame_guard _ _ _ _
  tame_opened (DataRead crc words) sum = still _ _ refl refl
  tame_opened (RegisterWrite crc address count) sum = still _ _ refl refl
  tame_opened (RegisterRead crc address count) sum = still _ _ refl refl
  tame_opened SoftReset sum = still _ _ refl refl

  -- note 10
  tame_writes : (c : Control) (clears-tx refused : Bool) → (blocking b.control.flags ≡ false → blocking c.flags ≡ false)
      → Tame b c (pick clears-tx ClearAll Leave) (pick refused LineBusy Done)
  unfolding of_host refuses faults
  tame_writes c clears-tx refused f =
      let q : faults (pick refused LineBusy Done) ≡ false = pick_keeps (λ (n : Note). faults n ≡ false) _ _ _ (λ t. refl) (λ t. refl) in
      record { note = pick_keeps (λ (n : Note). of_host n ≡ true) _ _ _ (λ t. refl) (λ t. refl); loud = λ h. cc; calm = λ h k. f h }

  tame_data : (command : Command) (at : Progress) (w : ℕ) → TameBy b (data_word b command at w)
  unfolding data_word forward_word forwarded register_word held_word with_write of_host refuses faults
  tame_data Filler at w = still _ _ refl refl
  tame_data Malformed at w = still _ _ refl refl
  tame_data (Forward crc words ends reads) at w = tame_guard _ _ _ _
  tame_data (DataRead crc words) at w = still _ _ refl refl
  tame_data (RegisterWrite crc address count) at w =
      pick_keeps (TameBy b) _ _ _ (λ t. still _ _ refl refl) (λ t. tame_writes _ _ _ (write_calm b.control _ (address + at.got) w))
  tame_data (RegisterRead crc address count) at w = still _ _ refl refl
  tame_data SoftReset at w = still _ _ refl refl

  -- notes 6 and 7
  tame_wrong : (crc : Bool) (mine : ℕ) → TameBy b (wrong_crc b crc mine)
  unfolding wrong_crc of_host refuses faults blocking raised
  tame_wrong crc mine =
      pick_keeps (TameBy b) _ _ _ (λ t. record { note = refl; loud = λ h. cc; calm = λ h k. h }) (λ t. record { note = refl; loud = λ h. cc; calm = λ h k. h })

  tame_read : (l : Layouts) (crc right : Bool) (reply : Reply) → TameBy b (read_closed l b crc right reply)
  unfolding read_closed of_host refuses faults blocking raised
  tame_read l crc right reply =
      pick_keeps (TameBy b) _ _ _ (λ t. still _ _ refl refl)
      (λ t. pick_keeps (TameBy b) _ _ _ (λ u. record { note = refl; loud = λ h. cc; calm = λ h k. h }) (λ u. record { note = refl; loud = λ h. cc; calm = λ h k. h }))

  tame_crc : (l : Layouts) (command : Command) (mine : ℕ) (blocked right : Bool) → TameBy b (crc_due l b command mine blocked right)
  unfolding crc_due forward_closed registers_closed reset_closed of_host refuses faults blocking raised
  tame_crc l Filler mine blocked right = still _ _ refl refl
  tame_crc l Malformed mine blocked right = still _ _ refl refl
  tame_crc l (Forward crc words ends reads) mine blocked right =
      pick_keeps (TameBy b) right _ _ (λ t. tame_guard _ _ _ _) (λ t. tame_wrong crc mine)
  tame_crc l (DataRead crc words) mine blocked right = tame_read l crc right _
  tame_crc l (RegisterWrite crc address count) mine blocked right =
      pick_keeps (TameBy b) right _ _
      (λ t. pick_keeps (TameBy b) crc _ _ (λ u. tame_writes _ _ _ (writes_calm (no_effects b.control) _ address _)) (λ u. still _ _ refl refl))
      (λ t. tame_wrong crc mine)
  tame_crc l (RegisterRead crc address count) mine blocked right = tame_read l crc right _
  tame_crc l SoftReset mine blocked right =
      pick_keeps (TameBy b) right _ _
      (λ t. pick_keeps (TameBy b) _ _ _ (λ u. still _ _ refl refl) (λ u. record { note = refl; loud = λ h. cc; calm = λ h k. h })) (λ t. tame_wrong true mine)

  -- note 15
  tame_answered : (l : Layouts) (reply : Reply) (sum x : ℕ) → TameBy b (answered l b reply sum x)
  unfolding answered answer_with data_answered register_answered of_host refuses faults blocking raised
  tame_answered l (Status w) sum x = still _ _ refl refl
  tame_answered l (Data left) sum x = pick_keeps (TameBy b) _ _ _ (λ t. record { note = refl; loud = λ h. cc; calm = λ h k. h }) (λ t. still _ _ refl refl)
  tame_answered l (Registers address left) sum x = still _ _ refl refl
  tame_answered l Check sum x = still _ _ refl refl

  tame_planned : (l : Layouts) (ph : Phase) (w x : ℕ) → TameBy b (planned_in l b ph w x)
  unfolding planned_in of_host refuses faults
  tame_planned l Idle w x = tame_opened (l.decode b.control.regs.layout w) _
  tame_planned l (Collecting command got sum mine released blocked) w x =
      pick_keeps (TameBy b) _ _ _ (λ t. tame_data command _ w) (λ t. tame_crc l command mine blocked _)
  tame_planned l (Answering reply sum) w x = tame_answered l reply sum x
  tame_planned l Discarding w x = still _ _ refl refl

  pub tame_word : (l : Layouts) (w x : ℕ) → TameBy b (planned l b w x)
  unfolding planned
  tame_word l w x = tame_planned l b.frame.phase w x

  -- note 12
  pub tame_release : (ph : Phase) → TameBy b (released_in b ph)
  unfolding released_in cut of_host refuses faults blocking raised
  tame_release Idle = still _ _ refl refl
  tame_release (Collecting command got sum mine released blocked) = record { note = refl; loud = λ h. cc; calm = λ h k. h }
  tame_release (Answering reply sum) = still _ _ refl refl
  tame_release Discarding = still _ _ refl refl
