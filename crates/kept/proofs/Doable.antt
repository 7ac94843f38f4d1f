-- What a host word and a release of chip select ask of the sending side can be done there, as `done` of `state` wants it: a command is queued
-- at a free place only, and a frame takes back no more than its own words (01 Frames; notes 6, 9 and 12). Assumes nothing.
use Rattle.std.specs.Prelude.{Option, None}
use mathlib.Core.Bool.{Bool, true}
use Prim.Native.Nat.{ℕ, ◌≤◌}
use Rattle.base.specs.Pick.{pick, pick_keeps}
use Rattle.command.specs.Layouts.{Layouts}
use Rattle.command.specs.declared.Command.{Command}
use Rattle.command.specs.declared.Command.TheVariants.{Filler, Malformed, Forward, DataRead, RegisterWrite, RegisterRead, SoftReset}
use Rattle.forwards.specs.Forward.{guard, forwarded, forward_word, forward_begun}
use Rattle.host.specs.Frames.{opened, data_word, planned_in, planned}
use Rattle.release.specs.Release.{released_in}
use Rattle.writes.specs.Writes.{held_word, register_word}
use Rattle.closing.specs.Closing.{wrong_crc, forward_closed, registers_closed, read_closed, reset_closed, crc_due}
use Rattle.release.specs.Release.{cut_deed, cut}
use Rattle.answers.specs.Answers.{answer_with, data_answered, register_answered, answered}
use Rattle.forwards.specs.declared.Granted.{Granted}
use Rattle.state.specs.declared.Progress.{Progress}
use Rattle.plan.specs.declared.Plan.{Plan}
use Rattle.forwards.specs.declared.Wish.{Wish}
use Rattle.state.specs.Facts.{HostFit, Doable}
use Rattle.state.specs.Frame.{mine_of}
use Rattle.state.specs.Rings.{ring_after}
use Rattle.state.specs.Sending.{stored}
use Rattle.state.specs.declared.Bridge.{Bridge}
use Rattle.state.specs.declared.Deed.TheVariants.{Leave, ClearAll}
use Rattle.state.specs.declared.Phase.{Phase}
use Rattle.state.specs.declared.Phase.TheVariants.{Idle, Collecting, Answering, Discarding}
use Rattle.state.specs.declared.Reply.{Reply}
use Rattle.state.specs.declared.Reply.TheVariants.{Status, Data, Registers, Check}
use Rattle.state.specs.declared.Sending.{Sending}
use Rattle.queue.proofs.Laws.{has_places}

abbrev Grants : Sending → Option ℕ → Granted → Type 0
Grants s st g = Doable (stored s st) g.deed

abbrev Plans : Sending → Plan → Type 0
Plans s p = Doable (stored s p.store) p.deed

guard_doable : (s : Sending) (st : Option ℕ) (blocked : Bool) (w : Wish) → Grants s st (guard blocked s.tx.count s.queue w)
unfolding guard stored
guard_doable s st blocked w =
    pick_keeps (Grants s st) _ _ _ (λ h. tt)
    (λ h. pick_keeps (Grants s st) _ _ _ (λ f. tt)
    (λ f. pick_keeps (Grants s st) _ _ _ (λ r. pick_keeps (Grants s st) _ _ _ (λ u. tt) (λ u. has_places s.queue w.place u)) (λ r. tt)))

clears_doable : (s : Sending) (t : Bool) → Doable s (pick t ClearAll Leave)
clears_doable s t = pick_keeps (Doable s) t _ _ (λ h. tt) (λ h. tt)

module _ (b : Bridge) where
  opened_doable : (c : Command) (sum : ℕ) → Plans b.sending (opened b c sum)
  unfolding opened forward_begun forwarded
  opened_doable Filler sum = tt
  opened_doable Malformed sum = tt
  opened_doable (Forward crc words ends reads) sum = guard_doable b.sending _ _ _
  opened_doable (DataRead crc words) sum = tt
  opened_doable (RegisterWrite crc address count) sum = tt
  opened_doable (RegisterRead crc address count) sum = tt
  opened_doable SoftReset sum = tt

  data_word_doable : (c : Command) (at : Progress) (w : ℕ) → Plans b.sending (data_word b c at w)
  unfolding data_word forward_word forwarded register_word held_word
  data_word_doable Filler at w = tt
  data_word_doable Malformed at w = tt
  data_word_doable (Forward crc words ends reads) at w = guard_doable b.sending _ _ _
  data_word_doable (DataRead crc words) at w = tt
  data_word_doable (RegisterWrite crc address count) at w =
      pick_keeps (Plans b.sending) _ _ _ (λ h. tt) (λ h. clears_doable (stored b.sending None) _)
  data_word_doable (RegisterRead crc address count) at w = tt
  data_word_doable SoftReset at w = tt

  wrong_doable : (crc : Bool) (mine : ℕ) → mine ≤ b.sending.tx.count → Plans b.sending (wrong_crc b crc mine)
  unfolding wrong_crc stored ring_after
  wrong_doable crc mine h = pick_keeps (Plans b.sending) crc _ _ (λ c. h) (λ c. tt)

  forward_closed_doable : (crc : Bool) (words ends : ℕ) (reads blocked : Bool) → Plans b.sending (forward_closed b crc words ends reads blocked)
  unfolding forward_closed
  forward_closed_doable crc words ends reads blocked = guard_doable b.sending _ _ _

  read_closed_doable : (l : Layouts) (crc right : Bool) (reply : Reply) → Plans b.sending (read_closed l b crc right reply)
  unfolding read_closed
  read_closed_doable l crc right reply =
      pick_keeps (Plans b.sending) right _ _ (λ h. tt) (λ h. pick_keeps (Plans b.sending) crc _ _ (λ c. tt) (λ c. tt))

  registers_closed_doable : (crc : Bool) (address count : ℕ) → Plans b.sending (registers_closed b crc address count)
  unfolding registers_closed
  registers_closed_doable crc address count = pick_keeps (Plans b.sending) crc _ _ (λ h. clears_doable (stored b.sending None) _) (λ h. tt)

  reset_closed_doable : Plans b.sending (reset_closed b)
  unfolding reset_closed
  reset_closed_doable = pick_keeps (Plans b.sending) _ _ _ (λ h. tt) (λ h. tt)

  crc_due_doable : (l : Layouts) (c : Command) (mine : ℕ) (blocked right : Bool) → mine ≤ b.sending.tx.count
      → Plans b.sending (crc_due l b c mine blocked right)
  unfolding crc_due
  crc_due_doable l Filler mine blocked right h = tt
  crc_due_doable l Malformed mine blocked right h = tt
  crc_due_doable l (Forward crc words ends reads) mine blocked right h =
      pick_keeps (Plans b.sending) right _ _ (λ k. forward_closed_doable crc words ends reads blocked) (λ k. wrong_doable crc mine h)
  crc_due_doable l (DataRead crc words) mine blocked right h = read_closed_doable l crc right (Data words)
  crc_due_doable l (RegisterWrite crc address count) mine blocked right h =
      pick_keeps (Plans b.sending) right _ _ (λ k. registers_closed_doable crc address count) (λ k. wrong_doable crc mine h)
  crc_due_doable l (RegisterRead crc address count) mine blocked right h = read_closed_doable l crc right (Registers address count)
  crc_due_doable l SoftReset mine blocked right h =
      pick_keeps (Plans b.sending) right _ _ (λ k. reset_closed_doable) (λ k. wrong_doable true mine h)

  answered_doable : (l : Layouts) (reply : Reply) (sum x : ℕ) → Plans b.sending (answered l b reply sum x)
  unfolding answered data_answered register_answered answer_with
  answered_doable l (Status s) sum x = tt
  answered_doable l (Data left) sum x = pick_keeps (Plans b.sending) _ _ _ (λ h. tt) (λ h. tt)
  answered_doable l (Registers address left) sum x = tt
  answered_doable l Check sum x = tt

  planned_in_doable : (l : Layouts) (p : Phase) (w x : ℕ) → mine_of p ≤ b.sending.tx.count → Plans b.sending (planned_in l b p w x)
  unfolding planned_in mine_of
  planned_in_doable l Idle w x h = opened_doable _ _
  planned_in_doable l (Collecting command got sum mine released blocked) w x h =
      pick_keeps (Plans b.sending) _ _ _ (λ k. data_word_doable command _ _) (λ k. crc_due_doable l command _ _ _ h)
  planned_in_doable l (Answering reply sum) w x h = answered_doable l reply sum x
  planned_in_doable l Discarding w x h = tt

  cut_doable : (c : Command) (got mine : ℕ) (released : Bool) → mine ≤ b.sending.tx.count → Plans b.sending (cut b (cut_deed c got mine released))
  unfolding cut cut_deed stored ring_after
  cut_doable c got mine released h =
      pick_keeps (Doable b.sending) released _ _ (λ r. pick_keeps (Doable b.sending) _ _ _ (λ k. tt) (λ k. tt)) (λ r. h)

  released_in_doable : (p : Phase) → mine_of p ≤ b.sending.tx.count → Plans b.sending (released_in b p)
  unfolding released_in mine_of
  released_in_doable Idle h = tt
  released_in_doable (Collecting command got sum mine released blocked) h = cut_doable command got mine released h
  released_in_doable (Answering reply sum) h = tt
  released_in_doable Discarding h = tt

pub doable_planned : (l : Layouts) (b : Bridge) → HostFit b → (w x : ℕ)
    → Doable (stored b.sending (planned l b w x).store) (planned l b w x).deed
unfolding planned
doable_planned l b f w x = planned_in_doable b l b.frame.phase w x f.mine

pub doable_released : (b : Bridge) → HostFit b
    → Doable (stored b.sending (released_in b b.frame.phase).store) (released_in b b.frame.phase).deed
doable_released b f = released_in_doable b b.frame.phase f.mine
