-- The host's plans, by what they leave to come: words are taken back only where the frame is over (01 Notes, 6 and 12), and where a place is queued
-- with words still to come, TX holds TXFFLVL + 1 words with the word of that event (01 Frames, "Release"). Assumes nothing.
use mathlib.Core.Path.{◌≡◌, refl}
use mathlib.Core.Bool.{Bool, true, false, not, ◌&&◌, ◌||◌}
use Prim.Native.Nat.{ℕ, ◌+◌, ◌≤◌, ◌<◌}
use native.Mathlib.Omega.{arith}
use borrow.Author.Tests.{eqb-true, leb-true, ne_eqb}
use Rattle.base.specs.Pick.{pick, pick_keeps, and_l, and_r}
use Rattle.base.specs.Truth.{or_end}
use Rattle.command.specs.Layouts.{Layouts}
use Rattle.command.specs.declared.Command.{Command}
use Rattle.command.specs.declared.Command.TheVariants.{Filler, Malformed, Forward, DataRead, RegisterWrite, RegisterRead, SoftReset}
use Rattle.registers.specs.declared.Control.{Control}
use Rattle.state.specs.Frame.{fwd, owed_by, to_come}
use Rattle.state.specs.Rings.{ring_after}
use Rattle.state.specs.declared.Bridge.{Bridge}
use Rattle.state.specs.declared.Deed.{Deed}
use Rattle.state.specs.declared.Deed.TheVariants.{Leave, Enqueue, TakeBack, ClearAll, ResetAll}
use Rattle.state.specs.declared.Fwd.{Fwd}
use Rattle.state.specs.declared.Phase.{Phase}
use Rattle.state.specs.declared.Phase.TheVariants.{Idle, Collecting, Answering, Discarding}
use Rattle.state.specs.declared.Progress.{Progress}
use Rattle.state.specs.declared.Reply.{Reply}
use Rattle.state.specs.declared.Reply.TheVariants.{Status, Data, Registers, Check}
use Rattle.plan.specs.Plan.{concluded}
use Rattle.plan.specs.declared.Plan.{Plan}
use Rattle.forwards.specs.Forward.{just_begun, word_counted, guard, forwarded, forward_word, forward_begun}
use Rattle.forwards.specs.declared.Granted.{Granted}
use Rattle.forwards.specs.declared.Wish.{Wish}
use Rattle.writes.specs.Writes.{with_write, held_word, register_word}
use Rattle.closing.specs.Closing.{wrong_crc, forward_closed, registers_closed, read_closed, reset_closed, crc_due}
use Rattle.release.specs.Release.{cut_deed, cut, released_in}
use Rattle.answers.specs.Answers.{answer_with, data_answered, register_answered, answered}
use Rattle.host.specs.Frames.{opened, data_word, planned_in, planned}

abbrev pub Orderly : ℕ → ℕ → Deed → Phase → Type 0
Orderly least count Leave ph = Unit {0}
Orderly least count (Enqueue p) ph = 0 < to_come ph → least ≤ count
Orderly least count (TakeBack n) ph = ph ≡ Idle
Orderly least count ClearAll ph = Unit {0}
Orderly least count ResetAll ph = Unit {0}

abbrev pub OrderlyBy : Bridge → Plan → Type 0
OrderlyBy b p = Orderly (b.control.regs.txfflvl + 1) (ring_after b.sending.tx p.store).count p.deed p.phase

-- a frame that is over has nothing to bring, for whatever deed
orderly_idle : (least count : ℕ) (d : Deed) (ph : Phase) → ph ≡ Idle → Orderly least count d ph
unfolding to_come
orderly_idle least count Leave ph e = tt
orderly_idle least count (Enqueue p) ph e = rw e (λ o. absurd (omega (arith, o)))
orderly_idle least count (TakeBack n) ph e = e
orderly_idle least count ClearAll ph e = tt
orderly_idle least count ResetAll ph e = tt

orderly_clears : (least count : ℕ) (t : Bool) (ph : Phase) → Orderly least count (pick t ClearAll Leave) ph
orderly_clears least count t ph = pick_keeps (λ (d : Deed). Orderly least count d ph) t _ _ (λ p. tt) (λ p. tt)

owes : (crc : Bool) (words ends : ℕ) (reads : Bool) (got sum mine : ℕ) (released blocked : Bool)
    → 0 < to_come (Collecting (Forward crc words ends reads) got sum mine released blocked) → got < words
unfolding to_come owed_by
owes crc words ends reads got sum mine released blocked =
    pick_keeps (λ (n : ℕ). 0 < n → got < words) _ _ _ (λ t o. omega (arith, o)) (λ t o. absurd (omega (arith, o)))

-- a release before all words have come is by the level
by_level : (a c d : Bool) → (a && (c || d)) ≡ true → d ≡ false → c ≡ true
by_level a c d h e = or_end c (rw e at (and_r a (c || d) h))

module _ (b : Bridge) where
  orderly_over : (p : Plan) → p.phase ≡ Idle → OrderlyBy b p
  orderly_over p e = orderly_idle _ _ p.deed p.phase e

  orderly_granted : (f : Fwd) (at : Progress) (blocked : Bool) (w : Wish)
      → (w.release ≡ true → at.got < f.words → b.control.regs.txfflvl + 1 ≤ (ring_after b.sending.tx w.store).count)
      → OrderlyBy b (forwarded b f at (guard blocked b.sending.tx.count b.sending.queue w))
  unfolding forwarded guard
  orderly_granted f at blocked w h =
      pick_keeps (λ (g : Granted). OrderlyBy b (forwarded b f at g)) _ _ _ (λ t. tt)
      (λ t. pick_keeps (λ (g : Granted). OrderlyBy b (forwarded b f at g)) _ _ _ (λ u. tt)
      (λ u. pick_keeps (λ (g : Granted). OrderlyBy b (forwarded b f at g)) _ _ _
      (λ r. pick_keeps (λ (g : Granted). OrderlyBy b (forwarded b f at g)) _ _ _ (λ v. tt) (λ v o. h r (owes _ _ _ _ _ _ _ _ _ o))) (λ r. tt)))

  orderly_begun : (f : Fwd) (sum : ℕ) (blocked : Bool) → OrderlyBy b (forward_begun b f sum blocked)
  unfolding forward_begun
  orderly_begun f sum blocked =
      orderly_granted f (just_begun sum blocked) blocked _
      (λ r o. let z : f.words ≡ 0 = eqb-true _ _ (search (and_l, and_r)) in absurd (omega (arith, z, o)))

  orderly_forward : (f : Fwd) (at : Progress) (w : ℕ) → OrderlyBy b (forward_word b f at w)
  unfolding forward_word ring_after
  orderly_forward f at w =
      orderly_granted f (word_counted at) at.blocked _
      (λ r o. leb-true _ _ (by_level (not f.crc && not at.released) _ _ r (ne_eqb (at.got + 1) f.words (λ e. omega (arith, e, o)))))

  orderly_opened : (command : Command) (sum : ℕ) → OrderlyBy b (opened b command sum)
  unfolding opened
  orderly_opened Filler sum = tt
  orderly_opened Malformed sum = tt
  orderly_opened (Forward crc words ends reads) sum = orderly_begun (fwd crc words ends reads) sum _
  orderly_opened (DataRead crc words) sum = tt
  orderly_opened (RegisterWrite crc address count) sum = tt
  orderly_opened (RegisterRead crc address count) sum = tt
  orderly_opened SoftReset sum = tt

  orderly_data : (command : Command) (at : Progress) (w : ℕ) → OrderlyBy b (data_word b command at w)
  unfolding data_word register_word held_word with_write
  orderly_data Filler at w = tt
  orderly_data Malformed at w = tt
  orderly_data (Forward crc words ends reads) at w = orderly_forward (fwd crc words ends reads) at w
  orderly_data (DataRead crc words) at w = tt
  orderly_data (RegisterWrite crc address count) at w = pick_keeps (OrderlyBy b) _ _ _ (λ t. tt) (λ t. orderly_clears _ _ _ _)
  orderly_data (RegisterRead crc address count) at w = tt
  orderly_data SoftReset at w = tt

  orderly_wrong : (crc : Bool) (mine : ℕ) → OrderlyBy b (wrong_crc b crc mine)
  unfolding wrong_crc
  orderly_wrong crc mine = pick_keeps (OrderlyBy b) _ _ _ (λ t. refl) (λ t. tt)

  orderly_read : (l : Layouts) (crc right : Bool) (reply : Reply) → OrderlyBy b (read_closed l b crc right reply)
  unfolding read_closed
  orderly_read l crc right reply = pick_keeps (OrderlyBy b) _ _ _ (λ t. tt) (λ t. pick_keeps (OrderlyBy b) _ _ _ (λ u. tt) (λ u. tt))

  orderly_crc : (l : Layouts) (command : Command) (mine : ℕ) (blocked right : Bool) → OrderlyBy b (crc_due l b command mine blocked right)
  unfolding crc_due forward_closed registers_closed reset_closed
  orderly_crc l Filler mine blocked right = tt
  orderly_crc l Malformed mine blocked right = tt
  orderly_crc l (Forward crc words ends reads) mine blocked right =
      pick_keeps (OrderlyBy b) right _ _ (λ t. orderly_over (forward_closed b crc words ends reads blocked) refl) (λ t. orderly_wrong crc mine)
  orderly_crc l (DataRead crc words) mine blocked right = orderly_read l crc right _
  orderly_crc l (RegisterWrite crc address count) mine blocked right =
      pick_keeps (OrderlyBy b) right _ _ (λ t. pick_keeps (OrderlyBy b) crc _ _ (λ u. orderly_clears _ _ _ _) (λ u. tt))
      (λ t. orderly_wrong crc mine)
  orderly_crc l (RegisterRead crc address count) mine blocked right = orderly_read l crc right _
  orderly_crc l SoftReset mine blocked right =
      pick_keeps (OrderlyBy b) right _ _ (λ t. pick_keeps (OrderlyBy b) _ _ _ (λ u. tt) (λ u. tt)) (λ t. orderly_wrong true mine)

  orderly_answered : (l : Layouts) (reply : Reply) (sum x : ℕ) → OrderlyBy b (answered l b reply sum x)
  unfolding answered answer_with data_answered register_answered
  orderly_answered l (Status w) sum x = tt
  orderly_answered l (Data left) sum x = pick_keeps (OrderlyBy b) _ _ _ (λ t. tt) (λ t. tt)
  orderly_answered l (Registers address left) sum x = tt
  orderly_answered l Check sum x = tt

  orderly_planned : (l : Layouts) (ph : Phase) (w x : ℕ) → OrderlyBy b (planned_in l b ph w x)
  unfolding planned_in
  orderly_planned l Idle w x = orderly_opened (l.decode b.control.regs.layout w) _
  orderly_planned l (Collecting command got sum mine released blocked) w x =
      pick_keeps (OrderlyBy b) _ _ _ (λ t. orderly_data command _ w) (λ t. orderly_crc l command mine blocked _)
  orderly_planned l (Answering reply sum) w x = orderly_answered l reply sum x
  orderly_planned l Discarding w x = tt

  pub orderly_word : (l : Layouts) (w x : ℕ) → OrderlyBy b (planned l b w x)
  unfolding planned
  orderly_word l w x = orderly_planned l b.frame.phase w x

  pub orderly_release : (ph : Phase) → OrderlyBy b (released_in b ph)
  unfolding released_in cut
  orderly_release Idle = tt
  orderly_release (Collecting command got sum mine released blocked) = orderly_idle _ _ (cut_deed command got mine released) Idle refl
  orderly_release (Answering reply sum) = tt
  orderly_release Discarding = tt

-- a frame whose end is answered has nothing to bring
pub concluded_to_come : (l : Layouts) (xmodem status : Bool) (c : Control) (ph : Phase) → to_come (concluded l xmodem status c ph) ≤ to_come ph
unfolding concluded to_come
concluded_to_come l xmodem status c ph =
    pick_keeps (λ (q : Phase). to_come q ≤ to_come ph) _ _ _
    (λ t. pick_keeps (λ (q : Phase). to_come q ≤ to_come ph) _ _ _ (λ u. omega arith) (λ u. omega arith))
    (λ t. omega arith)

pub idle_to_come : (ph : Phase) → ph ≡ Idle → to_come ph ≡ 0
unfolding to_come
idle_to_come ph e = rw e
