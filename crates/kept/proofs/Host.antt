-- A host word and a release of chip select keep the record rules (01 Notes, note 2: "every step keeps them"). Assumes nothing.
use Rattle.std.specs.Prelude.{None}
use mathlib.Core.Path.{◌≡◌, refl}
use mathlib.Core.Bool.{Bool, true, false, not, ◌&&◌, ◌||◌}
use mathlib.Core.List.{List, [], ◌∷◌}
use Prim.Native.Nat.{ℕ, zero, suc, ◌+◌, ◌-◌, ◌≤◌, ◌<◌}
use native.Mathlib.Omega.{arith}
use lib.Dec.{ltb, leb, eqb}
use borrow.Author.Tests.{ltb-true, ltb-false, leb-true, leb-false, eqb-true, eqb-false, not-true, not-false, lt-ltb, le-ltb, le-leb}
use Rattle.base.specs.Pick.{pick, pick_keeps, and_l, and_r, and_both}
use Rattle.command.specs.Layouts.{Layouts}
use Rattle.command.specs.declared.Command.{Command}
use Rattle.command.specs.declared.Command.TheVariants.{Filler, Malformed, Forward, DataRead, RegisterWrite, RegisterRead, SoftReset}
use Rattle.forwards.specs.Forward.{faulted, forwarded, forward_word, forward_begun}
use Rattle.state.specs.declared.Progress.{Progress}
use Rattle.host.specs.Frames.{collects, opened, data_word, planned_in, planned}
use Rattle.release.specs.Release.{released_in}
use Rattle.writes.specs.Writes.{effected, with_write, write_all, no_effects, held_word, register_word}
use Rattle.closing.specs.Closing.{wrong_crc, forward_closed, registers_closed, read_closed, reset_closed, crc_due}
use Rattle.release.specs.Release.{cut_deed, cut}
use Rattle.answers.specs.Answers.{answer_with, data_answered, register_answered, answered}
use Rattle.plan.specs.Plan.{performed}
use Rattle.writes.specs.declared.Effects.{Effects}
use Rattle.host.proofs.Sound.{summed_sound}
use Rattle.registers.proofs.Laws.{write_sound}
use Rattle.registers.specs.Registers.{regs_sound, blocking}
use Rattle.registers.specs.Writing.{write_of}
use Rattle.registers.specs.declared.Control.{Control}
use Rattle.state.specs.Frame.{fwd, progress, data_words, mine_of, owed_by, to_come, collect_sound, reply_sound, phase_sound}
use Rattle.state.specs.Rings.{ring_after}
use Rattle.state.specs.Sending.{idle, stored, done}
use Rattle.state.specs.declared.Bridge.{Bridge}
use Rattle.state.specs.declared.Clock.{Clock}
use Rattle.state.specs.declared.Deed.{Deed}
use Rattle.state.specs.declared.Deed.TheVariants.{Leave, TakeBack, ClearAll, ResetAll}
use Rattle.state.specs.declared.Note.{Note}
use Rattle.state.specs.declared.Note.TheVariants.{Done, WrongStores, BrokenRecord, MalformedWord, Discarded, Blocked, CrcRefused, CrcWrong, TxFull, QueueFull, LineBusy, ResetRefused, CutShort, TxEmpty, RxFull, RxEmpty}
use Rattle.state.specs.declared.Phase.{Phase}
use Rattle.state.specs.declared.Phase.TheVariants.{Idle, Collecting, Answering, Discarding}
use Rattle.state.specs.declared.Reply.{Reply}
use Rattle.state.specs.declared.Reply.TheVariants.{Status, Data, Registers, Check}
use Rattle.state.specs.declared.Sending.{Sending}
use Rattle.kept.proofs.Deeds.{rules_none, rules_taken_back, rules_cleared, rules_reset}
use Rattle.kept.proofs.Fits.{command_fits, LayoutFit}
use Rattle.kept.proofs.Forward.{Leaves, ForwardFit, forward_facts, word_goes, begun_goes, closed_goes}
use Rattle.kept.proofs.Control.{planned_rises, released_rises}
use Rattle.base.specs.Truth.{never}
use Rattle.kept.proofs.Perform.{PlanRules, performed_keeps}
use Rattle.kept.specs.Rules.{SendRules, BridgeRules}
use Rattle.kept.proofs.Owed.{unreleased_owes_none}

-- 1. What the tests of a frame say.

-- a word that does not release leaves data words to come, unless the CRC word is to release
unreleasing : (crc released full : Bool) (n m : ℕ) → n ≤ m → (not crc && not released && (full || eqb n m)) ≡ false → released ≡ false
    → (crc || ltb n m) ≡ true
unreleasing true released full n m h e k = refl
unreleasing false true full n m h e k = cc
unreleasing false false true n m h e k = cc
unreleasing false false false n m h e k = let d : n ≡ m → ⊥ = eqb-false n m e in lt-ltb n m (omega arith)

-- a CRC word queues what has something to send
has_some : (words ends : ℕ) → not (eqb words 0 && eqb ends 0) ≡ true → 0 < words + ends
has_some zero zero e = never false e refl
has_some zero (suc ends) e = omega arith
has_some (suc words) ends e = omega arith

-- one that has come whole has nothing to bring
whole_owes_none : (c : Command) (got : ℕ) (released blocked : Bool) → data_words c ≤ got → owed_by c got released blocked ≡ 0
unfolding owed_by
whole_owes_none c got released blocked h = pick_keeps (λ (n : ℕ). n ≡ 0) _ _ _ (λ k. omega arith) (λ k. refl)

module _ (crc : Bool) (words ends : ℕ) (reads : Bool) (got sum mine : ℕ) (released blocked : Bool)
    (f : ForwardFit (fwd crc words ends reads) (progress got sum mine released blocked)) where
  blocked_has_none : blocked ≡ true → mine ≡ 0
  unfolding pick
  blocked_has_none e = go released blocked f.own e
    where
      go : (r k : Bool) → mine ≡ pick (r || k) 0 got → k ≡ true → mine ≡ 0
      go true k o h = o
      go false true o h = o
      go false false o h = cc

  released_has_none : released ≡ true → mine ≡ 0
  unfolding pick
  released_has_none e = go released blocked f.own e
    where
      go : (r k : Bool) → mine ≡ pick (r || k) 0 got → r ≡ true → mine ≡ 0
      go true k o h = o
      go false k o h = cc

  -- its own words are none where its CRC word does not release it
  unqueued_has_none : words ≤ got → (crc && not (eqb words 0 && eqb ends 0)) ≡ false → mine ≡ 0
  unfolding pick
  unqueued_has_none h e = go crc released blocked f.own f.timely e
    where
      empty : eqb words 0 ≡ true → mine ≡ got → mine ≡ 0
      empty z o = let n : words ≡ 0 = eqb-true _ _ z in omega (arith, f.come)

      go : (c r k : Bool) → mine ≡ pick (r || k) 0 got → (c || r || k || ltb got words || (eqb words 0 && eqb ends 0)) ≡ true
          → (c && not (eqb words 0 && eqb ends 0)) ≡ false → mine ≡ 0
      go c true k o t q = o
      go c false true o t q = o
      go true false false o t q = empty (and_l _ _ (not-false _ q)) o
      go false false false o t q = empty (and_l _ (eqb ends 0) (rw (le-ltb got words h) at t)) o

  -- one that its CRC word releases has all of them
  queued_has_all : words ≤ got → crc ≡ true → blocked ≡ false → mine ≡ words
  unfolding pick
  queued_has_all h e k = go released blocked f.own (rw e at f.unchecked) k
    where
      go : (r k : Bool) → mine ≡ pick (r || k) 0 got → not (r && true) ≡ true → k ≡ false → mine ≡ words
      go true k o u z = cc
      go false true o u z = cc
      go false false o u z = omega (arith, f.come)

-- whatever is released has no words of its own
released_own : (c : Command) (got sum mine : ℕ) (released blocked : Bool) → collect_sound c (progress got sum mine released blocked) ≡ true
    → released ≡ true → mine ≡ 0
unfolding collect_sound
released_own Filler got sum mine released blocked s e = cc
released_own Malformed got sum mine released blocked s e = cc
released_own (Forward crc words ends reads) got sum mine released blocked s e =
    released_has_none crc words ends reads got sum mine released blocked (forward_facts _ _ s) e
released_own (DataRead crc words) got sum mine released blocked s e = eqb-true mine 0 (search (and_l, and_r))
released_own (RegisterWrite crc address count) got sum mine released blocked s e = eqb-true mine 0 (search (and_l, and_r))
released_own (RegisterRead crc address count) got sum mine released blocked s e = eqb-true mine 0 (search (and_l, and_r))
released_own SoftReset got sum mine released blocked s e = eqb-true mine 0 (search (and_l, and_r))

-- one that its command word does not release is named _CRC, has words to come, or has nothing to send
unreleased_waits : (crc : Bool) (words ends : ℕ) → (not crc && eqb words 0 && ltb 0 ends) ≡ false
    → (crc || false || false || ltb 0 words || (eqb words 0 && eqb ends 0)) ≡ true
unreleased_waits true words ends h = refl
unreleased_waits false (suc words) ends h = rw (lt-ltb 0 (suc words) (omega arith))
unreleased_waits false zero zero h = refl
unreleased_waits false zero (suc ends) h = let x : ltb 0 (suc ends) ≡ true = lt-ltb 0 (suc ends) (omega arith) in cc

-- 2. Registers and flags.

faulted_regs : (c : Control) (n : Note) → (faulted c n).regs ≡ c.regs
unfolding faulted
faulted_regs c Done = refl
faulted_regs c WrongStores = refl
faulted_regs c BrokenRecord = refl
faulted_regs c MalformedWord = refl
faulted_regs c Discarded = refl
faulted_regs c Blocked = refl
faulted_regs c CrcRefused = refl
faulted_regs c CrcWrong = refl
faulted_regs c TxFull = refl
faulted_regs c QueueFull = refl
faulted_regs c LineBusy = refl
faulted_regs c ResetRefused = refl
faulted_regs c CutShort = refl
faulted_regs c TxEmpty = refl
faulted_regs c RxFull = refl
faulted_regs c RxEmpty = refl

write_all_sound : (e : Effects) (busy : Bool) (address : ℕ) (vs : List ℕ) → regs_sound e.control.regs ≡ true
    → regs_sound (write_all e busy address vs).control.regs ≡ true
unfolding write_all with_write
write_all_sound e busy address [] s = s
write_all_sound e busy address (v ∷ vs) s = write_all_sound (with_write e (write_of e.control busy address v)) busy (address + 1) vs (write_sound e.control busy address v s)

-- 3. What a frame leaves of the sending side.

-- a frame that has nothing to bring and nothing in TX
record Bare (p : Phase) : Type 0 where
  owes : to_come p ≡ 0
  owns : mine_of p ≡ 0
  fits : phase_sound p ≡ true

stays : (s : Sending) (p : Phase) → SendRules s 0 0 → Bare p → Leaves s None Leave p
unfolding stored done ring_after
stays s p r n = record { sending = rw (n.owes, n.owns) r; phase = n.fits; asks = tt }

cleared : (s : Sending) (p : Phase) (c m : ℕ) → SendRules s c m → Bare p → Leaves s None ClearAll p
cleared s p c m r n = record { sending = rw (n.owes, n.owns) (rules_cleared s None c m r); phase = n.fits; asks = tt }

taken_back : (s : Sending) (m : ℕ) → SendRules s 0 m → Leaves s None (TakeBack m) Idle
unfolding stored ring_after to_come mine_of phase_sound
taken_back s m r = record { sending = rules_taken_back s m r; phase = refl; asks = tt }

bare_idle : Bare Idle
unfolding to_come mine_of phase_sound
bare_idle = record { owes = refl; owns = refl; fits = refl }

bare_answer : (reply : Reply) (sum : ℕ) → reply_sound reply ≡ true → Bare (Answering reply sum)
unfolding to_come mine_of phase_sound
bare_answer reply sum h = record { owes = refl; owns = refl; fits = h }

bare_discarding : Bare Discarding
unfolding to_come mine_of phase_sound
bare_discarding = record { owes = refl; owns = refl; fits = refl }

-- 4. The rules of a host word.
module _ (b : Bridge) (g : regs_sound b.control.regs ≡ true) where
  effected_rules : (p : Phase) (e : Effects) (status : Bool) → SendRules b.sending 0 0 → Bare p → regs_sound e.control.regs ≡ true
      → (status ≡ true → p ≡ Idle) → PlanRules b (effected b p e status)
  effected_rules p e status r n k h = record {
    leaves =
        pick_keeps (λ (d : Deed). Leaves b.sending None d p) e.clears_tx ClearAll Leave (λ t. cleared b.sending p 0 0 r n)
        (λ t. stays b.sending p r n);
    regs = k;
    ending = h;
  }

  collects_rules : (c : Command) (sum : ℕ) → collect_sound c (progress 0 sum 0 false false) ≡ true → SendRules b.sending 0 0
      → PlanRules b (collects b c sum)
  unfolding to_come mine_of owed_by pick phase_sound
  collects_rules c sum h r = record {
    leaves = stays b.sending (Collecting c 0 sum 0 false false) r (record { owes = refl; owns = refl; fits = h });
    regs = g;
    ending = λ e. cc;
  }

  opened_rules : (c : Command) (sum : ℕ) → command_fits c ≡ true → SendRules b.sending 0 0 → PlanRules b (opened b c sum)
  unfolding opened command_fits forward_begun forwarded collect_sound
  opened_rules Filler sum h r = record { leaves = stays b.sending Idle r bare_idle; regs = g; ending = λ e. cc }
  opened_rules Malformed sum h r = record { leaves = stays b.sending Discarding r bare_discarding; regs = g; ending = λ e. cc }
  opened_rules (Forward crc words ends reads) sum h r = record {
    leaves =
        begun_goes b.sending crc words ends reads sum (blocking b.control.flags) (not crc && eqb words 0 && ltb 0 ends) r
        (leb-true _ _ (and_l _ (leb ends 127) h))
        (leb-true _ _ (and_r (leb words 4096) _ h))
        (λ t. (not-true crc (search (and_l, and_r)), eqb-true words 0 (search (and_l, and_r)), ltb-true 0 ends (search (and_l, and_r))))
        (unreleased_waits crc words ends);
    regs = rw (faulted_regs b.control) g;
    ending = λ e. cc;
  }
  opened_rules (DataRead crc words) sum h r = collects_rules (DataRead crc words) sum h r
  opened_rules (RegisterWrite crc address count) sum h r =
      collects_rules (RegisterWrite crc address count) sum (rw (le-leb 0 count (omega arith)) h) r
  opened_rules (RegisterRead crc address count) sum h r = collects_rules (RegisterRead crc address count) sum h r
  opened_rules SoftReset sum h r = collects_rules SoftReset sum refl r

  -- a data word of a register write
  register_word_rules : (crc : Bool) (address got : ℕ) (p : Phase) (w : ℕ) → SendRules b.sending 0 0 → Bare p
      → PlanRules b (register_word b crc address got p w)
  unfolding register_word held_word with_write
  register_word_rules crc address got p w r n =
      pick_keeps (PlanRules b) crc _ _ (λ h. record { leaves = stays b.sending p r n; regs = g; ending = λ e. cc })
      (λ h. effected_rules p _ false r n (write_sound b.control _ (address + got) w g) (λ e. cc))

  bare_write : (crc : Bool) (address count got sum mine : ℕ) (released blocked : Bool) → got < count
      → collect_sound (RegisterWrite crc address count) (progress got sum mine released blocked) ≡ true
      → Bare (Collecting (RegisterWrite crc address count) (got + 1) sum mine released blocked)
  unfolding to_come mine_of phase_sound collect_sound
  bare_write crc address count got sum mine released blocked h s =
      let m : eqb mine 0 ≡ true = search (and_l, and_r) in
      let n : not released ≡ true = search (and_l, and_r) in
      let z : ltb 0 count ≡ true = search (and_l, and_r) in
      let k : leb (address + count) 12 ≡ true = search (and_l, and_r) in
      record {
        owes = unreleased_owes_none _ _ _ _ (not-true released n);
        owns = eqb-true mine 0 m;
        fits = rw (le-leb (got + 1) count (omega arith), m, n, z, k);
      }

  data_word_rules : (c : Command) (at : Progress) (w : ℕ) → SendRules b.sending (owed_by c at.got at.released at.blocked) at.mine
      → collect_sound c at ≡ true → at.got < data_words c → PlanRules b (data_word b c at w)
  unfolding data_word forward_word forwarded
  data_word_rules Filler at w r s h = absurd (omega arith)
  data_word_rules Malformed at w r s h = absurd (omega arith)
  data_word_rules (Forward crc words ends reads) at w r s h =
      let full : Bool = leb (b.control.regs.txfflvl + 1) (b.sending.tx.count + 1) in
      record {
        leaves =
            word_goes b.sending crc words ends reads at.got at.crc at.mine w at.blocked at.released
            (not crc && not at.released && (full || eqb (at.got + 1) words)) r
            (forward_facts (fwd crc words ends reads) at (unfold collect_sound in s))
            h
            (λ t. (not-true crc (search (and_l, and_r)), not-true at.released (search (and_l, and_r))))
            (λ t k. unreleasing crc at.released full (at.got + 1) words (omega arith) t k);
        regs = rw (faulted_regs b.control) g;
        ending = λ e. cc;
      }
  data_word_rules (DataRead crc words) at w r s h = absurd (omega arith)
  data_word_rules (RegisterWrite crc address count) at w r s h =
      let m : eqb at.mine 0 ≡ true = unfold collect_sound in search (and_l, and_r) in
      let n : not at.released ≡ true = unfold collect_sound in search (and_l, and_r) in
      register_word_rules crc address at.got _ w
      (rules_none b.sending _ _ r (unreleased_owes_none _ _ _ _ (not-true at.released n)) (eqb-true at.mine 0 m))
      (bare_write crc address count at.got at.crc at.mine at.released at.blocked h s)
  data_word_rules (RegisterRead crc address count) at w r s h = absurd (omega arith)
  data_word_rules SoftReset at w r s h = absurd (omega arith)

  -- 5. The rules of a CRC word.
  wrong_rules : (crc : Bool) (mine : ℕ) → SendRules b.sending 0 mine → (crc ≡ false → mine ≡ 0) → PlanRules b (wrong_crc b crc mine)
  unfolding wrong_crc
  wrong_rules crc mine r m =
      pick_keeps (PlanRules b) crc _ _ (λ h. record { leaves = taken_back b.sending mine r; regs = g; ending = λ e. refl })
      (λ h. record { leaves = stays b.sending Idle (rules_none b.sending 0 mine r refl (m h)) bare_idle; regs = g; ending = λ e. refl })

  forward_closed_rules : (crc : Bool) (words ends : ℕ) (reads : Bool) (got sum mine : ℕ) (released blocked : Bool) → SendRules b.sending 0 mine
      → ForwardFit (fwd crc words ends reads) (progress got sum mine released blocked) → words ≤ got
      → PlanRules b (forward_closed b crc words ends reads blocked)
  unfolding forward_closed
  forward_closed_rules crc words ends reads got sum mine released blocked r f h = record {
    leaves =
        closed_goes b.sending crc words ends reads mine blocked (crc && not (eqb words 0 && eqb ends 0)) r f.words_most f.ends_most
        (blocked_has_none crc words ends reads got sum mine released blocked f)
        (unqueued_has_none crc words ends reads got sum mine released blocked f h)
        (λ t k. queued_has_all crc words ends reads got sum mine released blocked f h (and_l _ _ t) k)
        (λ t. has_some words ends (and_r crc _ t));
    regs = rw (faulted_regs b.control) g;
    ending = λ e. refl;
  }

  registers_closed_rules : (crc : Bool) (address count : ℕ) → SendRules b.sending 0 0 → PlanRules b (registers_closed b crc address count)
  unfolding registers_closed
  registers_closed_rules crc address count r =
      pick_keeps (PlanRules b) crc _ _
      (λ h. effected_rules Idle _ true r bare_idle (write_all_sound (no_effects b.control) _ address _ g) (λ e. refl))
      (λ h. record { leaves = stays b.sending Idle r bare_idle; regs = g; ending = λ e. refl })

  read_closed_rules : (l : Layouts) (crc right : Bool) (reply : Reply) → SendRules b.sending 0 0 → reply_sound reply ≡ true
      → PlanRules b (read_closed l b crc right reply)
  unfolding read_closed
  read_closed_rules l crc right reply r s =
      let answers : Leaves b.sending None Leave (Answering reply (l.crc_start b.frame.xmodem)) = stays b.sending _ r (bare_answer reply _ s) in
      pick_keeps (PlanRules b) right _ _ (λ h. record { leaves = answers; regs = g; ending = λ e. cc })
      (λ h. pick_keeps (PlanRules b) crc _ _ (λ c. record { leaves = stays b.sending Idle r bare_idle; regs = g; ending = λ e. cc })
      (λ c. record { leaves = answers; regs = g; ending = λ e. cc }))

  reset_rules : SendRules b.sending 0 0 → idle b.sending.sender ≡ true → Leaves b.sending None ResetAll Idle
  unfolding stored ring_after to_come mine_of phase_sound
  reset_rules r h = record { sending = rules_reset b.sending 0 0 r (eqb-true _ _ (search (and_l, and_r))); phase = refl; asks = h }

  reset_closed_rules : SendRules b.sending 0 0 → PlanRules b (reset_closed b)
  unfolding reset_closed
  reset_closed_rules r =
      pick_keeps (PlanRules b) _ _ _ (λ h. record { leaves = reset_rules r h; regs = g; ending = λ e. refl })
      (λ h. record { leaves = stays b.sending Idle r bare_idle; regs = g; ending = λ e. refl })

  crc_due_rules : (l : Layouts) (c : Command) (got sum mine : ℕ) (released blocked right : Bool)
      → SendRules b.sending (owed_by c got released blocked) mine → collect_sound c (progress got sum mine released blocked) ≡ true
      → data_words c ≤ got → PlanRules b (crc_due l b c mine blocked right)
  unfolding crc_due collect_sound reply_sound
  crc_due_rules l c got sum mine released blocked right r s h = go c (rw (whole_owes_none c got released blocked h) at r) s h
    where
      bare : eqb mine 0 ≡ true → SendRules b.sending 0 mine → SendRules b.sending 0 0
      bare m k = rules_none b.sending 0 mine k refl (eqb-true mine 0 m)

      go : (c : Command) → SendRules b.sending 0 mine → collect_sound c (progress got sum mine released blocked) ≡ true → data_words c ≤ got
          → PlanRules b (crc_due l b c mine blocked right)
      go Filler k s h = never false s refl
      go Malformed k s h = never false s refl
      go (Forward crc words ends reads) k s h =
          let f : ForwardFit (fwd crc words ends reads) (progress got sum mine released blocked) = forward_facts _ _ s in
          pick_keeps (PlanRules b) right _ _ (λ e. forward_closed_rules crc words ends reads got sum mine released blocked k f h)
          (λ e. wrong_rules crc mine k (λ c. unqueued_has_none crc words ends reads got sum mine released blocked f h (rw c)))
      go (DataRead crc words) k s h =
          read_closed_rules l crc right (Data words) (bare (search (and_l, and_r)) k)
          (and_both (ltb 0 words) (leb words 256) (search (and_l, and_r)) (search (and_l, and_r)))
      go (RegisterWrite crc address count) k s h =
          let m : eqb mine 0 ≡ true = search (and_l, and_r) in
          pick_keeps (PlanRules b) right _ _ (λ e. registers_closed_rules crc address count (bare m k))
          (λ e. wrong_rules crc mine k (λ c. eqb-true mine 0 m))
      go (RegisterRead crc address count) k s h =
          read_closed_rules l crc right (Registers address count) (bare (search (and_l, and_r)) k)
          (and_both (ltb 0 count) (leb (address + count) 12) (search (and_l, and_r)) (search (and_l, and_r)))
      go SoftReset k s h =
          let m : eqb mine 0 ≡ true = search (and_l, and_r) in
          pick_keeps (PlanRules b) right _ _ (λ e. reset_closed_rules (bare m k)) (λ e. wrong_rules true mine k (λ c. eqb-true mine 0 m))

  -- 6. The rules of an answer.
  answered_rules : (l : Layouts) (reply : Reply) (sum x : ℕ) → SendRules b.sending 0 0 → reply_sound reply ≡ true → PlanRules b (answered l b reply sum x)
  unfolding answered data_answered register_answered answer_with reply_sound
  answered_rules l (Status v) sum x r s = record {
    leaves = stays b.sending _ r (bare_answer Check _ (unfold reply_sound in refl));
    regs = g;
    ending = λ e. cc;
  }
  answered_rules l (Data left) sum x r s =
      let next : reply_sound (pick (leb left 1) Check (Data (left - 1))) ≡ true
      = pick_keeps (λ (q : Reply). reply_sound q ≡ true) (leb left 1) Check (Data (left - 1)) (λ h. refl)
      (λ h. let n : 1 < left = leb-false _ _ h in
      let k : left ≤ 256 = leb-true _ _ (search (and_l, and_r)) in
      and_both _ _ (lt-ltb 0 (left - 1) (omega arith)) (le-leb (left - 1) 256 (omega arith))) in
      pick_keeps (PlanRules b) _ _ _ (λ h. record { leaves = stays b.sending _ r (bare_answer _ _ next); regs = g; ending = λ e. cc })
      (λ h. record { leaves = stays b.sending _ r (bare_answer _ _ next); regs = g; ending = λ e. cc })
  answered_rules l (Registers address left) sum x r s =
      let next : reply_sound (pick (leb left 1) Check (Registers (address + 1) (left - 1))) ≡ true
      = pick_keeps (λ (q : Reply). reply_sound q ≡ true) (leb left 1) Check (Registers (address + 1) (left - 1)) (λ h. refl)
      (λ h. let n : 1 < left = leb-false _ _ h in
      let k : address + left ≤ 12 = leb-true _ _ (search (and_l, and_r)) in
      and_both _ _ (lt-ltb 0 (left - 1) (omega arith)) (le-leb (address + 1 + (left - 1)) 12 (omega arith))) in
      record { leaves = stays b.sending _ r (bare_answer _ _ next); regs = g; ending = λ e. cc }
  answered_rules l Check sum x r s = record { leaves = stays b.sending Idle r bare_idle; regs = g; ending = λ e. cc }

  -- 7. A host word, and a release of chip select, by phase.
  planned_rules : (l : Layouts) → LayoutFit l → (p : Phase) (w x : ℕ) → SendRules b.sending (to_come p) (mine_of p) → phase_sound p ≡ true
      → PlanRules b (planned_in l b p w x)
  unfolding planned_in to_come mine_of phase_sound
  planned_rules l f Idle w x r s = opened_rules (l.decode b.control.regs.layout w) _ (f _ w) r
  planned_rules l f (Collecting command got sum mine released blocked) w x r s =
      pick_keeps (PlanRules b) _ _ _ (λ h. data_word_rules command _ w r (summed_sound command _ _ s) (ltb-true _ _ h))
      (λ h. crc_due_rules l command got sum mine released blocked _ r s (ltb-false _ _ h))
  planned_rules l f (Answering reply sum) w x r s = answered_rules l reply sum x r s
  planned_rules l f Discarding w x r s = record { leaves = stays b.sending Discarding r bare_discarding; regs = g; ending = λ e. cc }

  cut_leaves : (c : Command) (got sum mine : ℕ) (released blocked : Bool) → SendRules b.sending (owed_by c got released blocked) mine
      → collect_sound c (progress got sum mine released blocked) ≡ true → Leaves b.sending None (cut_deed c got mine released) Idle
  unfolding cut_deed
  cut_leaves c got sum mine released blocked r s =
      pick_keeps (λ (d : Deed). Leaves b.sending None d Idle) released _ _
      (λ e. pick_keeps (λ (d : Deed). Leaves b.sending None d Idle) _ _ _ (λ h. cleared b.sending Idle _ _ r bare_idle)
      (λ h. stays b.sending Idle
      (rules_none b.sending _ mine r (whole_owes_none c got released blocked (ltb-false _ _ h)) (released_own c got sum mine released blocked s e))
      bare_idle))
      (λ e. taken_back b.sending mine (rw (unreleased_owes_none c got released blocked e) at r))

  released_rules : (p : Phase) → SendRules b.sending (to_come p) (mine_of p) → phase_sound p ≡ true → PlanRules b (released_in b p)
  unfolding released_in cut to_come mine_of phase_sound
  released_rules Idle r s = record { leaves = stays b.sending Idle r bare_idle; regs = g; ending = λ e. cc }
  released_rules (Collecting command got sum mine released blocked) r s = record {
    leaves = cut_leaves command got sum mine released blocked r s;
    regs = g;
    ending = λ e. cc;
  }
  released_rules (Answering reply sum) r s = record { leaves = stays b.sending Idle r bare_idle; regs = g; ending = λ e. cc }
  released_rules Discarding r s = record { leaves = stays b.sending Idle r bare_idle; regs = g; ending = λ e. cc }

pub host_keeps : (l : Layouts) → LayoutFit l → (b : Bridge) (clock : Clock) (w x : ℕ) → BridgeRules b
    → BridgeRules (performed l b clock (planned l b w x))
unfolding planned
host_keeps l f b clock w x r =
    performed_keeps l b clock _ r (planned_rules b r.regs l f b.frame.phase w x r.sending r.phase)
    (unfold planned in planned_rises l b w x r.control)

pub release_keeps : (l : Layouts) (b : Bridge) (clock : Clock) → BridgeRules b → BridgeRules (performed l b clock (released_in b b.frame.phase))
release_keeps l b clock r =
    performed_keeps l b clock _ r (released_rules b r.regs b.frame.phase r.sending r.phase) (released_rises b r.control)
