-- The reader's marks keep their rule: the command being read belongs to the oldest place that has begun, and its words go to RX only while no
-- RX flag is up (01 The line, "Each command read belongs ..", "unless an RX flag was up at the command's start or rises in it"). Assumes nothing.
use Rattle.std.specs.Prelude.{Option}
use mathlib.Core.Path.{◌≡◌, refl, sym, ◌∙◌}
use mathlib.Core.Bool.{Bool, true, false, not, ◌&&◌, ◌||◌}
use Prim.Native.Nat.{ℕ, ◌<◌}
use lib.ListN.{length}
use borrow.Author.Tests.{ltb-true, not-true}
use Rattle.base.specs.Pick.{pick_keeps, and_l, and_r}
use Rattle.base.specs.Truth.{or_end}
use Rattle.writes.specs.Writes.{is_quiet}
use Rattle.plan.specs.Plan.{cleared_away, received}
use Rattle.plan.specs.declared.Plan.{Plan}
use Rattle.plan.specs.declared.Receive.{Receive}
use Rattle.plan.specs.declared.Receive.TheVariants.{LeaveRx, PopRx, StopRx, EmptyRx, ResetRx}
use Rattle.line.specs.Reader.{at_check, in_group, in_lost, hear}
use Rattle.line.specs.declared.Ear.{Ear}
use Rattle.line.specs.declared.Ear.TheVariants.{Quiet, Group, Lost}
use Rattle.line.specs.declared.Found.{Found}
use Rattle.line.specs.declared.Found.TheVariants.{Nothing, Start, Word, End, CheckError, Over}
use Rattle.line.specs.declared.Heard.{Heard}
use Rattle.reader.specs.Reader.{is_claim, began, place_read, word_read, error_read, end_read, word_taken, at_end, ended, taken_by, tick_reader}
use Rattle.reader.specs.declared.Taken.{Taken}
use Rattle.registers.specs.Raising.{went_bad}
use Rattle.registers.specs.Registers.{rxff}
use Rattle.registers.specs.declared.Flags.{Flags}
use Rattle.rules.specs.Facts.{Standing}
use Rattle.line_rules.specs.Line.{is_unread, heard_marks, marks_sound}
use Rattle.state.specs.Facts.{QueueFit}
use Rattle.state.specs.Queue.{place_at, claimed, queued}
use Rattle.state.specs.Sending.{stored, done}
use Rattle.state.specs.declared.Bridge.{Bridge}
use Rattle.state.specs.declared.Deed.{Deed}
use Rattle.state.specs.declared.Deed.TheVariants.{Leave, Enqueue, TakeBack, ClearAll, ResetAll}
use Rattle.state.specs.declared.Queue.{Queue}
use Rattle.state.specs.declared.Reader.{Reader}
use Rattle.state.specs.declared.Receiving.{Receiving}
use Rattle.state.specs.declared.Returned.{Returned}
use Rattle.state.specs.declared.Sending.{Sending}
use Rattle.queue.proofs.Laws.{has_record}
use Rattle.kept.proofs.Control.{Rises, stops, is_reset}
use Rattle.kept.proofs.Freed.{read_steady, claim_first}
use Rattle.kept.proofs.Stands.{Asks}
use Rattle.kept.proofs.Standing.{Steady, Unread, steady_same, unread_same, marked_steady, marked_unread, queued_unread, unread_begun}
use Rattle.kept.specs.Rules.{BridgeRules}

-- 1. Marks with another queue and other flags.

heard_carried : (belongs storing u v s t x y : Bool) → (u ≡ true → (v ≡ true) × (t ≡ s)) → (y ≡ true → x ≡ true)
    → ((not belongs || u) && (not storing || (belongs && s && not x))) ≡ true → ((not belongs || v) && (not storing || (belongs && t && not y))) ≡ true
heard_carried true true u v s t x y a c h =
    let e = a (and_l u (s && not x) h) in
    let k : s ≡ true = and_l s (not x) (and_r u (s && not x) h) in
    let m : x ≡ false = not-true x (and_r s (not x) (and_r u (s && not x) h)) in
    rw (e.0, e.1, k, clear y c m)
  where
    clear : (y : Bool) → (y ≡ true → x ≡ true) → x ≡ false → y ≡ false
    clear true c m = sym (c refl) ∙ m
    clear false c m = refl
heard_carried true false u v s t x y a c h = rw (a (and_l u true h)).0
heard_carried false true u v s t x y a c h = h
heard_carried false false u v s t x y a c h = refl

-- the rule knows of the ear only whether a command is being read
marks_heard : (e : Ear) (r : Reader) (q : Queue) (f : Flags) → is_quiet e ≡ false → marks_sound e r q f ≡ heard_marks r q f
unfolding marks_sound is_quiet
marks_heard Quiet r q f h = cc
marks_heard (Group number value bits ones) r q f h = refl
marks_heard (Lost ones) r q f h = refl

marks_ear : (d e : Ear) (r : Reader) (q : Queue) (f : Flags) → is_quiet e ≡ is_quiet d → marks_sound d r q f ≡ true
    → marks_sound e (record { ear = e; belongs = r.belongs; storing = r.storing; stored = r.stored }) q f ≡ true
unfolding marks_sound is_quiet
marks_ear Quiet Quiet r q f x h = h
marks_ear Quiet (Group number value bits ones) r q f x h = cc
marks_ear Quiet (Lost ones) r q f x h = cc
marks_ear (Group number value bits ones) Quiet r q f x h = cc
marks_ear (Group number value bits ones) (Group n v b o) r q f x h = h
marks_ear (Group number value bits ones) (Lost o) r q f x h = h
marks_ear (Lost ones) Quiet r q f x h = cc
marks_ear (Lost ones) (Group n v b o) r q f x h = h
marks_ear (Lost ones) (Lost o) r q f x h = h

marks_carried : (e : Ear) (r : Reader) (q p : Queue) (f g : Flags) → Unread q p → (rxff g ≡ true → rxff f ≡ true) → marks_sound e r q f ≡ true
    → marks_sound e r p g ≡ true
unfolding marks_sound
marks_carried Quiet r q p f g u x h = h
marks_carried (Group number value bits ones) r q p f g u x h = heard_carried r.belongs r.storing _ _ _ _ _ _ u x h
marks_carried (Lost ones) r q p f g u x h = heard_carried r.belongs r.storing _ _ _ _ _ _ u x h

-- 2. A host's plan.

abbrev with : Reader → Bool → Bool → Reader
with r belongs storing = record { ear = r.ear; belongs = belongs; storing = storing; stored = r.stored }

marks_cleared : (e : Ear) (r : Reader) (q p : Queue) (f : Flags) → marks_sound e r q f ≡ true → marks_sound e (with r false false) p f ≡ true
unfolding marks_sound
marks_cleared Quiet r q p f h = and_r (not r.belongs && not r.storing) _ h
marks_cleared (Group number value bits ones) r q p f h = refl
marks_cleared (Lost ones) r q p f h = refl

marks_stopped : (e : Ear) (r : Reader) (q : Queue) (f g : Flags) → marks_sound e r q f ≡ true → marks_sound e (with r r.belongs false) q g ≡ true
unfolding marks_sound
marks_stopped Quiet r q f g h =
    let a : not r.belongs ≡ true = search (and_l, and_r) in
    let b : not r.stored ≡ true = search (and_l, and_r) in rw (a, b)
marks_stopped (Group number value bits ones) r q f g h = rw (and_l (not r.belongs || is_unread q) _ h)
marks_stopped (Lost ones) r q f g h = rw (and_l (not r.belongs || is_unread q) _ h)

abbrev Marked : Receiving → Queue → Flags → Type 0
Marked r q f = marks_sound r.reader.ear r.reader q f ≡ true

deed_marks : (r : Receiving) (s : Sending) (st : Option ℕ) (d : Deed) (f : Flags) → QueueFit s.queue → length s.queue.places ≡ 8 → Standing s.queue
    → Asks s d → is_reset d ≡ false → Marked r s.queue f → Marked (cleared_away r d) (done (stored s st) d).queue f
unfolding cleared_away done stored is_reset
deed_marks r s st Leave f g l t a n h = h
deed_marks r s st (Enqueue p) f g l t a n h =
    marks_carried r.reader.ear r.reader s.queue (queued s.queue p) f f (queued_unread s.queue g l t p (has_record s.queue p l a.0) a.1 a.0) (λ x. x) h
deed_marks r s st (TakeBack n) f g l t a z h = h
deed_marks r s st ClearAll f g l t a n h = marks_cleared r.reader.ear r.reader s.queue _ f h
deed_marks r s st ResetAll f g l t a n h = cc

received_marks : (r : Receiving) (v : Receive) (q : Queue) (f g : Flags) → (rxff g ≡ true → (rxff f || stops v) ≡ true) → Marked r q f
    → Marked (received r v) q g
unfolding received stops marks_sound
received_marks r LeaveRx q f g x h = marks_carried r.reader.ear r.reader q q f g (unread_same q) (λ y. or_end (rxff f) (x y)) h
received_marks r PopRx q f g x h = marks_carried r.reader.ear r.reader q q f g (unread_same q) (λ y. or_end (rxff f) (x y)) h
received_marks r StopRx q f g x h = marks_stopped r.reader.ear r.reader q f g h
received_marks r EmptyRx q f g x h = marks_stopped r.reader.ear r.reader q f g h
received_marks r ResetRx q f g x h = refl

reset_marks : (r : Receiving) (v : Receive) (q : Queue) (f : Flags) → v ≡ ResetRx → Marked (received r v) q f
unfolding received marks_sound
reset_marks r v q f e = rw e

pub performed_marks : (b : Bridge) (p : Plan) → BridgeRules b → Rises b p → Asks b.sending p.deed
    → Marked (received (cleared_away b.receiving p.deed) p.receive) (done (stored b.sending p.store) p.deed).queue p.control.flags
performed_marks b p r v a = go (is_reset p.deed) refl
  where
    go : (t : Bool) → is_reset p.deed ≡ t
        → Marked (received (cleared_away b.receiving p.deed) p.receive) (done (stored b.sending p.store) p.deed).queue p.control.flags
    go true e = reset_marks _ p.receive _ _ (v.resets e)
    go false e =
        received_marks (cleared_away b.receiving p.deed) p.receive _ b.control.flags p.control.flags v.hears
        (deed_marks b.receiving b.sending p.store p.deed b.control.flags r.sending.queue r.sending.eight r.stands.standing a e
        r.marks)

-- 3. The reader's half of a tick.

-- what the queue keeps of it
module _ (q : Queue) (g : QueueFit q) (l : length q.places ≡ 8) (s : Standing q) (belongs : Bool) where
  claim : (belongs && is_claim q) ≡ true → claimed q < q.begun
  claim b = ltb-true _ _ (and_r belongs _ b)

  word_steady : (w : ℕ) → Steady q (word_read belongs q w)
  unfolding word_read
  word_steady w =
      pick_keeps (Steady q) _ _ _
      (λ b. marked_steady q (claimed q) _ g l (claim b) (record { words = refl; ends = refl; sent = refl; read = refl; store = refl }) s)
      (λ b. steady_same q s)

  word_unread : (w : ℕ) → Unread q (word_read belongs q w)
  unfolding word_read
  word_unread w =
      pick_keeps (Unread q) _ _ _
      (λ b. marked_unread q (claimed q) _ g l (claim b) (record { words = refl; ends = refl; sent = refl; read = refl; store = refl }))
      (λ b. unread_same q)

  error_steady : Steady q (error_read belongs q)
  unfolding error_read
  error_steady =
      pick_keeps (Steady q) _ _ _
      (λ b. marked_steady q (claimed q) _ g l (claim b) (record { words = refl; ends = refl; sent = refl; read = refl; store = refl }) s)
      (λ b. steady_same q s)

  error_unread : Unread q (error_read belongs q)
  unfolding error_read
  error_unread =
      pick_keeps (Unread q) _ _ _
      (λ b. marked_unread q (claimed q) _ g l (claim b) (record { words = refl; ends = refl; sent = refl; read = refl; store = refl }))
      (λ b. unread_same q)

  end_steady : Steady q (end_read belongs q).queue
  unfolding end_read
  end_steady =
      pick_keeps (λ (x : Returned). Steady q x.queue) _ _ _
      (λ b. let c = claim_first q l s (claim b) in
      rw c.0 (read_steady q g l s (unread_begun q c.1) (place_read (place_at q 0)) refl refl refl refl))
      (λ b. steady_same q s)

-- a bit from the ear d to the ear e, by what it completed
abbrev Turns : Ear → Ear → Found → Type 0
Turns d e Nothing = is_quiet e ≡ is_quiet d
Turns d e Start = is_quiet e ≡ false
Turns d e (Word w) = (is_quiet d ≡ false) × (is_quiet e ≡ false)
Turns d e End = e ≡ Quiet
Turns d e (CheckError n) = (is_quiet d ≡ false) × (is_quiet e ≡ false)
Turns d e Over = e ≡ Quiet

abbrev TurnsTo : Ear → Heard → Type 0
TurnsTo d h = Turns d h.ear h.found

hear_turns : (d : Ear) (b : Bool) → TurnsTo d (hear d b)
unfolding hear in_group in_lost at_check is_quiet
hear_turns Quiet b = pick_keeps (TurnsTo Quiet) _ _ _ (λ c. refl) (λ c. refl)
hear_turns (Group number value bits ones) b =
    pick_keeps (TurnsTo (Group number value bits ones)) _ _ _ (λ c. refl)
    (λ c. pick_keeps (TurnsTo (Group number value bits ones)) _ _ _ (λ k. refl)
    (λ k. pick_keeps (TurnsTo (Group number value bits ones)) _ _ _ (λ m. (refl, refl))
    (λ m. pick_keeps (TurnsTo (Group number value bits ones)) _ _ _ (λ n. (refl, refl))
    (λ n. pick_keeps (TurnsTo (Group number value bits ones)) _ _ _ (λ o. refl) (λ o. (refl, refl))))))
hear_turns (Lost ones) b = pick_keeps (TurnsTo (Lost ones)) _ _ _ (λ c. refl) (λ c. refl)

either : (b : Bool) → (not b || b) ≡ true
either true = refl
either false = refl

module _ (r : Receiving) (q : Queue) (f : Flags) (g : QueueFit q) (l : length q.places ≡ 8) (s : Standing q) (h : Marked r q f) where
  abbrev Goes : Taken → Type 0
  Goes t = Marked t.receiving t.queue t.flags

  -- a command begins: it is the oldest place's, or nobody's
  start_marks : (e : Ear) → is_quiet e ≡ false → Marked (began r q f e) q f
  unfolding began
  start_marks e n = rw (marks_heard e _ q f n) (go (is_claim q) refl)
    where
      go : (t : Bool) → is_claim q ≡ t
          → ((not t || is_unread q) && (not (t && (place_at q (claimed q)).store && not (rxff f)) || (t && (place_at q 0).store && not (rxff f)))) ≡ true
      go true k =
          let c = claim_first q l s (ltb-true _ _ k) in
          rw (c.0, c.1) (either ((place_at q 0).store && not (rxff f)))
      go false k = refl

  word_marks : (e : Ear) (w : ℕ) → is_quiet r.reader.ear ≡ false → is_quiet e ≡ false → Goes (word_taken r q f e w)
  unfolding word_taken
  word_marks e w d n =
      let p : Queue = word_read r.reader.belongs q w in
      let m : heard_marks r.reader p f ≡ true
      = rw (marks_heard r.reader.ear r.reader p f d) at
      (marks_carried r.reader.ear r.reader q p f f (word_unread q g l s r.reader.belongs w) (λ x. x) h) in
      pick_keeps Goes _ _ _
      (λ k. pick_keeps Goes _ _ _ (λ c. rw (marks_heard e _ p f n) (rw k at m))
      (λ c. rw (marks_heard e _ p _ n) (rw (and_l (not r.reader.belongs || is_unread p) _ m))))
      (λ k. rw (marks_heard e _ p f n) m)

  error_marks : (k : ℕ) (e : Ear) → is_quiet r.reader.ear ≡ false → is_quiet e ≡ false → Goes (taken_by (CheckError k) r q f e)
  unfolding taken_by went_bad
  error_marks k e d n =
      let p : Queue = error_read r.reader.belongs q in
      rw (marks_heard e _ p _ n)
      (rw (marks_heard r.reader.ear r.reader p _ d) at
      (marks_carried r.reader.ear r.reader q p f (went_bad f k) (error_unread q g l s r.reader.belongs) (λ x. x) h))

  ended_marks : (e : Ear) → e ≡ Quiet → Goes (ended r q f e)
  unfolding ended at_end marks_sound
  ended_marks e n = rw n

  taken_marks : (found : Found) (e : Ear) → Turns r.reader.ear e found → Goes (taken_by found r q f e)
  unfolding taken_by
  taken_marks Nothing e n = marks_ear r.reader.ear e r.reader q f n h
  taken_marks Start e n = start_marks e n
  taken_marks (Word w) e n = word_marks e w n.0 n.1
  taken_marks End e n = ended_marks e n
  taken_marks (CheckError k) e n = error_marks k e n.0 n.1
  taken_marks Over e n = ended_marks e n

  pub tick_marks : (sin : Bool) → Goes (tick_reader r q f sin)
  unfolding tick_reader
  tick_marks sin = taken_marks (hear r.reader.ear sin).found (hear r.reader.ear sin).ear (hear_turns r.reader.ear sin)

  taken_steady : (found : Found) (e : Ear) → Steady q (taken_by found r q f e).queue
  unfolding taken_by word_taken ended
  taken_steady Nothing e = steady_same q s
  taken_steady Start e = steady_same q s
  taken_steady (Word w) e =
      pick_keeps (λ (t : Taken). Steady q t.queue) _ _ _
      (λ k. pick_keeps (λ (t : Taken). Steady q t.queue) _ _ _ (λ c. word_steady q g l s r.reader.belongs w)
      (λ c. word_steady q g l s r.reader.belongs w))
      (λ k. word_steady q g l s r.reader.belongs w)
  taken_steady End e = end_steady q g l s r.reader.belongs
  taken_steady (CheckError n) e = error_steady q g l s r.reader.belongs
  taken_steady Over e = end_steady q g l s r.reader.belongs

  pub tick_reader_steady : (sin : Bool) → Steady q (tick_reader r q f sin).queue
  unfolding tick_reader
  tick_reader_steady sin = taken_steady (hear r.reader.ear sin).found (hear r.reader.ear sin).ear

-- marks before a tick, with the queue that its sender's half leaves
pub sent_marks : (r : Receiving) (q p : Queue) (f g : Flags) → Unread q p → rxff g ≡ rxff f → Marked r q f → Marked r p g
sent_marks r q p f g u x h = marks_carried r.reader.ear r.reader q p f g u (λ y. sym x ∙ y) h
