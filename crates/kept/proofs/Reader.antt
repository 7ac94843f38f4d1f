-- The reader's half of a tick keeps the queue's rules, what waits, RX's ring and the ear. Assumes nothing.
use mathlib.Core.Path.{◌≡◌, refl}
use mathlib.Core.Bool.{Bool, true, false, ◌&&◌}
use Prim.Native.Nat.{ℕ, ◌+◌, ◌≤◌, ◌<◌}
use native.Mathlib.Omega.{arith}
use lib.Dec.{leb, eqb}
use lib.ListN.{length}
use borrow.Author.Tests.{ltb-true, eqb-false, lt-ltb, le-leb}
use Rattle.base.specs.Pick.{pick_keeps, and_r, and_both}
use Rattle.line.specs.Reader.{heard, run_on, shift_in, next_number, at_check, in_group, in_lost, hear}
use Rattle.line.specs.declared.Ear.{Ear}
use Rattle.line.specs.declared.Ear.TheVariants.{Quiet, Group, Lost}
use Rattle.line.specs.declared.Found.{Found}
use Rattle.line.specs.declared.Found.TheVariants.{Nothing, Start, Word, End, CheckError, Over}
use Rattle.line.specs.declared.Heard.{Heard}
use Rattle.reader.specs.Reader.{is_claim, began, word_read, error_read, end_read, word_taken, at_end, ended, taken_by, tick_reader}
use Rattle.reader.specs.declared.Taken.{Taken}
use Rattle.registers.specs.declared.Flags.{Flags}
use Rattle.line_rules.specs.Line.{ear_sound}
use Rattle.state.specs.Facts.{RingFit, QueueFit}
use Rattle.state.specs.Queue.{claimed}
use Rattle.state.specs.declared.Queue.{Queue}
use Rattle.state.specs.declared.Receiving.{Receiving}
use Rattle.state.specs.declared.Returned.{Returned}
use Rattle.kept.proofs.Queue.{Kept, kept_same, kept_marked, kept_returned}

-- the place that a command read belongs to has begun
module _ (belongs : Bool) (q : Queue) (f : QueueFit q) (l : length q.places ≡ 8) where
  claim_begun : (belongs && is_claim q) ≡ true → claimed q < q.begun
  claim_begun b = ltb-true _ _ (and_r belongs _ b)

  pub kept_word_read : (w : ℕ) → Kept q (word_read belongs q w)
  unfolding word_read
  kept_word_read w = pick_keeps (Kept q) _ _ _ (λ b. kept_marked q (claimed q) _ f l (claim_begun b) (omega arith) (omega arith)) (λ b. kept_same q f l)

  pub kept_error_read : Kept q (error_read belongs q)
  unfolding error_read
  kept_error_read = pick_keeps (Kept q) _ _ _ (λ b. kept_marked q (claimed q) _ f l (claim_begun b) (omega arith) (omega arith)) (λ b. kept_same q f l)

  pub kept_end_read : Kept q (end_read belongs q).queue
  unfolding end_read
  kept_end_read =
      pick_keeps (λ (r : Returned). Kept q r.queue) _ _ _ (λ b. kept_returned q (claimed q) _ f l (claim_begun b) (omega arith) (omega arith)) (λ b. kept_same q f l)

-- what the reader's half keeps, with the ear that it got
pub record Takes (q : Queue) (e : Ear) (t : Taken) : Type 0 where
  pub queue : Kept q t.queue
  pub rx : RingFit 256 t.receiving.rx
  pub ear : t.receiving.reader.ear ≡ e

module _ (r : Receiving) (q : Queue) (f : Flags) (e : Ear) (x : RingFit 256 r.rx) (g : QueueFit q) (l : length q.places ≡ 8) where
  word_taken_keeps : (w : ℕ) → Takes q e (word_taken r q f e w)
  unfolding word_taken
  word_taken_keeps w =
      let k : Kept q (word_read r.reader.belongs q w) = kept_word_read r.reader.belongs q g l w in
      pick_keeps (Takes q e) _ _ _
      (λ s. pick_keeps (Takes q e) _ _ _
      (λ c. let h : r.rx.count < 256 = ltb-true _ _ c in record { queue = k; rx = record { head = x.head; count = omega arith }; ear = refl })
      (λ c. record { queue = k; rx = x; ear = refl }))
      (λ s. record { queue = k; rx = x; ear = refl })

  ended_keeps : Takes q e (ended r q f e)
  unfolding ended at_end
  ended_keeps = record { queue = kept_end_read r.reader.belongs q g l; rx = x; ear = refl }

  pub taken_by_keeps : (found : Found) → Takes q e (taken_by found r q f e)
  unfolding taken_by began
  taken_by_keeps Nothing = record { queue = kept_same q g l; rx = x; ear = refl }
  taken_by_keeps Start = record { queue = kept_same q g l; rx = x; ear = refl }
  taken_by_keeps (Word w) = word_taken_keeps w
  taken_by_keeps End = ended_keeps
  taken_by_keeps (CheckError n) = record { queue = kept_error_read r.reader.belongs q g l; rx = x; ear = refl }
  taken_by_keeps Over = ended_keeps

-- a run below an END's eighteen, or the END
run_within : (ones : ℕ) (b : Bool) → ones < 18 → run_on ones b ≤ 18
unfolding run_on
run_within ones true h = pick_keeps (λ (n : ℕ). n ≤ 18) _ _ _ (λ c. omega arith) (λ c. omega arith)
run_within ones false h = omega arith

not_end : (n : ℕ) → n ≤ 18 → eqb n 18 ≡ false → n < 18
not_end n h e = let d : n ≡ 18 → ⊥ = eqb-false n 18 e in omega arith

abbrev EarKept : Heard → Type 0
EarKept h = ear_sound h.ear ≡ true

lost_sound : (ones : ℕ) (f : Found) → ones < 18 → EarKept (heard (Lost ones) f)
unfolding ear_sound
lost_sound ones f h = lt-ltb ones 18 h

group_sound : (n value bits ones : ℕ) (f : Found) → bits ≤ 17 → ones < 18 → EarKept (heard (Group n value bits ones) f)
unfolding ear_sound
group_sound n value bits ones f b h = and_both _ _ (le-leb bits 17 b) (lt-ltb ones 18 h)

quiet_sound : (f : Found) → EarKept (heard Quiet f)
unfolding ear_sound
quiet_sound f = refl

check_sound : (n value bits ones : ℕ) (b : Bool) → ones < 18 → EarKept (at_check n value bits ones b)
unfolding at_check
check_sound n value bits ones b h =
    pick_keeps EarKept _ _ _ (λ c. lost_sound ones (CheckError n) h)
    (λ c. pick_keeps EarKept _ _ _ (λ d. group_sound (next_number n) 0 0 ones (Word value) (omega arith) h)
    (λ d. pick_keeps EarKept _ _ _ (λ e. group_sound n value 17 ones Nothing (omega arith) h) (λ e. lost_sound ones (CheckError n) h)))

pub hear_keeps : (e : Ear) (b : Bool) → ear_sound e ≡ true → ear_sound (hear e b).ear ≡ true
unfolding hear in_group in_lost ear_sound
hear_keeps Quiet b s = pick_keeps EarKept _ _ _ (λ c. quiet_sound Nothing) (λ c. group_sound 0 0 0 0 Start (omega arith) (omega arith))
hear_keeps (Group n value bits ones) b s =
    let run : run_on ones b ≤ 18 = run_within ones b (ltb-true _ _ (and_r (leb bits 17) _ s)) in
    pick_keeps EarKept _ _ _ (λ c. quiet_sound End)
    (λ c. pick_keeps EarKept _ _ _
    (λ d. let k : bits < 16 = ltb-true _ _ d in group_sound n (shift_in value b) (bits + 1) (run_on ones b) Nothing (omega arith) (not_end _ run c))
    (λ d. check_sound n value bits (run_on ones b) b (not_end _ run c)))
hear_keeps (Lost ones) b s =
    let run : run_on ones b ≤ 18 = run_within ones b (ltb-true _ _ s) in
    pick_keeps EarKept _ _ _ (λ c. quiet_sound Over) (λ c. lost_sound (run_on ones b) Nothing (not_end _ run c))

-- the reader's half: the queue, RX and the ear
pub tick_reader_keeps : (r : Receiving) (q : Queue) (f : Flags) (sin : Bool) → RingFit 256 r.rx → QueueFit q → length q.places ≡ 8
    → Takes q (hear r.reader.ear sin).ear (tick_reader r q f sin)
unfolding tick_reader
tick_reader_keeps r q f sin x g l = taken_by_keeps r q f (hear r.reader.ear sin).ear x g l (hear r.reader.ear sin).found

pub tick_reader_ear : (r : Receiving) (q : Queue) (f : Flags) (sin : Bool) → RingFit 256 r.rx → QueueFit q → length q.places ≡ 8
    → ear_sound r.reader.ear ≡ true → ear_sound (tick_reader r q f sin).receiving.reader.ear ≡ true
tick_reader_ear r q f sin x g l s = rw (tick_reader_keeps r q f sin x g l).ear (hear_keeps r.reader.ear sin s)
