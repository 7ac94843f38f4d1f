-- Both halves of a tick: the sender's is one step of it, and the reader's marks a place read where END came back. Assumes nothing.
use mathlib.Core.Path.{◌≡◌, refl, ap, ◌∙◌}
use mathlib.Core.Bool.{Bool, true, false, not, ◌&&◌}
use mathlib.Core.List.{List, [], ◌∷◌}
use Prim.Native.Nat.{ℕ, zero, suc, ◌+◌, ◌-◌, ◌≤◌, ◌<◌}
use native.Mathlib.Omega.{arith}
use native.Mathlib.Decide.{ℕ_discrete}
use lib.Dec.{ltb, leb}
use lib.ListN.{length, take, get_or}
use borrow.Author.Tests.{lt-ltb, le-leb, eq-eqb, ltb-true}
use Rattle.base.specs.Pick.{pick, pick_keeps, and_l, and_r}
use Rattle.base.specs.Bits.{val}
use Rattle.base.specs.Truth.{never}
use Rattle.line.specs.Format.{piece_length}
use Rattle.line.specs.Reader.{hear}
use Rattle.line.specs.declared.Ear.{Ear}
use Rattle.line.specs.declared.Found.{Found}
use Rattle.registers.specs.declared.Flags.{Flags}
use Rattle.state.specs.Facts.{QueueFit}
use Rattle.state.specs.Queue.{no_place, place_at, first_unread, claimed, returned, last_begun}
use Rattle.state.specs.Sending.{idle}
use Rattle.state.specs.declared.Place.{Place}
use Rattle.state.specs.declared.Queue.{Queue}
use Rattle.state.specs.declared.Receiving.{Receiving}
use Rattle.state.specs.declared.Returned.{Returned}
use Rattle.state.specs.declared.Sender.{Sender}
use Rattle.state.specs.declared.Sending.{Sending}
use Rattle.queue.proofs.Laws.{busy_begun, speaking_begun}
use Rattle.place_rules.specs.Places.{waits, awaits}
use Rattle.rules.specs.Facts.{Standing}
use Rattle.next.specs.Next.{bit_sent, is_starve, is_start}
use Rattle.next.specs.declared.Next.{Next}
use Rattle.next.specs.declared.Next.TheVariants.{GoOn, LoadWord, Starve, LoadEnd, StartWords, StartEnds, Stay}
use Rattle.sender.specs.Sender.{word_sent, queue_sent, sender_after, advanced, place_sent, finished, command_sent}
use Rattle.reader.specs.Reader.{is_claim, began, place_word, place_read, word_read, end_read, word_taken, at_end, ended, taken_by, tick_reader}
use Rattle.reader.specs.declared.Taken.{Taken}
use Rattle.kept.proofs.Sender.{Chosen}
use Rattle.echoes.proofs.Hearing.{Step, on, load, close, begin, ones, rest, Finds, nothing, starts, words, ends}
use Rattle.echoes.proofs.Counts.{unread_bit, unread_below, unread, unread_set, unread_returned, unread_begun}

-- commands with words that a tick begins: 1 or 0
abbrev pub begins : Next → ℕ
begins n = val (is_start n)

is_idle_lem : (t : Sender) → piece_length t.piece ≤ t.gone → t.left ≡ 0 → t.ends ≡ 0 → idle t ≡ true
is_idle_lem t h k e = rw (le-leb (piece_length t.piece) t.gone h, eq-eqb t.left 0 k, eq-eqb t.ends 0 e)

-- 1. The sender's half.
module _ (s : Sending) (w : ℕ) (small : w < 65536) where
  pub sender_step : (n : Next) → Chosen s n → is_starve n ≡ false → Step s.sender (bit_sent n s.sender w) (advanced n s w).sender (begins n)
  unfolding advanced sender_after bit_sent val
  sender_step GoOn c f = on s.sender c
  sender_step LoadWord c f = load s.sender w small c.0 c.1
  sender_step Starve c f = never true refl f
  sender_step LoadEnd c f = close s.sender c.0 c.1 c.2
  sender_step StartWords c f = begin s.sender _ _ (is_idle_lem s.sender c.0 c.1 c.2)
  sender_step StartEnds c f = ones s.sender _ (is_idle_lem s.sender c.0 c.1 c.2)
  sender_step Stay c f = rest s.sender _ (is_idle_lem s.sender c.0 c.1 c.2) refl

module _ (q : Queue) (k : QueueFit q) (eight : length q.places ≡ 8) where
  -- marks of a word sent change nothing of it
  sent_unread : (left w : ℕ) → unread (queue_sent q left w) ≡ unread q
  unfolding queue_sent word_sent
  sent_unread left w =
      pick_keeps (λ (r : Queue). unread r ≡ unread q) _ _ _
      (λ b. let h : 0 < q.begun = ltb-true _ _ b in
      omega (arith, unread_set q (q.begun - 1) (word_sent (place_at q (q.begun - 1)) left w) q.begun (omega arith) (omega (arith, k.order, k.most))))
      (λ b. refl)

  fresh_bit : (p : Place) → waits p ≡ true → 0 < p.words → unread_bit p ≡ 1
  unfolding val
  fresh_bit p h w =
      let r : not p.read ≡ true = search (and_l, and_r) depth 12 in
      rw (lt-ltb 0 p.words w, r) refl

  module _ (st : Standing q) (b : q.begun < q.used) where
    begun_words : 0 < (place_at q q.begun).words → unread (record { places = q.places; used = q.used; begun = q.begun + 1 }) ≡ unread q + 1
    begun_words h = unread_begun q ∙ ap (λ (m : ℕ). unread q + m) (fresh_bit (place_at q q.begun) (st.fresh q.begun (omega arith) b) h)

    begun_ends : (place_at q q.begun).words ≡ 0 → unread (record { places = q.places; used = q.used; begun = q.begun + 1 }) ≡ unread q + 0
    unfolding val
    begun_ends h = unread_begun q ∙ rw h refl

pub advanced_unread : (s : Sending) (w : ℕ) → QueueFit s.queue → length s.queue.places ≡ 8 → Standing s.queue → (n : Next) → Chosen s n
    → unread (advanced n s w).queue ≡ unread s.queue + begins n
unfolding advanced val
advanced_unread s w k e st GoOn c = omega arith
advanced_unread s w k e st LoadWord c = sent_unread s.queue k e s.sender.left w ∙ omega arith
advanced_unread s w k e st Starve c = omega arith
advanced_unread s w k e st LoadEnd c = omega arith
advanced_unread s w k e st StartWords c = begun_words s.queue k e st c.3 c.4
advanced_unread s w k e st StartEnds c = begun_ends s.queue k e st c.3 c.4
advanced_unread s w k e st Stay c = omega arith

pub finished_unread : (a : Sending) → QueueFit a.queue → length a.queue.places ≡ 8 → unread (finished a).queue ≡ unread a.queue
unfolding finished place_sent command_sent
finished_unread a k e =
    pick_keeps (λ (r : Returned). unread r.queue ≡ unread a.queue) _ _ _
    (λ t. let h : 0 < a.queue.begun = busy_begun a.queue (and_r (idle a.sender) _ t) in
    omega (arith, unread_returned a.queue (a.queue.begun - 1) (command_sent (last_begun a.queue)) (omega arith) (omega (arith, k.order, k.most)) e))
    (λ t. pick_keeps (λ (r : Returned). unread r.queue ≡ unread a.queue) _ _ _
    (λ u. let h : 0 < a.queue.begun = speaking_begun a.queue (and_r (leb 18 a.sender.gone) _ u) in
    omega (arith, unread_returned a.queue (a.queue.begun - 1) (place_sent (last_begun a.queue)) (omega arith) (omega (arith, k.order, k.most)) e))
    (λ u. refl))

-- 2. The reader's half.
head_take : (ps : List Place) (n : ℕ) → 0 < n → 0 < length ps → (ltb 0 (get_or ps 0 no_place).words && not (get_or ps 0 no_place).read) ≡ true
    → first_unread (take n ps) ≡ 0
unfolding first_unread pick
head_take ps zero h l e = absurd (omega arith)
head_take [] (suc n) h l e = absurd (omega arith)
head_take (p ∷ ps) (suc n) h l e = rw e refl

bit_one : (t : Bool) → 0 < val t → t ≡ true
unfolding val
bit_one true h = refl
bit_one false h = absurd (omega arith)

-- where one is still to be read it is the oldest
pub record Oldest (q : Queue) : Type 0 where
  pub some : 0 < q.begun
  pub claimed_is : claimed q ≡ 0
  pub claim : is_claim q ≡ true
  pub bit_is : unread_bit (place_at q 0) ≡ 1

pub oldest_unread : (q : Queue) → QueueFit q → length q.places ≡ 8 → Standing q → 0 < unread q → Oldest q
unfolding claimed unread_below val
oldest_unread q k e st u =
    elim (ℕ_discrete q.begun 0) [
      | yes z ↦ (let v : 0 < unread_below q.places 0 = rw z at u in absurd (omega arith))
      | no z ↦ by_first (omega arith) (elim (ℕ_discrete q.begun 1) [
        | yes y ↦ (let v : 0 < unread_below q.places 1 = rw y at u in bit_one _ (omega arith))
        | no y ↦ (let a : awaits (place_at q 0) ≡ true = st.older 0 (omega arith) in
            let m : ltb 0 (place_at q 0).words ≡ true = search (and_l, and_r) in
            let r : not (place_at q 0).read ≡ true = search (and_l, and_r) in
            rw (m, r) refl)
      ])
    ]
  where
    by_first : 0 < q.begun → (ltb 0 (place_at q 0).words && not (place_at q 0).read) ≡ true → Oldest q
    by_first h t =
        let c : claimed q ≡ 0 = head_take q.places q.begun h (omega arith) t in
        record { some = h; claimed_is = c; claim = rw c (lt-ltb 0 q.begun h); bit_is = rw t refl }

-- what a tick's reader leaves: the places still to be read, and whether the command being read is one of theirs
pub record Reads (q : Queue) (e : Ear) (less : ℕ) (inside : ℕ) (t : Taken) : Type 0 where
  pub left : unread t.queue + less ≡ unread q
  pub ear : t.receiving.reader.ear ≡ e
  pub belongs : inside ≡ 1 → t.receiving.reader.belongs ≡ true

module _ (r : Receiving) (q : Queue) (f : Flags) (k : QueueFit q) (eight : length q.places ≡ 8) (st : Standing q) where
  fits : q.begun ≤ 8
  fits = omega (arith, k.order, k.most)

  word_unread : (x : ℕ) → unread (word_read r.reader.belongs q x) ≡ unread q
  unfolding word_read
  word_unread x =
      pick_keeps (λ (p : Queue). unread p ≡ unread q) _ _ _
      (λ t. let c : claimed q < q.begun = ltb-true _ _ (and_r r.reader.belongs _ t) in
      omega (arith, unread_set q (claimed q) (place_word (place_at q (claimed q)) x) q.begun c (omega (arith, fits))))
      (λ t. refl)

  word_reads : (e : Ear) (x : ℕ) → r.reader.belongs ≡ true → Reads q e 0 1 (word_taken r q f e x)
  unfolding word_taken
  word_reads e x b =
      let u : unread (word_read r.reader.belongs q x) + 0 ≡ unread q = omega (arith, word_unread x) in
      pick_keeps (Reads q e 0 1) _ _ _
      (λ s. pick_keeps (Reads q e 0 1) _ _ _ (λ m. record { left = u; ear = refl; belongs = λ z. b }) (λ m. record { left = u; ear = refl; belongs = λ z. b }))
      (λ s. record { left = u; ear = refl; belongs = λ z. b })

  end_unread : r.reader.belongs ≡ true → 0 < unread q → unread (end_read r.reader.belongs q).queue + 1 ≡ unread q
  unfolding end_read val pick
  end_unread b u =
      let o : Oldest q = oldest_unread q k eight st u in
      let n : 0 < q.begun = o.some in
      let h : unread (returned q 0 (place_read (place_at q 0))).queue + unread_bit (place_at q 0) ≡ unread q + unread_bit (place_read (place_at q 0))
      = unread_returned q 0 (place_read (place_at q 0)) n fits eight in
      let z : unread_bit (place_read (place_at q 0)) ≡ 0 = none (ltb 0 (place_at q 0).words) in
      rw (b, o.claim, o.claimed_is) (omega (arith, h, z, o.bit_is))
    where
      none : (t : Bool) → val (t && false) ≡ 0
      none true = refl
      none false = refl

  -- by what the bit completed, with n commands begun whose bits have not come back, this one counted
  reader_reads : (e : Ear) (found : Found) (j inside after n : ℕ) → Finds found j inside after → (inside ≡ 1 → r.reader.belongs ≡ true)
      → unread q ≡ inside + (j + n) → Reads q e ((inside + j) - after) after (taken_by found r q f e)
  unfolding taken_by
  reader_reads e found j inside after n (nothing _) b u = record { left = omega arith; ear = refl; belongs = b }
  reader_reads e found j inside after n starts b u =
      record { left = omega arith; ear = unfold began in refl; belongs = λ z. unfold began in (oldest_unread q k eight st (omega arith)).claim }
  reader_reads e found j inside after n (words x) b u = word_reads e x (b refl)
  reader_reads e found j inside after n ends b u =
      record { left = unfold ended in end_unread (b refl) (omega arith); ear = unfold ended at_end in refl; belongs = λ z. absurd (omega arith) }

  pub reader_tick : (sin : Bool) (j inside after n : ℕ) → Finds (hear r.reader.ear sin).found j inside after → (inside ≡ 1 → r.reader.belongs ≡ true)
      → unread q ≡ inside + (j + n) → Reads q (hear r.reader.ear sin).ear ((inside + j) - after) after (tick_reader r q f sin)
  unfolding tick_reader
  reader_tick sin j inside after n d b u = reader_reads _ _ j inside after n d b u
