-- What the places mean, and what of it each operation on the queue keeps (01 The line, "it is freed when sent and read back"). Assumes nothing.
use mathlib.Core.Path.{◌≡◌, refl, ◌∙◌}
use mathlib.Core.Bool.{Bool, true, false, not, ◌&&◌, ◌||◌}
use mathlib.Core.Logic.{◌≢◌}
use Prim.Native.Nat.{ℕ, zero, suc, ◌+◌, ◌-◌, ◌≤◌, ◌<◌}
use native.Mathlib.Omega.{arith}
use lib.Dec.{ltb, eqb}
use lib.ListN.{length}
use lib.Seq.{get_or-set_same, get_or-set_other}
use borrow.Author.Tests.{ltb-true, ltb-false, lt-ltb, eqb-true, eqb-false, ne_eqb, not-true}
use Rattle.base.specs.Pick.{and_l, and_r}
use Rattle.base.specs.Truth.{never, none_left, and_none}
use Rattle.rules.specs.Facts.{Standing}
use Rattle.place_rules.specs.Places.{is_fresh, waits, awaits}
use Rattle.line_rules.specs.Line.{is_unread}
use Rattle.state.specs.Facts.{QueueFit}
use Rattle.state.specs.Queue.{no_place, place_at, with_place, queued, begun_one, emptied_queue, under_way, is_done, last_begun, speaks, speaking, places_of, places_in, in_use}
use Rattle.state.specs.declared.Place.{Place}
use Rattle.state.specs.declared.Queue.{Queue}
use Rattle.queue.proofs.Laws.{busy_begun}
use Rattle.kept.proofs.InUse.{same_places, in_use_put, in_use_queued}

-- 1. The three meanings of a place.

pub awaits_sent : (p : Place) → awaits p ≡ true → p.sent ≡ true
awaits_sent p h = search (and_l, and_r)

pub awaits_ended : (p : Place) → awaits p ≡ true → p.ends ≡ 0
awaits_ended p h = eqb-true _ _ (search (and_l, and_r))

pub awaits_undone : (p : Place) → awaits p ≡ true → is_done p ≡ false
awaits_undone p h =
    let s : p.sent ≡ true = search (and_l, and_r) in
    let r : p.read ≡ false = not-true _ (search (and_l, and_r)) in
    let w : 0 < p.words = ltb-true _ _ (search (and_l, and_r)) in
    let z : eqb p.words 0 ≡ false = ne_eqb p.words 0 (λ e. absurd (omega arith)) in
    rw (s, r, z)

-- sent and not done: it awaits its reading
pub undone_awaits : (p : Place) → p.sent ≡ true → p.ends ≡ 0 → is_done p ≡ false → awaits p ≡ true
undone_awaits p s o d = go p.read p.words (rw s at d)
  where
    go : (r : Bool) (n : ℕ) → (r || eqb n 0) ≡ false → (p.sent && not r && ltb 0 n && eqb p.ends 0) ≡ true
    go true n e = cc
    go false zero e = cc
    go false (suc n) e = rw (s, o, lt-ltb 0 (suc n) (omega arith))

unsent_undone : (p : Place) → p.sent ≡ false → is_done p ≡ false
unsent_undone p s = rw s

pub waits_unsent : (p : Place) → waits p ≡ true → p.sent ≡ false
waits_unsent p h = not-true _ (search (and_l, and_r))

-- one that waits without words has ENDs
pub waits_ends : (p : Place) → waits p ≡ true → p.words ≡ 0 → 0 < p.ends
waits_ends p h w = let s : 0 < p.words + p.ends = ltb-true _ _ (and_l _ (is_fresh p) h) in omega arith

-- 2. Places one by one.

module _ (q : Queue) (i : ℕ) (p : Place) where
  pub other_place : (k : ℕ) → k ≢ i → place_at (with_place q i p) k ≡ place_at q k
  other_place k h = get_or-set_other q.places i k p no_place h

  pub same_place : i < length q.places → place_at (with_place q i p) i ≡ p
  same_place h = get_or-set_same q.places i p no_place h

-- 3. What the operations on places that have begun keep: their meaning, the command under way, and the oldest place where it is unread.

-- of the command under way: what it has still to send is as it was; or, its words sent, their place is freed
pub data Onward (p o : Place) : Type 0 where
  as_it_was : o.words ≡ p.words → o.ends ≡ p.ends → o.sent ≡ p.sent → Onward p o
  words_freed : p.sent ≡ true → o.words ≡ 0 → o.ends ≡ p.ends → Onward p o

pub record Steady (q r : Queue) : Type 0 where
  pub standing : Standing r
  pub busy : under_way r ≡ under_way q
  pub speech : speaking r ≡ speaking q
  pub last : under_way q ≡ true → Onward (last_begun q) (last_begun r)

-- words that are not sent are under way
pub silent_rest : (q : Queue) → under_way q ≡ false → speaking q ≡ false
silent_rest q h = go (ltb 0 q.begun) (last_begun q).sent (last_begun q).ends h
  where
    go : (b t : Bool) (n : ℕ) → (b && (not t || ltb 0 n)) ≡ false → (b && (ltb 0 (last_begun q).words && not t)) ≡ false
    go true true n e = and_none (ltb 0 (last_begun q).words) false refl
    go true false n e = cc
    go false t n e = refl

abbrev pub Unread : Queue → Queue → Type 0
Unread q r = is_unread q ≡ true → (is_unread r ≡ true) × ((place_at r 0).store ≡ (place_at q 0).store)

pub speaks_busy : (q : Queue) → speaking q ≡ true → under_way q ≡ true
speaks_busy q h = go (under_way q) refl
  where
    go : (t : Bool) → under_way q ≡ t → t ≡ true
    go true e = refl
    go false e = never (speaking q) h (silent_rest q e)

pub steady_same : (q : Queue) → Standing q → Steady q q
steady_same q s = record { standing = s; busy = refl; speech = refl; last = λ h. as_it_was refl refl refl }

pub unread_same : (q : Queue) → Unread q q
unread_same q h = (h, refl)

pub unread_trans : (q r s : Queue) → Unread q r → Unread r s → Unread q s
unread_trans q r s a b h = ((b (a h).0).0, (b (a h).0).1 ∙ (a h).1)

pub unread_begun : (q : Queue) → is_unread q ≡ true → 0 < q.begun
unread_begun q h = ltb-true _ _ (search (and_l, and_r))

-- the oldest place's fields decide it
pub unread_by : (q r : Queue) → 0 < r.begun → (place_at r 0).words ≡ (place_at q 0).words → (place_at r 0).read ≡ (place_at q 0).read
    → (place_at r 0).store ≡ (place_at q 0).store → Unread q r
unread_by q r b w d s h =
    let k : ltb 0 (place_at q 0).words ≡ true = search (and_l, and_r) in
    let m : not (place_at q 0).read ≡ true = search (and_l, and_r) in
    (rw (lt-ltb 0 r.begun b, w, d, k, m), s)

-- 4. New marks that leave sent, read, words, ENDs and store.
pub record Alike (p o : Place) : Type 0 where
  pub words : p.words ≡ o.words
  pub ends : p.ends ≡ o.ends
  pub sent : p.sent ≡ o.sent
  pub read : p.read ≡ o.read
  pub store : p.store ≡ o.store

alike_same : (p o : Place) → p ≡ o → Alike p o
alike_same p o e = record { words = rw e; ends = rw e; sent = rw e; read = rw e; store = rw e }

module _ (q : Queue) (i : ℕ) (p : Place) (f : QueueFit q) (l : length q.places ≡ 8) (h : i < q.begun) (a : Alike p (place_at q i)) where
  alike_at : (k : ℕ) → Alike (place_at (with_place q i p) k) (place_at q k)
  alike_at k = go (eqb k i) refl
    where
      go : (t : Bool) → eqb k i ≡ t → Alike (place_at (with_place q i p) k) (place_at q k)
      go true e =
          let n : k ≡ i = eqb-true k i e in
          rw (n, same_place q i p (omega (arith, f.order, f.most))) a
      go false e = alike_same _ _ (other_place q i p k (eqb-false k i e))

  pub marked_steady : Standing q → Steady q (with_place q i p)
  marked_steady s = record {
    standing = record {
      older = λ k b. let o = alike_at k in rw (o.sent, o.read, o.words, o.ends) (s.older k b);
      youngest = λ b. let o = alike_at (q.begun - 1) in rw (o.sent, o.read, o.words) (s.youngest b);
      fresh = λ k b u. rw (other_place q i p k (λ e. absurd (omega arith))) (s.fresh k b u);
      eight = omega (arith, s.eight, in_use_put q i p (omega (arith, same_places p (place_at q i) a.words a.ends)));
    };
    busy = let o = alike_at (q.begun - 1) in rw (o.sent, o.ends);
    speech = let o = alike_at (q.begun - 1) in rw (o.words, o.sent);
    last = λ b. let o = alike_at (q.begun - 1) in as_it_was o.words o.ends o.sent;
  }

  pub marked_unread : Unread q (with_place q i p)
  marked_unread = let o = alike_at 0 in unread_by q (with_place q i p) (omega arith) o.words o.read o.store

-- 5. A command queued, begun; the queue emptied.
module _ (q : Queue) (f : QueueFit q) (l : length q.places ≡ 8) (s : Standing q) where
  module _ (p : Place) (h : q.used < 8) (w : waits p ≡ true) (n : in_use q + places_of p ≤ 8) where
    queued_other : (k : ℕ) → k < q.used → place_at (queued q p) k ≡ place_at q k
    queued_other k b = get_or-set_other q.places q.used k p no_place (λ e. absurd (omega arith))

    pub queued_steady : Steady q (queued q p)
    queued_steady = record {
      standing = record {
        older = λ k b. rw (queued_other k (omega (arith, f.order))) (s.older k b);
        youngest = λ b. rw (queued_other (q.begun - 1) (omega (arith, f.order))) (s.youngest b);
        fresh = λ k b u. go k b u (ltb k q.used) refl;
        eight = rw (in_use_queued q p l h) n;
      };
      busy = at_last (λ (x : Place). not x.sent || ltb 0 x.ends) q.begun refl;
      speech = at_last speaks q.begun refl;
      last = λ b. let z : 0 < q.begun = busy_begun q b in
          rw (queued_other (q.begun - 1) (omega (arith, f.order))) (as_it_was refl refl refl);
    }
      where
        go : (k : ℕ) → q.begun ≤ k → k < q.used + 1 → (t : Bool) → ltb k q.used ≡ t → waits (place_at (queued q p) k) ≡ true
        go k b u true e = rw (queued_other k (ltb-true _ _ e)) (s.fresh k b (ltb-true _ _ e))
        go k b u false e =
            let d : q.used ≤ k = ltb-false _ _ e in
            let n : k ≡ q.used = omega arith in
            rw (n, get_or-set_same q.places q.used p no_place (omega arith)) w

        at_last : (T : Place → Bool) (n : ℕ) → q.begun ≡ n
            → (ltb 0 q.begun && T (last_begun (queued q p))) ≡ (ltb 0 q.begun && T (last_begun q))
        at_last T zero e = rw e refl
        at_last T (suc n) e = rw (queued_other (q.begun - 1) (omega (arith, f.order)))

    pub queued_unread : Unread q (queued q p)
    queued_unread u =
        let z : 0 < q.begun = unread_begun q u in
        let e : place_at (queued q p) 0 ≡ place_at q 0 = queued_other 0 (omega (arith, f.order)) in
        unread_by q (queued q p) z (rw e) (rw e) (rw e) u

  -- not under way: what has begun is sent
  pub rested_awaits : under_way q ≡ false → 0 < q.begun → awaits (last_begun q) ≡ true
  rested_awaits u b = go (last_begun q).sent refl (rw (lt-ltb 0 q.begun b) at u)
    where
      go : (t : Bool) → (last_begun q).sent ≡ t → (not t || ltb 0 (last_begun q).ends) ≡ false → awaits (last_begun q) ≡ true
      go true h e = undone_awaits (last_begun q) h (none_left _ e) (s.youngest b)
      go false h e = cc

  module _ (h : q.begun < q.used) where
    pub begun_last : last_begun (begun_one q) ≡ place_at q q.begun
    begun_last = let e : q.begun + 1 - 1 ≡ q.begun = omega arith in rw e

    pub begun_standing : under_way q ≡ false → Standing (begun_one q)
    begun_standing u = record {
      older = λ k b. go k b (ltb (suc k) q.begun) refl;
      youngest = λ b. rw begun_last (unsent_undone (place_at q q.begun) (waits_unsent (place_at q q.begun) (s.fresh q.begun (omega arith) h)));
      fresh = λ k b c. s.fresh k (omega arith) c;
      eight = s.eight;
    }
      where
        go : (k : ℕ) → suc k < q.begun + 1 → (t : Bool) → ltb (suc k) q.begun ≡ t → awaits (place_at q k) ≡ true
        go k b true e = s.older k (ltb-true _ _ e)
        go k b false e =
            let d : q.begun ≤ suc k = ltb-false _ _ e in
            let z : 0 < q.begun = omega arith in
            let n : q.begun - 1 ≡ k = omega arith in
            rw n at (rested_awaits u z)

    pub begun_busy : under_way (begun_one q) ≡ true
    begun_busy =
        let w : (place_at q q.begun).sent ≡ false = waits_unsent (place_at q q.begun) (s.fresh q.begun (omega arith) h) in
        rw (begun_last, w, lt-ltb 0 (q.begun + 1) (omega arith))

    pub begun_unread : Unread q (begun_one q)
    begun_unread = unread_by q (begun_one q) (omega arith) refl refl refl

pub emptied_standing : (q : Queue) → Standing (emptied_queue q)
unfolding places_in
emptied_standing q = record {
  older = λ k b. absurd (omega arith);
  youngest = λ b. absurd (omega arith);
  fresh = λ k b u. absurd (omega arith);
  eight = omega arith;
}
