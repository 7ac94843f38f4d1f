-- A place that is sent, or read back, keeps what the others mean: it is given back with its mark, or freed (01 The line). Assumes nothing.
use mathlib.Core.Path.{◌≡◌, refl, sym, ◌∙◌, ap}
use mathlib.Core.Bool.{Bool, true, false, not, ◌&&◌, ◌||◌}
use mathlib.Core.List.{List, [], ◌∷◌}
use Prim.Native.Nat.{ℕ, suc, ◌+◌, ◌-◌, ◌≤◌, ◌<◌}
use native.Mathlib.Omega.{arith}
use lib.Dec.{ltb, eqb}
use lib.ListN.{length, take}
use borrow.Author.Tests.{ltb-true, ltb-false, lt-ltb, eqb-true, eqb-false, not-true}
use Rattle.base.specs.Pick.{pick, pick_keeps, and_l, and_r}
use Rattle.rules.specs.Facts.{Standing}
use Rattle.place_rules.specs.Places.{awaits}
use Rattle.line_rules.specs.Line.{is_unread}
use Rattle.state.specs.Facts.{QueueFit}
use Rattle.state.specs.Queue.{place_at, with_place, under_way, freed, first_unread, claimed, is_done, returned, last_begun, speaks, speaking, new_place, places_of}
use Rattle.state.specs.declared.Place.{Place}
use Rattle.state.specs.declared.Queue.{Queue}
use Rattle.state.specs.declared.Returned.{Returned}
use Rattle.kept.proofs.Queue.{freed_below, freed_above, begun_freed, used_freed}
use Rattle.base.specs.Truth.{never, none_left, and_none}
use Rattle.queue.proofs.Laws.{some_place}
use Rattle.kept.proofs.Standing.{awaits_sent, awaits_ended, awaits_undone, other_place, same_place, as_it_was, words_freed, Steady, Unread, unread_by}
use Rattle.kept.proofs.InUse.{one_endless, one_wordless, same_places, in_use_put, in_use_freed}

-- 1. The command under way is sent, or its words are.

-- what waits is as it was, none is under way any more, and the oldest is unread where it was
pub record Rests (q r : Queue) : Type 0 where
  pub standing : Standing r
  pub rest : under_way r ≡ false
  pub unread : Unread q r

-- its ENDs are still under way
pub record Spoken (q r : Queue) : Type 0 where
  pub standing : Standing r
  pub busy : under_way r ≡ true
  pub silent : speaking r ≡ false
  pub ends : (last_begun r).ends ≡ (last_begun q).ends
  pub unread : Unread q r

module _ (q : Queue) (f : QueueFit q) (l : length q.places ≡ 8) (s : Standing q) (z : 0 < q.begun) where
  -- another in its place
  module _ (x : Place) where
    back : place_at (with_place q (q.begun - 1) x) (q.begun - 1) ≡ x
    back = same_place q (q.begun - 1) x (omega (arith, f.order, f.most))

    put_standing : is_done x ≡ false → places_of x ≤ places_of (last_begun q) → Standing (with_place q (q.begun - 1) x)
    put_standing e n = record {
      older = λ k b. rw (other_place q (q.begun - 1) x k (λ y. absurd (omega arith))) (s.older k b);
      youngest = λ b. rw back e;
      fresh = λ k b u. rw (other_place q (q.begun - 1) x k (λ y. absurd (omega arith))) (s.fresh k b u);
      eight = omega (arith, s.eight, in_use_put q (q.begun - 1) x n);
    }

    put_unread : (is_unread q ≡ true → q.begun - 1 ≡ 0 → (x.words ≡ (last_begun q).words) × (x.read ≡ (last_begun q).read) × (x.store ≡ (last_begun q).store))
        → Unread q (with_place q (q.begun - 1) x)
    put_unread a u = go (eqb (q.begun - 1) 0) refl
      where
        go : (b : Bool) → eqb (q.begun - 1) 0 ≡ b
            → (is_unread (with_place q (q.begun - 1) x) ≡ true) × ((place_at (with_place q (q.begun - 1) x) 0).store ≡ (place_at q 0).store)
        go true h =
            let n : q.begun - 1 ≡ 0 = eqb-true _ _ h in
            let y : place_at (with_place q (q.begun - 1) x) 0 ≡ x = ap (place_at (with_place q (q.begun - 1) x)) (sym n) ∙ back in
            let c = a u n in
            unread_by q (with_place q (q.begun - 1) x) z (rw y (rw n at c.0)) (rw y (rw n at c.1)) (rw y (rw n at c.2)) u
        go false h =
            let m = eqb-false _ _ h in
            let y : place_at (with_place q (q.begun - 1) x) 0 ≡ place_at q 0 = other_place q (q.begun - 1) x 0 (λ v. m (sym v)) in
            unread_by q (with_place q (q.begun - 1) x) z (rw y) (rw y) (rw y) u

  last_freed : 0 < q.begun - 1 → last_begun (freed q (q.begun - 1)) ≡ place_at q (q.begun - 1 - 1)
  last_freed b =
      ap (λ (n : ℕ). place_at (freed q (q.begun - 1)) (n - 1)) (begun_freed q (q.begun - 1))
      ∙ freed_below q (q.begun - 1) (q.begun - 1 - 1) (omega (arith, f.order, f.most)) (omega arith)

  last_awaits : 0 < q.begun - 1 → awaits (place_at q (q.begun - 1 - 1)) ≡ true
  last_awaits b = s.older (q.begun - 1 - 1) (omega arith)

  freed_standing : Standing (freed q (q.begun - 1))
  freed_standing = record {
    older = λ k b.
        let c : suc k < q.begun - 1 = rw begun_freed at b in
        rw (freed_below q (q.begun - 1) k (omega (arith, f.order, f.most)) (omega arith)) (s.older k (omega arith));
    youngest = λ b.
        let c : 0 < q.begun - 1 = rw begun_freed at b in
        rw (last_freed c) (awaits_undone (place_at q (q.begun - 1 - 1)) (last_awaits c));
    fresh = λ k b u.
        let c : q.begun - 1 ≤ k = rw begun_freed at b in
        let v : k < q.used - 1 = rw used_freed at u in
        rw (freed_above q (q.begun - 1) k (omega (arith, f.most)) c) (s.fresh (suc k) (omega arith) (omega arith));
    eight = omega (arith, s.eight, in_use_freed q (q.begun - 1) f l (omega arith));
  }

  freed_rest : under_way (freed q (q.begun - 1)) ≡ false
  freed_rest = rw begun_freed (go (ltb 0 (q.begun - 1)) refl)
    where
      go : (b : Bool) → ltb 0 (q.begun - 1) ≡ b
          → (b && (not (place_at (freed q (q.begun - 1)) (q.begun - 1 - 1)).sent || ltb 0 (place_at (freed q (q.begun - 1)) (q.begun - 1 - 1)).ends)) ≡ false
      go true e =
          let c : 0 < q.begun - 1 = ltb-true _ _ e in
          let y = last_awaits c in
          rw (
            freed_below q (q.begun - 1) (q.begun - 1 - 1) (omega (arith, f.order, f.most)) (omega arith),
            awaits_sent (place_at q (q.begun - 1 - 1)) y,
            awaits_ended (place_at q (q.begun - 1 - 1)) y,
          )
      go false e = refl

  module _ (p : Place) (t : p.sent ≡ true) (w : p.words ≡ (last_begun q).words) (d : p.read ≡ (last_begun q).read) (o : p.store ≡ (last_begun q).store) where
    -- a place that is done is not the oldest unread
    not_alone : is_done p ≡ true → is_unread q ≡ true → 0 < q.begun - 1
    not_alone e u = go (ltb 0 (q.begun - 1)) refl
      where
        unread : (r : Bool) (n : ℕ) → (r || eqb n 0) ≡ true → 0 < n → not r ≡ true → ⊥
        unread r n h k m =
            let a : r ≡ false = not-true r m in
            let b : n ≡ 0 = eqb-true n 0 (rw a at h) in omega arith

        go : (b : Bool) → ltb 0 (q.begun - 1) ≡ b → 0 < q.begun - 1
        go true h = ltb-true _ _ h
        go false h =
            let i : q.begun - 1 ≤ 0 = ltb-false _ _ h in
            let n : q.begun - 1 ≡ 0 = omega arith in
            let k : 0 < (place_at q 0).words = ltb-true _ _ (search (and_l, and_r)) in
            let m : not (place_at q 0).read ≡ true = search (and_l, and_r) in
            let wn : p.words ≡ (place_at q 0).words = rw n at w in
            let dn : p.read ≡ (place_at q 0).read = rw n at d in
            absurd (unread (place_at q 0).read (place_at q 0).words (rw (wn, dn) at (and_r p.sent _ e)) k m)

    freed_unread : is_done p ≡ true → Unread q (freed q (q.begun - 1))
    freed_unread e u =
        let c : 0 < q.begun - 1 = not_alone e u in
        let x = freed_below q (q.begun - 1) 0 (omega arith) c in
        unread_by q (freed q (q.begun - 1)) (rw begun_freed c) (rw x) (rw x) (rw x) u

    module _ (n : p.ends ≡ 0) where
      marked_rests : is_done p ≡ false → Rests q (with_place q (q.begun - 1) p)
      marked_rests e = record {
        standing = put_standing p e (omega (arith, one_endless p n, some_place (last_begun q)));
        rest = rw (back p, t, n, lt-ltb 0 q.begun z);
        unread = put_unread p (λ u y. (w, d, o));
      }

      pub sent_rests : Rests q (returned q (q.begun - 1) p).queue
      unfolding returned
      sent_rests =
          pick_keeps (λ (r : Returned). Rests q r.queue) (is_done p) _ _
          (λ e. pick_keeps (Rests q) (ltb 0 p.ends) _ _ (λ b. let c : 0 < p.ends = ltb-true _ _ b in absurd (omega arith))
          (λ b. record { standing = freed_standing; rest = freed_rest; unread = freed_unread e }))
          (λ e. marked_rests e)

    module _ (m : p.ends ≡ (last_begun q).ends) (more : 0 < (last_begun q).ends) where
      abbrev ends_left : Place
      ends_left = new_place 0 p.ends false

      words_left : is_done p ≡ true → Spoken q (with_place q (q.begun - 1) ends_left)
      unfolding new_place
      words_left e = record {
        standing = put_standing ends_left refl (omega (arith, one_wordless ends_left refl, some_place (last_begun q)));
        busy = rw (back ends_left, lt-ltb 0 q.begun z);
        silent = rw (back ends_left, lt-ltb 0 q.begun z);
        ends = rw (back ends_left) m;
        unread = put_unread ends_left (λ u y. let c : 0 < q.begun - 1 = not_alone e u in absurd (omega arith));
      }

      words_marked : is_done p ≡ false → Spoken q (with_place q (q.begun - 1) p)
      words_marked e = record {
        standing = put_standing p e (omega (arith, same_places p (last_begun q) w m));
        busy = rw (back p, t, m, lt-ltb 0 (last_begun q).ends more, lt-ltb 0 q.begun z);
        silent = rw (back p, t, lt-ltb 0 q.begun z) (and_none (ltb 0 p.words) false refl);
        ends = rw (back p) m;
        unread = put_unread p (λ u y. (w, d, o));
      }

      pub words_spoken : Spoken q (returned q (q.begun - 1) p).queue
      unfolding returned
      words_spoken =
          pick_keeps (λ (r : Returned). Spoken q r.queue) (is_done p) _ _
          (λ e. pick_keeps (Spoken q) (ltb 0 p.ends) _ _ (λ b. words_left e)
          (λ b. let c : p.ends ≤ 0 = ltb-false _ _ b in absurd (omega arith)))
          (λ e. words_marked e)

-- 2. The oldest place is read back.

module _ (q : Queue) (f : QueueFit q) (l : length q.places ≡ 8) (s : Standing q) (z : 0 < q.begun) (p : Place) (r : p.read ≡ true)
    (t : p.sent ≡ (place_at q 0).sent) (w : p.words ≡ (place_at q 0).words) (e : p.ends ≡ (place_at q 0).ends) where
  next_freed : (k : ℕ) → k < 8 → place_at (freed q 0) k ≡ place_at q (suc k)
  next_freed k b = freed_above q 0 k b (omega arith)

  first_freed : is_done p ≡ true → p.ends ≡ 0 → Steady q (freed q 0)
  first_freed d o = record {
    standing = record {
      older = λ k b.
          let c : suc k < q.begun - 1 = rw begun_freed at b in
          rw (next_freed k (omega (arith, f.order, f.most))) (s.older (suc k) (omega arith));
      youngest = λ b. let c : 0 < q.begun - 1 = rw begun_freed at b in rw (last_is c) (s.youngest z);
      fresh = λ k b u.
          let c : q.begun - 1 ≤ k = rw begun_freed at b in
          let v : k < q.used - 1 = rw used_freed at u in
          rw (next_freed k (omega (arith, f.most))) (s.fresh (suc k) (omega arith) (omega arith));
      eight = omega (arith, s.eight, in_use_freed q 0 f l z);
    };
    busy = at_last (λ (x : Place). not x.sent || ltb 0 x.ends) (rw (sent_first, ended_first));
    speech = at_last speaks (rw sent_first (and_none (ltb 0 (place_at q 0).words) false refl));
    last = λ b. let c : 0 < q.begun - 1 = several b in rw (last_is c) (as_it_was refl refl refl);
  }
    where
      sent_first : (place_at q 0).sent ≡ true
      sent_first = sym t ∙ and_l p.sent _ d

      ended_first : (place_at q 0).ends ≡ 0
      ended_first = sym e ∙ o

      last_is : 0 < q.begun - 1 → last_begun (freed q 0) ≡ last_begun q
      last_is c =
          let n : suc (q.begun - 1 - 1) ≡ q.begun - 1 = omega arith in
          ap (λ (m : ℕ). place_at (freed q 0) (m - 1)) (begun_freed q 0)
          ∙ next_freed (q.begun - 1 - 1) (omega (arith, f.order, f.most)) ∙ ap (place_at q) n

      -- the oldest is sent; under way it would be the only one
      several : under_way q ≡ true → 0 < q.begun - 1
      several b = many (ltb 0 (q.begun - 1)) refl
        where
          many : (g : Bool) → ltb 0 (q.begun - 1) ≡ g → 0 < q.begun - 1
          many true h = ltb-true _ _ h
          many false h =
              let i : q.begun - 1 ≤ 0 = ltb-false _ _ h in
              let n : q.begun - 1 ≡ 0 = omega arith in
              let x : (not (place_at q 0).sent || ltb 0 (place_at q 0).ends) ≡ true = rw n at (and_r (ltb 0 q.begun) _ b) in
              let y : false ≡ true = rw (sent_first, ended_first) at x in never false y refl

      at_last : (T : Place → Bool) → T (place_at q 0) ≡ false
          → (ltb 0 (freed q 0).begun && T (last_begun (freed q 0))) ≡ (ltb 0 q.begun && T (last_begun q))
      at_last T n = go (ltb 0 (q.begun - 1)) refl
        where
          go : (b : Bool) → ltb 0 (q.begun - 1) ≡ b
              → (ltb 0 (freed q 0).begun && T (last_begun (freed q 0))) ≡ (ltb 0 q.begun && T (last_begun q))
          go true h =
              let c : 0 < q.begun - 1 = ltb-true _ _ h in
              rw (last_is c, begun_freed, h, lt-ltb 0 q.begun z)
          go false h =
              let i : q.begun - 1 ≤ 0 = ltb-false _ _ h in
              let m : q.begun - 1 ≡ 0 = omega arith in
              rw (begun_freed, h, m, n, lt-ltb 0 q.begun z)

  -- with ENDs still to send it is the only one that has begun
  only : 0 < p.ends → q.begun ≡ 1
  only m = go (ltb 1 q.begun) refl
    where
      go : (b : Bool) → ltb 1 q.begun ≡ b → q.begun ≡ 1
      go true h = let x : (place_at q 0).ends ≡ 0 = awaits_ended (place_at q 0) (s.older 0 (ltb-true _ _ h)) in absurd (omega arith)
      go false h = let i : q.begun ≤ 1 = ltb-false _ _ h in omega arith

  abbrev its_ends : Place
  its_ends = new_place 0 p.ends false

  first_left : is_done p ≡ true → 0 < p.ends → Steady q (with_place q 0 its_ends)
  unfolding new_place
  first_left d m =
      let n : q.begun ≡ 1 = only m in
      let i : q.begun - 1 ≡ 0 = omega arith in
      let x : place_at (with_place q 0 its_ends) 0 ≡ its_ends = same_place q 0 its_ends (omega arith) in
      let g : (place_at q 0).sent ≡ true = sym t ∙ and_l p.sent _ d in
      let h : ltb 0 (place_at q 0).ends ≡ true = lt-ltb 0 (place_at q 0).ends (omega arith) in
      record {
        standing = record {
          older = λ k b. absurd (omega arith);
          youngest = λ b. rw (i, x);
          fresh = λ k b u. rw (other_place q 0 its_ends k (λ y. absurd (omega arith))) (s.fresh k b u);
          eight = omega (arith, s.eight, in_use_put q 0 its_ends (omega (arith, one_wordless its_ends refl, some_place (place_at q 0))));
        };
        busy = rw (i, x, g, h);
        speech = rw (i, x, g) (and_none (ltb 0 q.begun) false refl ∙ sym (and_none (ltb 0 q.begun) _ (and_none (ltb 0 (place_at q 0).words) false refl)));
        last = λ b. rw (i, x) (words_freed g refl e);
      }

  alone : is_done p ≡ false → q.begun ≡ 1
  alone d = go (ltb 1 q.begun) refl
    where
      go : (b : Bool) → ltb 1 q.begun ≡ b → q.begun ≡ 1
      go true h =
          let x : p.sent ≡ true = t ∙ awaits_sent (place_at q 0) (s.older 0 (ltb-true _ _ h)) in
          never (is_done p) (rw (x, r)) d
      go false h = let i : q.begun ≤ 1 = ltb-false _ _ h in omega arith

  first_marked : is_done p ≡ false → Steady q (with_place q 0 p)
  first_marked d =
      let n : q.begun ≡ 1 = alone d in
      let m : q.begun - 1 ≡ 0 = omega arith in
      let x : place_at (with_place q 0 p) 0 ≡ p = same_place q 0 p (omega arith) in
      record {
        standing = record {
          older = λ k b. absurd (omega arith);
          youngest = λ b. rw (m, x) d;
          fresh = λ k b u. rw (other_place q 0 p k (λ y. absurd (omega arith))) (s.fresh k b u);
          eight = omega (arith, s.eight, in_use_put q 0 p (omega (arith, same_places p (place_at q 0) w e)));
        };
        busy = rw (m, x, t, e);
        speech = rw (m, x, t, w);
        last = λ b. rw (m, x) (as_it_was w e t);
      }

  pub read_steady : Steady q (returned q 0 p).queue
  unfolding returned
  read_steady =
      pick_keeps (λ (x : Returned). Steady q x.queue) (is_done p) _ _
      (λ d. pick_keeps (Steady q) (ltb 0 p.ends) _ _ (λ b. first_left d (ltb-true _ _ b)) (λ b. first_freed d (none_left _ b)))
      (λ d. first_marked d)

-- 3. "the oldest place with words that has begun sending and is not yet read" is the oldest that has begun, or there is none.

first_is : (n : ℕ) (p : Place) (ps : List Place) → first_unread (take (suc n) (p ∷ ps)) ≡ pick (ltb 0 p.words && not p.read) 0 (first_unread (take n ps) + 1)
unfolding first_unread
first_is n p ps = refl

module _ (q : Queue) (l : length q.places ≡ 8) (s : Standing q) (h : claimed q < q.begun) where
  heads : (n : ℕ) (ps : List Place) → q.begun ≡ suc n → q.places ≡ ps → (claimed q ≡ 0) × (is_unread q ≡ true)
  unfolding claimed pick
  heads n [] b e = let x : ◌≡◌ {A = ℕ} 0 8 = rw e at l in absurd (omega arith)
  heads n (p ∷ ps) b e = go (ltb 0 p.words && not p.read) refl
    where
      at : place_at q 0 ≡ p
      at = rw e

      is : claimed q ≡ pick (ltb 0 p.words && not p.read) 0 (first_unread (take n ps) + 1)
      is = rw (b, e) (first_is n p ps)

      go : (t : Bool) → (ltb 0 p.words && not p.read) ≡ t → (claimed q ≡ 0) × (is_unread q ≡ true)
      go true k =
          let a : ltb 0 p.words ≡ true = and_l _ (not p.read) k in
          let c : not p.read ≡ true = and_r (ltb 0 p.words) _ k in
          (rw k at is, rw (at, a, c, lt-ltb 0 q.begun (omega arith)))
      go false k =
          let x : claimed q ≡ first_unread (take n ps) + 1 = rw k at is in
          let y : 1 < q.begun = omega arith in
          let a : awaits p ≡ true = rw at at (s.older 0 y) in
          let m : ltb 0 p.words ≡ true = search (and_l, and_r) in
          let o : not p.read ≡ true = search (and_l, and_r) in
          let c : (ltb 0 p.words && not p.read) ≡ true = rw (m, o) in
          never _ c k

  pub claim_first : (claimed q ≡ 0) × (is_unread q ≡ true)
  claim_first = let b : q.begun ≡ suc (q.begun - 1) = omega arith in heads (q.begun - 1) q.places b refl
