-- `SameBits`: what a tick sends is decided by TX, the sender and what waits, and no rule of places changes what waits. Assumes nothing.
use Rattle.std.specs.Prelude.{Option}
use mathlib.Core.Path.{◌≡◌, refl, sym, ◌∙◌, ap, subst}
use mathlib.Core.Bool.{Bool, true, false, not}
use mathlib.Core.List.{List, [], ◌∷◌, ◌++◌}
use Prim.Native.Nat.{ℕ, ◌+◌, ◌-◌, ◌≤◌, ◌<◌}
use native.Mathlib.Omega.{arith}
use lib.Dec.{ltb}
use lib.ListN.{length}
use borrow.Author.Tests.{ltb-true, ltb-false, lt-ltb, le-ltb}
use Rattle.base.specs.Pick.{pick, pick_keeps, and_l, and_r}
use Rattle.state.specs.Facts.{QueueFit}
use Rattle.state.specs.Queue.{place_at, begun_one, emptied_queue, last_begun, waiting, is_done}
use Rattle.state.specs.Sending.{idle, stored, done}
use Rattle.state.specs.declared.Deed.{Deed}
use Rattle.state.specs.declared.Deed.TheVariants.{Leave, Enqueue, TakeBack, ClearAll, ResetAll}
use Rattle.state.specs.declared.Place.{Place}
use Rattle.state.specs.declared.Queue.{Queue}
use Rattle.state.specs.declared.Returned.{Returned}
use Rattle.state.specs.declared.Sending.{Sending}
use Rattle.next.specs.Next.{choose}
use Rattle.next.specs.declared.Next.{Next}
use Rattle.next.specs.declared.Next.TheVariants.{GoOn, LoadWord, Starve, LoadEnd, StartWords, StartEnds, Stay}
use Rattle.sender.specs.Sender.{queue_sent, sender_after, advanced, place_sent, sent_by, tick_sender}
use Rattle.kept.proofs.Queue.{Kept, kept_same, kept_marked, kept_freed, waiting_queued, waiting_begun, waiting_emptied, waiting_none, fit_queued, eight_queued, fit_begun, fit_emptied}
use Rattle.kept.proofs.Reader.{tick_reader_keeps}
use Rattle.kept.proofs.Sender.{Chosen, chosen, kept_sent, kept_finished}
use Rattle.same_bits.specs.OnePlace.{returned_as_one, finished_as_one, left_as_one, bit_as_one}
use Rattle.same_bits.specs.SameBits.{Fit, SameWait, Alike, Act, ticked, hosted, heard, Holds, with_queue, bits_now, bits_before, Allowed, SameBits}

-- 1. 01's rule of places keeps what waits.

kept_as_one : (q : Queue) (i : ℕ) (p : Place) → QueueFit q → length q.places ≡ 8 → i < q.begun → p.words ≤ (place_at q i).words → p.ends ≤ (place_at q i).ends
    → Kept q (returned_as_one q i p).queue
unfolding returned_as_one
kept_as_one q i p f l h w e =
    pick_keeps (λ (r : Returned). Kept q r.queue) (is_done p) _ _ (λ d. kept_freed q i f l h) (λ d. kept_marked q i p f l h w e)

kept_finished_as_one : (s : Sending) → QueueFit s.queue → length s.queue.places ≡ 8 → Kept s.queue (finished_as_one s).queue
unfolding finished_as_one
kept_finished_as_one s f l =
    pick_keeps (λ (r : Returned). Kept s.queue r.queue) _ _ _
    (λ b. let h : 0 < s.queue.begun = ltb-true _ _ (and_l _ (not (last_begun s.queue).sent) (and_r (idle s.sender) _ b)) in
    kept_as_one s.queue (s.queue.begun - 1) (place_sent (last_begun s.queue)) f l (omega arith) (unfold place_sent in omega arith)
    (unfold place_sent in omega arith))
    (λ b. kept_same s.queue f l)

-- 2. What waits first is what begins.

-- none waits, or this one first and those behind it
data Foremost (q : Queue) : List Place → Type 0 where
  none : q.used ≤ q.begun → Foremost q []
  first : (ps : List Place) → q.begun < q.used → waiting (begun_one q) ≡ ps → Foremost q (place_at q q.begun ∷ ps)

foremost : (q : Queue) → QueueFit q → length q.places ≡ 8 → Foremost q (waiting q)
foremost q f l = go (ltb q.begun q.used) refl
  where
    go : (t : Bool) → ltb q.begun q.used ≡ t → Foremost q (waiting q)
    go true e = rw (waiting_begun q f l (ltb-true _ _ e)) (first _ (ltb-true _ _ e) refl)
    go false e = rw (waiting_none q (ltb-false _ _ e)) (none (ltb-false _ _ e))

-- by what waits first: whether one may begin, and which
pub record Next-waits (q r : Queue) : Type 0 where
  pub some : ltb q.begun q.used ≡ ltb r.begun r.used
  pub which : q.begun < q.used → place_at q q.begun ≡ place_at r r.begun
  pub behind : q.begun < q.used → waiting (begun_one q) ≡ waiting (begun_one r)

next_waits : (q r : Queue) (ps qs : List Place) → Foremost q ps → Foremost r qs → ps ≡ qs → Next-waits q r
next_waits q r ps qs (none a) (none b) e =
    record { some = rw (le-ltb q.begun q.used a, le-ltb r.begun r.used b); which = λ h. absurd (omega arith); behind = λ h. absurd (omega arith) }
next_waits q r ps qs (none a) (first b h k) e = let z : ◌≡◌ {A = ℕ} (length {A = Place} []) (length (place_at r r.begun ∷ b)) = ap length e in absurd (omega arith)
next_waits q r ps qs (first a h k) (none b) e = let z : ◌≡◌ {A = ℕ} (length (place_at q q.begun ∷ a)) (length {A = Place} []) = ap length e in absurd (omega arith)
next_waits q r ps qs (first a h k) (first b g m) e =
    record {
      some = rw (lt-ltb q.begun q.used h, lt-ltb r.begun r.used g);
      which = λ x. head_of _ _ _ _ e;
      behind = λ x. k ∙ tail_of _ _ _ _ e ∙ sym m;
    }
  where
    head_of : (x y : Place) (xs ys : List Place) → x ∷ xs ≡ y ∷ ys → x ≡ y
    head_of x y xs ys z = ap (λ (l : List Place). from_head x l) z
      where
        from_head : Place → List Place → Place
        from_head d [] = d
        from_head d (v ∷ vs) = v

    tail_of : (x y : Place) (xs ys : List Place) → x ∷ xs ≡ y ∷ ys → xs ≡ ys
    tail_of x y xs ys z = ap tail z
      where
        tail : List Place → List Place
        tail [] = []
        tail (v ∷ vs) = vs

-- 3. A tick.

module _ (s t : Sending) (a : Alike s t) where
  waits_alike : Next-waits s.queue t.queue
  waits_alike =
      next_waits s.queue t.queue _ _ (foremost s.queue a.fits.ranges a.fits.eight) (foremost t.queue a.others_fit.ranges a.others_fit.eight)
      a.waits

  abbrev begins : Queue → Next
  begins q = pick (ltb q.begun q.used) (pick (ltb 0 (place_at q q.begun).words) StartWords StartEnds) Stay

  begins_alike : begins s.queue ≡ begins t.queue
  unfolding pick
  begins_alike = go (ltb s.queue.begun s.queue.used) refl
    where
      go : (b : Bool) → ltb s.queue.begun s.queue.used ≡ b → begins s.queue ≡ begins t.queue
      go true e = rw (waits_alike.which (ltb-true _ _ e), waits_alike.some) refl
      go false e = let f : ltb t.queue.begun t.queue.used ≡ false = sym waits_alike.some ∙ e in rw (e, f) refl

  choose_alike : (may : Bool) → choose s may ≡ choose t may
  unfolding choose
  choose_alike may = rw (a.tx, a.sender, begins_alike) refl

  advanced_alike : (n : Next) → Chosen s n → Chosen t n → (w : ℕ) → Alike (advanced n s w) (advanced n t w)
  unfolding advanced sender_after
  advanced_alike GoOn c d w = record { fits = a.fits; others_fit = a.others_fit; tx = a.tx; sender = rw a.sender; waits = a.waits }
  advanced_alike LoadWord c d w =
      let k : Kept s.queue (queue_sent s.queue s.sender.left w) = kept_sent s.queue s.sender.left w a.fits.ranges a.fits.eight in
      let m : Kept t.queue (queue_sent t.queue t.sender.left w) = kept_sent t.queue t.sender.left w a.others_fit.ranges a.others_fit.eight in
      record {
        fits = record { ranges = k.fit; eight = k.eight };
        others_fit = record { ranges = m.fit; eight = m.eight };
        tx = rw a.tx;
        sender = rw a.sender;
        waits = k.waits ∙ a.waits ∙ sym m.waits;
      }
  advanced_alike Starve c d w = record { fits = a.fits; others_fit = a.others_fit; tx = a.tx; sender = refl; waits = a.waits }
  advanced_alike LoadEnd c d w = record { fits = a.fits; others_fit = a.others_fit; tx = a.tx; sender = rw a.sender; waits = a.waits }
  advanced_alike StartWords c d w = record {
    fits = record { ranges = fit_begun s.queue a.fits.ranges c.3; eight = a.fits.eight };
    others_fit = record { ranges = fit_begun t.queue a.others_fit.ranges d.3; eight = a.others_fit.eight };
    tx = a.tx;
    sender = rw (waits_alike.which c.3);
    waits = waits_alike.behind c.3;
  }
  advanced_alike StartEnds c d w = record {
    fits = record { ranges = fit_begun s.queue a.fits.ranges c.3; eight = a.fits.eight };
    others_fit = record { ranges = fit_begun t.queue a.others_fit.ranges d.3; eight = a.others_fit.eight };
    tx = a.tx;
    sender = rw (waits_alike.which c.3);
    waits = waits_alike.behind c.3;
  }
  advanced_alike Stay c d w = record { fits = a.fits; others_fit = a.others_fit; tx = a.tx; sender = refl; waits = a.waits }

alike_requeued : (s t : Sending) (q r : Queue) → Alike s t → Kept s.queue q → Kept t.queue r → Alike (with_queue s q) (with_queue t r)
alike_requeued s t q r a k m = record {
  fits = record { ranges = k.fit; eight = k.eight };
  others_fit = record { ranges = m.fit; eight = m.eight };
  tx = a.tx;
  sender = a.sender;
  waits = k.waits ∙ a.waits ∙ sym m.waits;
}

module _ (s t : Sending) (a : Alike s t) (may : Bool) (w : ℕ) where
  choice_is : choose s may ≡ choose t may
  choice_is = choose_alike s t a may

  kinds : Alike (advanced (choose s may) s w) (advanced (choose s may) t w)
  kinds = advanced_alike s t a (choose s may) (chosen s may) (subst (Chosen t) (sym choice_is) (chosen t may)) w

  tick_alike : Alike (tick_sender s may w).sending (left_as_one t may w)
  unfolding tick_sender sent_by left_as_one
  tick_alike =
      rw (← choice_is)
      (alike_requeued _ _ _ _ kinds (kept_finished (advanced (choose s may) s w) kinds.fits.ranges kinds.fits.eight)
      (kept_finished_as_one (advanced (choose s may) t w) kinds.others_fit.ranges kinds.others_fit.eight))

  bit_alike : (tick_sender s may w).sout ≡ bit_as_one t may w
  unfolding tick_sender sent_by bit_as_one
  bit_alike = rw (choice_is, a.sender)

-- 4. A host word, and a run.

stored_alike : (s t : Sending) (st : Option ℕ) → Alike s t → Alike (stored s st) (stored t st)
unfolding stored
stored_alike s t st a = record { fits = a.fits; others_fit = a.others_fit; tx = rw a.tx; sender = a.sender; waits = a.waits }

emptied_alike : (s t : Sending) → Alike s t → Fit (emptied_queue s.queue) × Fit (emptied_queue t.queue)
emptied_alike s t a = (
  record { ranges = fit_emptied s.queue a.fits.ranges; eight = a.fits.eight },
  record { ranges = fit_emptied t.queue a.others_fit.ranges; eight = a.others_fit.eight },
)

done_alike : (s t : Sending) (d : Deed) → Alike s t → Holds s d → Holds t d → Alike (done s d) (done t d)
unfolding done
done_alike s t Leave a h k = a
done_alike s t (Enqueue p) a h k = record {
  fits = record { ranges = fit_queued s.queue p a.fits.ranges h.0 h.1 h.2; eight = eight_queued s.queue p a.fits.eight };
  others_fit = record { ranges = fit_queued t.queue p a.others_fit.ranges k.0 k.1 k.2; eight = eight_queued t.queue p a.others_fit.eight };
  tx = a.tx;
  sender = a.sender;
  waits = waiting_queued s.queue p a.fits.ranges a.fits.eight h.0 ∙ ap (λ (ps : List Place). ps ++ (p ∷ [])) a.waits
      ∙ sym (waiting_queued t.queue p a.others_fit.ranges a.others_fit.eight k.0);
}
done_alike s t (TakeBack n) a h k = record { fits = a.fits; others_fit = a.others_fit; tx = rw a.tx; sender = a.sender; waits = a.waits }
done_alike s t ClearAll a h k = record {
  fits = (emptied_alike s t a).0;
  others_fit = (emptied_alike s t a).1;
  tx = rw a.tx;
  sender = refl;
  waits = waiting_emptied s.queue ∙ sym (waiting_emptied t.queue);
}
done_alike s t ResetAll a h k = record {
  fits = (emptied_alike s t a).0;
  others_fit = (emptied_alike s t a).1;
  tx = rw a.tx;
  sender = a.sender;
  waits = waiting_emptied s.queue ∙ sym (waiting_emptied t.queue);
}

holds_stored : (s : Sending) (st : Option ℕ) (d : Deed) → Holds s d → Holds (stored s st) d
unfolding stored
holds_stored s st Leave h = tt
holds_stored s st (Enqueue p) h = h
holds_stored s st (TakeBack n) h = tt
holds_stored s st ClearAll h = tt
holds_stored s st ResetAll h = tt

heard_alike : (s t : Sending) (q r : Queue) → Alike s t → SameWait s.queue q → SameWait t.queue r → Alike (with_queue s q) (with_queue t r)
heard_alike s t q r a k m = record {
  fits = k.fit;
  others_fit = m.fit;
  tx = a.tx;
  sender = a.sender;
  waits = k.waits ∙ a.waits ∙ sym m.waits;
}

runs_alike : (s t : Sending) (acts : List Act) → Alike s t → Allowed s t acts → bits_now s acts ≡ bits_before t acts
unfolding bits_now bits_before
runs_alike s t [] a h = refl
runs_alike s t (ticked may w ∷ acts) a h = rw (bit_alike s t a may w, runs_alike (tick_sender s may w).sending (left_as_one t may w) acts (tick_alike s t a may w) h) refl
runs_alike s t (hosted st d ∷ acts) a h =
    runs_alike (done (stored s st) d) (done (stored t st) d) acts (done_alike (stored s st) (stored t st) d (stored_alike s t st a) (holds_stored s st d h.0) (holds_stored t st d h.1)) h.2
runs_alike s t (heard now before ∷ acts) a h = runs_alike (with_queue s now) (with_queue t before) acts (heard_alike s t now before a h.0 h.1) h.2

kept_waits : (q r : Queue) → Kept q r → SameWait q r
kept_waits q r k = record { fit = record { ranges = k.fit; eight = k.eight }; waits = k.waits }

pub line_bits_stay : SameBits
line_bits_stay = record {
  same_bits = runs_alike;
  reader_hears = λ r q f sin x h. kept_waits _ _ (tick_reader_keeps r q f sin x h.ranges h.eight).queue;
  one_hears = λ q i p h b w e. kept_waits _ _ (kept_as_one q i p h.ranges h.eight b w e);
}
