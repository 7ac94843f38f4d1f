-- Laws of the queue: what waits, what a freed place or a new mark leaves as it is, and what the youngest place takes. Assumes nothing.
use mathlib.Core.Path.{◌≡◌, refl, ap, sym, ◌∙◌}
use mathlib.Core.Bool.{Bool, true, false}
use mathlib.Core.List.{List, [], ◌∷◌, ◌++◌}
use Prim.Native.Nat.{ℕ, zero, suc, ◌+◌, ◌-◌, ◌≤◌, ◌<◌}
use native.Mathlib.Omega.{arith}
use lib.Dec.{ltb}
use lib.ListN.{length, take, drop, get_or, set, length-drop, length-set}
use lib.Seq.{drop-cons, take-suc, length-take-le, drop-set-add, drop-set-lt, take-suc-set, get_or-take, get_or-drop, ext_get_or}
use borrow.Author.Tests.{ltb-true, ltb-false, lt-ltb, le-ltb}
use Rattle.base.specs.Pick.{pick, pick_keeps, and_l, and_r, and_both}
use Rattle.rules.specs.Facts.{all_some}
use Rattle.rules.specs.Sound.{last_left}
use Rattle.state.specs.Facts.{QueueFit}
use Rattle.state.specs.Queue.{no_place, new_place, place_at, with_place, queued, begun_one, emptied_queue, waiting, words_of, moved, freed, is_done, returned}
use Rattle.state.specs.declared.Place.{Place}
use Rattle.state.specs.declared.Queue.{Queue}
use Rattle.state.specs.declared.Returned.{Returned}
use Rattle.state.specs.declared.Sending.{Sending}

-- a queued command waits behind the others
pub waiting_queued : (q : Queue) (p : Place) → QueueFit q → length q.places ≡ 8 → q.used < 8 → waiting (queued q p) ≡ waiting q ++ (p ∷ [])
unfolding waiting
waiting_queued q p f l h =
    let e : q.used + 1 - q.begun ≡ suc (q.used - q.begun) = omega (arith, f.order) in
    let u : q.used ≡ q.begun + (q.used - q.begun) = omega (arith, f.order) in
    let d : drop q.begun (set q.places q.used p) ≡ set (drop q.begun q.places) (q.used - q.begun) p
    = ap (λ (n : ℕ). drop q.begun (set q.places n p)) u ∙ drop-set-add q.begun q.places (q.used - q.begun) p in
    rw (e, d) (take-suc-set (drop q.begun q.places) (q.used - q.begun) p (rw length-drop (omega (arith, f.order))))

-- the next to begin is the oldest that waits
pub waiting_begun : (q : Queue) → QueueFit q → length q.places ≡ 8 → q.begun < q.used → waiting q ≡ place_at q q.begun ∷ waiting (begun_one q)
unfolding waiting
waiting_begun q f l h =
    let e : q.used - q.begun ≡ suc (q.used - (q.begun + 1)) = omega arith in
    let n : q.begun + 1 ≡ suc q.begun = omega arith in
    rw (e, n, drop-cons q.places q.begun no_place (omega (arith, f.most)))

-- a place that has begun does not wait
pub waiting_marked : (q : Queue) (i : ℕ) (p : Place) → i < q.begun → waiting (with_place q i p) ≡ waiting q
unfolding waiting
waiting_marked q i p h = rw (drop-set-lt q.begun q.places i p h)

pub waiting_emptied : (q : Queue) → waiting (emptied_queue q) ≡ []
unfolding waiting
waiting_emptied q = refl

-- none waits where all have begun
pub waiting_none : (q : Queue) → q.used ≤ q.begun → waiting q ≡ []
unfolding waiting
waiting_none q h = let e : q.used - q.begun ≡ 0 = omega arith in rw e

-- the places of a freed queue, one by one
pub place_freed : (q : Queue) (i k : ℕ) → k < 8 → place_at (freed q i) k ≡ moved q.places i k
unfolding freed
place_freed q i zero h = refl
place_freed q i (suc zero) h = refl
place_freed q i (suc (suc zero)) h = refl
place_freed q i (suc (suc (suc zero))) h = refl
place_freed q i (suc (suc (suc (suc zero)))) h = refl
place_freed q i (suc (suc (suc (suc (suc zero))))) h = refl
place_freed q i (suc (suc (suc (suc (suc (suc zero)))))) h = refl
place_freed q i (suc (suc (suc (suc (suc (suc (suc zero))))))) h = refl
place_freed q i (suc (suc (suc (suc (suc (suc (suc (suc k)))))))) h = absurd (omega arith)

pub moved_up : (ps : List Place) (i k : ℕ) → i ≤ k → moved ps i k ≡ get_or ps (suc k) no_place
unfolding moved pick
moved_up ps i k h = let n : k + 1 ≡ suc k = omega arith in rw (le-ltb k i h, n)

-- below the freed one they are as they were, above they have moved up
pub freed_below : (q : Queue) (i k : ℕ) → k < 8 → k < i → place_at (freed q i) k ≡ place_at q k
unfolding moved pick
freed_below q i k b h = place_freed q i k b ∙ rw (lt-ltb k i h)

pub freed_above : (q : Queue) (i k : ℕ) → k < 8 → i ≤ k → place_at (freed q i) k ≡ place_at q (suc k)
freed_above q i k b h = place_freed q i k b ∙ moved_up q.places i k h

length_waiting : (q : Queue) → q.used ≤ length q.places → length (waiting q) ≡ q.used - q.begun
unfolding waiting
length_waiting q h = length-take-le _ _ (rw length-drop (omega arith))

waits_at : (q : Queue) (j : ℕ) → j < q.used - q.begun → get_or (waiting q) j no_place ≡ place_at q (q.begun + j)
unfolding waiting
waits_at q j h = get_or-take _ _ j no_place h ∙ get_or-drop q.begun q.places j no_place

pub begun_freed : (q : Queue) (i : ℕ) → (freed q i).begun ≡ q.begun - 1
unfolding freed
begun_freed q i = refl

pub used_freed : (q : Queue) (i : ℕ) → (freed q i).used ≡ q.used - 1
unfolding freed
used_freed q i = refl

pub eight_freed : (q : Queue) (i : ℕ) → length (freed q i).places ≡ 8
unfolding freed
eight_freed q i = refl

-- the places behind a freed one move up, and with them where the waiting begin
pub waiting_freed : (q : Queue) (i : ℕ) → QueueFit q → length q.places ≡ 8 → i < q.begun → waiting (freed q i) ≡ waiting q
waiting_freed q i f l h = ext_get_or no_place _ _ (same ∙ sym old) (λ j b. at j (rw same at b))
  where
    apart : (freed q i).used - (freed q i).begun ≡ q.used - q.begun
    apart = rw (begun_freed, used_freed) (omega (arith, f.order))

    old : length (waiting q) ≡ q.used - q.begun
    old = length_waiting q (omega (arith, f.most))

    same : length (waiting (freed q i)) ≡ q.used - q.begun
    same = length_waiting (freed q i) (rw (eight_freed, used_freed) (omega (arith, f.most))) ∙ apart

    at : (j : ℕ) → j < q.used - q.begun → get_or (waiting (freed q i)) j no_place ≡ get_or (waiting q) j no_place
    at j b =
        let n : suc (q.begun - 1 + j) ≡ q.begun + j = omega arith in
        waits_at (freed q i) j (rw apart b)
        ∙ ap (λ (m : ℕ). place_at (freed q i) (m + j)) (begun_freed q i)
        ∙ place_freed q i (q.begun - 1 + j) (omega (arith, f.most))
        ∙ moved_up q.places i (q.begun - 1 + j) (omega arith)
        ∙ ap (λ (m : ℕ). place_at q m) n
        ∙ sym (waits_at q j b)

-- What an operation on places that have begun keeps.
pub record Kept (q r : Queue) : Type 0 where
  pub fit : QueueFit r
  pub eight : length r.places ≡ 8
  pub waits : waiting r ≡ waiting q

pub kept_same : (q : Queue) → QueueFit q → length q.places ≡ 8 → Kept q q
kept_same q f l = record { fit = f; eight = l; waits = refl }

pub kept_trans : (q r s : Queue) → Kept q r → Kept r s → Kept q s
kept_trans q r s a b = record { fit = b.fit; eight = b.eight; waits = b.waits ∙ a.waits }

set_keeps : (P : Place → Type 0) (ps : List Place) (i k : ℕ) (p : Place) → P p → P (get_or ps k no_place) → P (get_or (set ps i p) k no_place)
set_keeps P [] i k p h g = g
set_keeps P (x ∷ xs) zero zero p h g = h
set_keeps P (x ∷ xs) zero (suc k) p h g = g
set_keeps P (x ∷ xs) (suc i) zero p h g = g
set_keeps P (x ∷ xs) (suc i) (suc k) p h g = set_keeps P xs i k p h g

-- the cell set, or past the list the default, which fits as well
set_last : (P : Place → Type 0) (ps : List Place) (i : ℕ) (p : Place) → P p → P no_place → P (get_or (set ps i p) i no_place)
set_last P [] i p h n = n
set_last P (x ∷ xs) zero p h n = h
set_last P (x ∷ xs) (suc i) p h n = set_last P xs i p h n

-- places fit with one more, or one other, that fits
pub fit_queued : (q : Queue) (p : Place) → QueueFit q → q.used < 8 → p.words ≤ 4096 → p.ends ≤ 127 → QueueFit (queued q p)
fit_queued q p f h w e = record {
  order = omega (arith, f.order);
  most = omega arith;
  words = at (λ (x : Place). x.words ≤ 4096) w (unfold no_place in omega arith) f.words;
  ends = at (λ (x : Place). x.ends ≤ 127) e (unfold no_place in omega arith) f.ends;
}
  where
    at : (P : Place → Type 0) → P p → P no_place → ((k : ℕ) → k < q.used → P (place_at q k)) → (k : ℕ) → k < q.used + 1 → P (place_at (queued q p) k)
    at P n o a k b = go (ltb k q.used) refl
      where
        go : (t : Bool) → ltb k q.used ≡ t → P (place_at (queued q p) k)
        go true c = set_keeps P q.places q.used k p n (a k (ltb-true _ _ c))
        go false c =
            let d : q.used ≤ k = ltb-false _ _ c in
            let m : k ≡ q.used = omega arith in rw m (set_last P q.places q.used p n o)

pub eight_queued : (q : Queue) (p : Place) → length q.places ≡ 8 → length (queued q p).places ≡ 8
eight_queued q p l = rw length-set l

pub fit_begun : (q : Queue) → QueueFit q → q.begun < q.used → QueueFit (begun_one q)
fit_begun q f h = record { order = omega arith; most = f.most; words = f.words; ends = f.ends }

pub fit_emptied : (q : Queue) → QueueFit q → QueueFit (emptied_queue q)
fit_emptied q f = record { order = omega arith; most = omega arith; words = λ k b. absurd (omega arith); ends = λ k b. absurd (omega arith) }

-- new marks of a command that has begun
pub kept_marked : (q : Queue) (i : ℕ) (p : Place) → QueueFit q → length q.places ≡ 8 → i < q.begun
    → p.words ≤ (place_at q i).words → p.ends ≤ (place_at q i).ends → Kept q (with_place q i p)
kept_marked q i p f l h w e =
    let b : i < q.used = omega (arith, f.order) in
    record {
      fit = record {
        order = f.order;
        most = f.most;
        words = λ k c. set_keeps (λ (x : Place). x.words ≤ 4096) q.places i k p (omega (arith, f.words i b)) (f.words k c);
        ends = λ k c. set_keeps (λ (x : Place). x.ends ≤ 127) q.places i k p (omega (arith, f.ends i b)) (f.ends k c);
      };
      eight = rw length-set l;
      waits = waiting_marked q i p h;
    }

moved_keeps : (P : Place → Type 0) (q : Queue) (i k : ℕ) → ((m : ℕ) → m < q.used → P (place_at q m)) → k + 1 < q.used → P (moved q.places i k)
unfolding moved
moved_keeps P q i k a b = pick_keeps P (ltb k i) _ _ (λ h. a k (omega arith)) (λ h. a (k + 1) b)

pub fit_freed : (q : Queue) (i : ℕ) → QueueFit q → length q.places ≡ 8 → i < q.begun → QueueFit (freed q i)
fit_freed q i f l h = record {
  order = rw (begun_freed, used_freed) (omega (arith, f.order));
  most = rw used_freed (omega (arith, f.most));
  words = at (λ (x : Place). x.words ≤ 4096) f.words;
  ends = at (λ (x : Place). x.ends ≤ 127) f.ends;
}
  where
    at : (P : Place → Type 0) → ((k : ℕ) → k < q.used → P (place_at q k)) → (k : ℕ) → k < (freed q i).used → P (place_at (freed q i) k)
    at P a k b =
        let c : k < q.used - 1 = rw used_freed at b in
        rw (place_freed q i k (omega (arith, f.most))) (moved_keeps P q i k a (omega arith))

pub kept_freed : (q : Queue) (i : ℕ) → QueueFit q → length q.places ≡ 8 → i < q.begun → Kept q (freed q i)
kept_freed q i f l h = record { fit = fit_freed q i f l h; eight = eight_freed q i; waits = waiting_freed q i f l h }

-- a place given back with new marks
pub kept_returned : (q : Queue) (i : ℕ) (p : Place) → QueueFit q → length q.places ≡ 8 → i < q.begun
    → p.words ≤ (place_at q i).words → p.ends ≤ (place_at q i).ends → Kept q (returned q i p).queue
unfolding returned new_place
kept_returned q i p f l h w e =
    pick_keeps (λ (r : Returned). Kept q r.queue) (is_done p) _ _
    (λ d. pick_keeps (Kept q) _ _ _ (λ b. kept_marked q i (new_place 0 p.ends false) f l h (omega arith) e) (λ b. kept_freed q i f l h))
    (λ d. kept_marked q i p f l h w e)

-- What the youngest of those that wait takes; where none waits, the command under way.
unfoldable pub last_of : List Place → ℕ → ℕ
last_of [] left = left
last_of (p ∷ ps) left = last_of ps p.words

pub last_of_snoc : (ps : List Place) (p : Place) (left : ℕ) → last_of (ps ++ (p ∷ [])) left ≡ p.words
unfolding last_of
last_of_snoc [] p left = refl
last_of_snoc (x ∷ ps) p left = last_of_snoc ps p x.words

last_waits : (q : Queue) (left : ℕ) → QueueFit q → length q.places ≡ 8 → q.begun < q.used → last_of (waiting q) left ≡ (place_at q (q.used - 1)).words
unfolding waiting
last_waits q left f l h =
    let m : ℕ = q.used - 1 - q.begun in
    let ps : List Place = drop q.begun q.places in
    let e : q.used - q.begun ≡ suc m = omega arith in
    let n : q.begun + m ≡ q.used - 1 = omega arith in
    let b : m < length ps = rw length-drop (omega (arith, f.most)) in
    let at : get_or ps m no_place ≡ place_at q (q.used - 1) = get_or-drop q.begun q.places m no_place ∙ ap (place_at q) n in
    rw (e, take-suc ps m no_place b) (last_of_snoc (take m ps) (get_or ps m no_place) left ∙ ap (λ (p : Place). p.words) at)

-- So `last_left` is known by what waits: whatever keeps that keeps it.
pub last_left_lem : (s : Sending) → QueueFit s.queue → length s.queue.places ≡ 8 → last_left s ≡ last_of (waiting s.queue) s.sender.left
last_left_lem s f l = go (ltb s.queue.begun s.queue.used) refl
  where
    go : (t : Bool) → ltb s.queue.begun s.queue.used ≡ t
        → pick t (place_at s.queue (s.queue.used - 1)).words s.sender.left ≡ last_of (waiting s.queue) s.sender.left
    go true e = unfold pick in sym (last_waits s.queue s.sender.left f l (ltb-true _ _ e))
    go false e = rw (waiting_none s.queue (ltb-false _ _ e)) (unfold pick last_of in refl)

-- the same waiting, the same left of the command under way
pub last_left_kept : (s t : Sending) → QueueFit s.queue → length s.queue.places ≡ 8 → Kept s.queue t.queue
    → t.sender.left ≡ s.sender.left → last_left t ≡ last_left s
last_left_kept s t f l k e = last_left_lem t k.fit k.eight ∙ rw (k.waits, e) (sym (last_left_lem s f l))

-- a command queued is the youngest
pub last_left_queued : (s : Sending) (p : Place) → QueueFit s.queue → length s.queue.places ≡ 8 → s.queue.used < 8 → p.words ≤ 4096 → p.ends ≤ 127
    → last_left (record { tx = s.tx; queue = queued s.queue p; sender = s.sender }) ≡ p.words
last_left_queued s p f l h w e =
    last_left_lem (record { tx = s.tx; queue = queued s.queue p; sender = s.sender }) (fit_queued s.queue p f h w e) (eight_queued s.queue p l)
    ∙ rw (waiting_queued s.queue p f l h) (last_of_snoc (waiting s.queue) p _)

-- a command begun takes what it would have taken
pub last_left_begun : (s t : Sending) → QueueFit s.queue → length s.queue.places ≡ 8 → s.queue.begun < s.queue.used
    → t.queue ≡ begun_one s.queue → t.sender.left ≡ (place_at s.queue s.queue.begun).words → last_left t ≡ last_left s
unfolding last_of
last_left_begun s t f l h q e =
    last_left_lem t (rw q (fit_begun s.queue f h)) (rw q l)
    ∙ rw (q, e) (sym (last_left_lem s f l ∙ rw (waiting_begun s.queue f l h) refl))

-- the words that wait
pub words_of_snoc : (ps : List Place) (p : Place) → words_of (ps ++ (p ∷ [])) ≡ words_of ps + p.words
unfolding words_of
words_of_snoc [] p = omega arith
words_of_snoc (x ∷ ps) p = rw (words_of_snoc ps p) (omega arith)

pub words_queued : (q : Queue) (p : Place) → QueueFit q → length q.places ≡ 8 → q.used < 8
    → words_of (waiting (queued q p)) ≡ words_of (waiting q) + p.words
words_queued q p f l h = rw (waiting_queued q p f l h) (words_of_snoc (waiting q) p)

pub words_begun : (q : Queue) → QueueFit q → length q.places ≡ 8 → q.begun < q.used
    → words_of (waiting q) ≡ (place_at q q.begun).words + words_of (waiting (begun_one q))
unfolding words_of
words_begun q f l h = rw (waiting_begun q f l h)

pub words_emptied : (q : Queue) → words_of (waiting (emptied_queue q)) ≡ 0
unfolding words_of
words_emptied q = rw (waiting_emptied q)

-- what waits has something to send
some_of_snoc : (ps : List Place) (p : Place) → all_some ps ≡ true → 0 < p.words + p.ends → all_some (ps ++ (p ∷ [])) ≡ true
unfolding all_some
some_of_snoc [] p a h = rw (lt-ltb _ _ h)
some_of_snoc (x ∷ ps) p a h = and_both (ltb 0 (x.words + x.ends)) _ (and_l _ (all_some ps) a) (some_of_snoc ps p (and_r (ltb 0 (x.words + x.ends)) _ a) h)

pub some_queued : (q : Queue) (p : Place) → QueueFit q → length q.places ≡ 8 → q.used < 8 → all_some (waiting q) ≡ true → 0 < p.words + p.ends
    → all_some (waiting (queued q p)) ≡ true
some_queued q p f l h a n = rw (waiting_queued q p f l h) (some_of_snoc (waiting q) p a n)

pub some_begun : (q : Queue) → QueueFit q → length q.places ≡ 8 → q.begun < q.used → all_some (waiting q) ≡ true
    → all_some (waiting (begun_one q)) ≡ true
unfolding all_some
some_begun q f l h a = and_r (ltb 0 ((place_at q q.begun).words + (place_at q q.begun).ends)) _ (rw (waiting_begun q f l h) at a)

pub some_emptied : (q : Queue) → all_some (waiting (emptied_queue q)) ≡ true
unfolding all_some
some_emptied q = rw (waiting_emptied q)

-- the youngest is one of those that wait
pub last_of_within : (ps : List Place) (left : ℕ) → last_of ps left ≤ left + words_of ps
unfolding last_of words_of
last_of_within [] left = omega arith
last_of_within (p ∷ ps) left = let h : last_of ps p.words ≤ p.words + words_of ps = last_of_within ps p.words in omega arith
