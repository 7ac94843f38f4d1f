-- Laws of the definitions, in the form in which the functions' proofs ask them, and what a choice keeps. Assumes nothing.
use mathlib.Core.Path.{◌≡◌, refl, sym, ◌∙◌, subst}
use mathlib.Core.Bool.{Bool, true, false, ◌&&◌}
use mathlib.Core.List.{List, [], ◌∷◌}
use Prim.Native.Nat.{ℕ, zero, suc, ◌+◌, ◌-◌, ◌≤◌, ◌<◌}
use native.Mathlib.Omega.{arith}
use lib.Dec.{leb}
use lib.ListN.{get_or, set}
use borrow.Author.Tests.{ltb-true}
use Rattle.base.specs.Pick.{pick_told, pick_denied, pick_keeps, and_r}
use Rattle.line.specs.declared.Piece.{Piece}
use Rattle.state.specs.Facts.{QueueFit, SendFit}
use Rattle.state.specs.Queue.{place_at, with_place, no_place, speaking, under_way, returned}
use Rattle.state.specs.Sending.{idle}
use Rattle.state.specs.Rings.{tx_size, popped}
use Rattle.state.specs.declared.Place.{Place}
use Rattle.state.specs.declared.Queue.{Queue}
use Rattle.state.specs.declared.Returned.{Returned}
use Rattle.state.specs.declared.Ring.{Ring}
use Rattle.state.specs.declared.Sender.{Sender}
use Rattle.state.specs.declared.Sending.{Sending}
use Rattle.queue.proofs.Laws.{busy_begun, speaking_begun}
use Rattle.next.specs.Room.{Room}
use Rattle.next.specs.Next.{choose, bit_sent, is_starve, is_start}
use Rattle.sender.specs.Sender.{word_sent, queue_sent, sender_after, advanced, place_sent, command_sent, finished, sent_by, tick_sender}
use Rattle.next.specs.declared.Next.{Next}
use Rattle.next.specs.declared.Next.TheVariants.{GoOn, LoadWord, Starve, LoadEnd, StartWords, StartEnds, Stay}
use Rattle.next.proofs.Laws.{choose_room}

-- an arm knows the constructor
module _ (n m : Next) (h : n ≡ m) where
  pub to_sender : (s : Sending) (w : ℕ) (x : Sender) → x ≡ sender_after m s w → x ≡ sender_after n s w
  to_sender s w x e = rw h e

  pub sender_at : (s : Sending) (w : ℕ) (x : Sender) → x ≡ sender_after n s w → x ≡ sender_after m s w
  sender_at s w x e = rw (← h) e

  pub to_advanced : (s : Sending) (w : ℕ) (x : Sending) → x ≡ advanced m s w → x ≡ advanced n s w
  to_advanced s w x e = rw h e

-- a start's place
module _ (q : Queue) (n : Next) (r : Room q n) (f : QueueFit q) where
  pub words_below : n ≡ StartWords → q.begun < 8
  words_below h = let l : q.begun < q.used = subst (Room q) h r in omega (arith, f.most)

  pub ends_below : n ≡ StartEnds → q.begun < 8
  ends_below h = let l : q.begun < q.used = subst (Room q) h r in omega (arith, f.most)

  pub ends_fit : n ≡ StartWords → (place_at q q.begun).ends + 1 < 65536
  ends_fit h = omega (arith, f.ends q.begun (subst (Room q) h r))

abbrev first : Piece → ℕ → ℕ → Sender
first p l e = record { piece = p; gone = 1; left = l; ends = e }

-- a record by parts that were told
pub to_first : (x : Sender) (p : Piece) (l l' e e' : ℕ) → x ≡ first p l e → l ≡ l' → e ≡ e' → x ≡ first p l' e'
to_first x p l l' e e' h i j = rw (← i, ← j) h

pub same_place : (q : Queue) (i : ℕ) (p r : Place) → p ≡ r → with_place q i p ≡ with_place q i r
same_place q i p r h = rw h

pub same_sending : (x : Sending) (t u : Ring) (p q : Queue) (a b : Sender) → x ≡ record { tx = t; queue = p; sender = a } → t ≡ u → p ≡ q → a ≡ b
    → x ≡ record { tx = u; queue = q; sender = b }
same_sending x t u p q a b h i j k = rw (← i, ← j, ← k) h

pub to_loaded : (n : Next) (s : Sending) (w : ℕ) (t : Ring) (q : Queue) (a : Sender) → n ≡ LoadWord → t ≡ popped tx_size s.tx
    → q ≡ queue_sent s.queue s.sender.left w → a ≡ sender_after n s w → record { tx = t; queue = q; sender = a } ≡ advanced n s w
unfolding advanced
to_loaded n s w t q a h i j k = let l : a ≡ sender_after LoadWord s w = rw h at k in rw h (rw (i, j, l))

-- what holds of a list's elements and of the one put in
set_keeps : {A : Type 0} (P : A → Type 0) (l : List A) (i j : ℕ) (a d : A) → P a → P (get_or l j d) → P (get_or (set l i a) j d)
set_keeps P [] i j a d p q = q
set_keeps P (x ∷ l) zero zero a d p q = p
set_keeps P (x ∷ l) zero (suc j) a d p q = q
set_keeps P (x ∷ l) (suc i) zero a d p q = q
set_keeps P (x ∷ l) (suc i) (suc j) a d p q = set_keeps P l i j a d p q

-- the queue's facts, with another place put in
pub place_fit : (q : Queue) (i : ℕ) (p : Place) → QueueFit q → p.words ≤ 4096 → p.ends ≤ 127 → QueueFit (with_place q i p)
place_fit q i p f h k = record {
  order = f.order;
  most = f.most;
  words = λ j l. set_keeps (λ (x : Place). x.words ≤ 4096) q.places i j p no_place h (f.words j l);
  ends = λ j l. set_keeps (λ (x : Place). x.ends ≤ 127) q.places i j p no_place k (f.ends j l);
}

pub queue_sent_fit : (q : Queue) (left w : ℕ) → QueueFit q → QueueFit (queue_sent q left w)
unfolding queue_sent word_sent
queue_sent_fit q left w f =
    pick_keeps QueueFit _ _ _
    (λ h. let z : 0 < q.begun = ltb-true _ _ h in
    let l : q.begun - 1 < q.used = omega (arith, f.order) in
    place_fit q (q.begun - 1) _ f (f.words (q.begun - 1) l) (f.ends (q.begun - 1) l))
    (λ _. f)

-- a choice that has room keeps the queue's facts
pub advanced_fit : (n : Next) (s : Sending) (w : ℕ) → Room s.queue n → SendFit s → QueueFit (advanced n s w).queue
unfolding advanced
advanced_fit GoOn s w r f = f.queue
advanced_fit LoadWord s w r f = queue_sent_fit s.queue s.sender.left w f.queue
advanced_fit Starve s w r f = f.queue
advanced_fit LoadEnd s w r f = f.queue
advanced_fit StartWords s w r f = record { order = omega (arith, r); most = f.queue.most; words = f.queue.words; ends = f.queue.ends }
advanced_fit StartEnds s w r f = record { order = omega (arith, r); most = f.queue.most; words = f.queue.words; ends = f.queue.ends }
advanced_fit Stay s w r f = f.queue

-- a place returned, by what the tests answered
module _ (s : Sending) (i u : Bool) (h : i ≡ idle s.sender) (k : u ≡ under_way s.queue) where
  pub busy_last : (l : ℕ) → (i && u) ≡ true → l ≡ s.queue.begun - 1 → l < s.queue.begun
  busy_last l t e = omega (arith, busy_begun s.queue (sym k ∙ and_r i u t))

  pub to_ended : (l : ℕ) (o p : Place) (x : Returned) → (i && u) ≡ true → l ≡ s.queue.begun - 1 → o ≡ place_at s.queue l → p ≡ command_sent o
      → x ≡ returned s.queue l p → x ≡ finished s
  unfolding finished
  to_ended l o p x t e f g j = pick_told (i && u) _ _ _ _ (rw (h, k)) t (j ∙ rw (g, f, e))

  module _ (v : Bool) (m : v ≡ speaking s.queue) (n : (i && u) ≡ false) where
    pub speaking_last : (l : ℕ) (o : Bool) → (o && v) ≡ true → l ≡ s.queue.begun - 1 → l < s.queue.begun
    speaking_last l o t e = omega (arith, speaking_begun s.queue (sym m ∙ and_r o v t))

    pub to_spoken : (l : ℕ) (o p : Place) (x : Returned) → (leb 18 s.sender.gone && v) ≡ true → l ≡ s.queue.begun - 1
        → o ≡ place_at s.queue l → p ≡ place_sent o → x ≡ returned s.queue l p → x ≡ finished s
    unfolding finished
    to_spoken l o p x t e f g j =
        pick_denied (i && u) _ _ _ _ (rw (h, k)) n (pick_told (leb 18 s.sender.gone && v) _ _ _ _ (rw m) t (j ∙ rw (g, f, e)))

    pub to_kept : (leb 18 s.sender.gone && v) ≡ false → record { queue = s.queue; differs = false } ≡ finished s
    unfolding finished
    to_kept t = pick_denied (i && u) _ _ _ _ (rw (h, k)) n (pick_denied (leb 18 s.sender.gone && v) _ _ _ _ (rw m) t refl)

-- a tick's parts: the choice, what it does, and the place returned
module _ (s : Sending) (may : Bool) (w : ℕ) (n : Next) (h : n ≡ choose s may) where
  pub has_room : Room s.queue n
  has_room = rw h (choose_room s may)

  module _ (a : Sending) (i : a ≡ advanced n s w) where
    pub after_fit : SendFit s → QueueFit a.queue
    after_fit f = rw i (advanced_fit n s w has_room f)

    pub to_sent : (b : Returned) (sout starved started : Bool) → b ≡ finished a → sout ≡ bit_sent n s.sender w → starved ≡ is_starve n
        → started ≡ is_start n
        → record {
          sending = record { tx = a.tx; queue = b.queue; sender = a.sender };
          sout = sout;
          starved = starved;
          started = started;
          differs = b.differs;
        } ≡ tick_sender s may w
    unfolding tick_sender sent_by
    to_sent b sout starved started j k l m = rw (j, k, l, m, i, h)
