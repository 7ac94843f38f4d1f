-- What is still to send falls by one with each tick that is not at rest: one law for each thing that a tick does. Assumes nothing.
use mathlib.Core.Path.{◌≡◌, refl}
use mathlib.Core.Bool.{Bool, true, false, not, ◌&&◌}
use mathlib.Core.List.{List, ◌∷◌}
use Prim.Native.Nat.{ℕ, ◌+◌, ◌-◌, ◌*◌, ◌≤◌, ◌<◌}
use native.Mathlib.Omega.{arith}
use lib.Dec.{ltb}
use borrow.Author.Tests.{ltb-true, ltb-false, leb-true, eqb-true, lt-ltb, le-ltb, eq-eqb, le-leb, not-true}
use Rattle.base.specs.Pick.{pick, pick_keeps, and_l, and_r}
use Rattle.base.specs.Truth.{never}
use Rattle.line.specs.Format.{piece_length}
use Rattle.state.specs.Queue.{place_at, waiting, begun_one}
use Rattle.state.specs.Sending.{idle}
use Rattle.state.specs.declared.Place.{Place}
use Rattle.state.specs.declared.Sending.{Sending}
use Rattle.rules.specs.Facts.{all_some}
use Rattle.next.specs.Next.{choose, is_starve}
use Rattle.sender.specs.Sender.{queue_sent, sender_after, advanced, finished, sent_by, tick_sender}
use Rattle.next.specs.declared.Next.{Next}
use Rattle.next.specs.declared.Next.TheVariants.{GoOn, LoadWord, Starve, LoadEnd, StartWords, StartEnds}
use Rattle.kept.specs.Rules.{SendRules}
use Rattle.base.specs.Truth.{none_left}
use Rattle.kept.proofs.Queue.{Kept, waiting_begun, waiting_none}
use Rattle.kept.proofs.Sender.{kept_sent, kept_finished, rules_advanced, chosen}
use Rattle.drain.specs.Cost.{cost, cost_of}

cost_words : (p : Place) → 0 < p.words → cost p ≡ 19 + 17 * p.words + 18 * p.ends
unfolding cost pick
cost_words p h = rw (lt-ltb 0 p.words h)

cost_ends : (p : Place) → p.words ≡ 0 → cost p ≡ 18 * p.ends
unfolding cost pick
cost_ends p h = rw h

-- what a command under way still sends, and all that waits
unfoldable pub remaining : Sending → ℕ
remaining s = (piece_length s.sender.piece - s.sender.gone) + 17 * s.sender.left + 18 * s.sender.ends + cost_of (waiting s.queue)

-- the sending side at rest, in a state in which a start may be
abbrev pub sent_all : Sending → Bool
sent_all s = idle s.sender && not (ltb s.queue.begun s.queue.used)

-- a tick that is not starved and sends one bit of what remains
pub record Falls (s : Sending) (w : ℕ) (n : Next) : Type 0 where
  pub fed : is_starve n ≡ false
  pub less : remaining (advanced n s w) + 1 ≡ remaining s

module _ (s : Sending) (w m : ℕ) (r : SendRules s 0 m) where
  falls_on : s.sender.gone < piece_length s.sender.piece → Falls s w GoOn
  unfolding advanced sender_after remaining
  falls_on h = record { fed = refl; less = omega arith }

  module _ (o : piece_length s.sender.piece ≤ s.sender.gone) where
    falls_word : 0 < s.sender.left → Falls s w LoadWord
    unfolding advanced sender_after remaining
    falls_word h =
        let k : Kept s.queue (queue_sent s.queue s.sender.left w) = kept_sent s.queue s.sender.left w r.queue r.eight in
        record { fed = refl; less = rw k.waits (omega arith) }

    -- TX holds the words that are to be sent
    falls_starve : 0 < s.sender.left → s.tx.count ≡ 0 → Falls s w Starve
    falls_starve h z = absurd (omega (arith, r.sum))

    module _ (z : s.sender.left ≡ 0) where
      falls_end : 0 < s.sender.ends → Falls s w LoadEnd
      unfolding advanced sender_after remaining
      falls_end h = record { fed = refl; less = omega arith }

      module _ (y : s.sender.ends ≡ 0) (b : s.queue.begun < s.queue.used) where
        abbrev first : Place
        first = place_at s.queue s.queue.begun

        abbrev others : List Place
        others = waiting (begun_one s.queue)

        next : waiting s.queue ≡ first ∷ others
        next = waiting_begun s.queue r.queue r.eight b

        some : 0 < first.words + first.ends
        unfolding all_some
        some = ltb-true _ _ (and_l _ (all_some others) (rw next at r.some))

        sum : cost_of (waiting s.queue) ≡ cost first + cost_of others
        unfolding cost_of
        sum = rw next

        falls_start : 0 < first.words → Falls s w StartWords
        unfolding advanced sender_after remaining
        falls_start h = record { fed = refl; less = omega (arith, sum, cost_words first h) }

        falls_ends : first.words ≡ 0 → Falls s w StartEnds
        unfolding advanced sender_after remaining
        falls_ends h = record { fed = refl; less = omega (arith, sum, cost_ends first h, some) }

  -- where nothing is left the tick would stay: it is at rest
  is_rest : piece_length s.sender.piece ≤ s.sender.gone → s.sender.left ≡ 0 → s.sender.ends ≡ 0 → s.queue.used ≤ s.queue.begun
      → sent_all s ≡ true
  is_rest o z y b = rw (le-leb _ _ o, eq-eqb _ _ z, eq-eqb _ _ y, le-ltb _ _ b)

  falls_choose : sent_all s ≡ false → Falls s w (choose s true)
  unfolding choose
  falls_choose g =
      pick_keeps (Falls s w) _ _ _ (λ p. falls_on (ltb-true _ _ p))
      (λ p. let o : piece_length s.sender.piece ≤ s.sender.gone = ltb-false _ _ p in
      pick_keeps (Falls s w) _ _ _
      (λ l. pick_keeps (Falls s w) _ _ _ (λ c. falls_word o (ltb-true _ _ l)) (λ c. falls_starve o (ltb-true _ _ l) (none_left _ c)))
      (λ l. let z : s.sender.left ≡ 0 = none_left _ l in
      pick_keeps (Falls s w) _ _ _ (λ e. falls_end o z (ltb-true _ _ e))
      (λ e. let y : s.sender.ends ≡ 0 = none_left _ e in
      pick_keeps (Falls s w) true _ _
      (λ t. pick_keeps (Falls s w) _ _ _
      (λ b. pick_keeps (Falls s w) _ _ _ (λ k. falls_start o z y (ltb-true _ _ b) (ltb-true _ _ k))
      (λ k. falls_ends o z y (ltb-true _ _ b) (none_left _ k)))
      (λ b. never _ (is_rest o z y (ltb-false _ _ b)) g))
      (λ t. never true refl t))))

  -- the whole of the sender's half: the place of a command that has ended was not waiting
  pub falls : sent_all s ≡ false → ((tick_sender s true w).starved ≡ false) × (remaining (tick_sender s true w).sending + 1 ≡ remaining s)
  unfolding tick_sender sent_by remaining
  falls g =
      let f : Falls s w (choose s true) = falls_choose g in
      let a : SendRules (advanced (choose s true) s w) (pick (is_starve (choose s true)) 0 0) (pick (is_starve (choose s true)) 0 m)
      = rules_advanced (choose s true) s w 0 m r (chosen s true) in
      let k : Kept (advanced (choose s true) s w).queue (finished (advanced (choose s true) s w)).queue
      = kept_finished (advanced (choose s true) s w) a.queue a.eight in
      (f.fed, rw k.waits f.less)

  pub rest_none : sent_all s ≡ true → remaining s ≡ 0
  unfolding remaining cost_of
  rest_none g =
      let o : piece_length s.sender.piece ≤ s.sender.gone = leb-true _ _ (search (and_l, and_r)) in
      let z : s.sender.left ≡ 0 = eqb-true _ _ (search (and_l, and_r)) in
      let y : s.sender.ends ≡ 0 = eqb-true _ _ (search (and_l, and_r)) in
      let b : ltb s.queue.begun s.queue.used ≡ false = not-true _ (search (and_l, and_r)) in
      rw (waiting_none s.queue (ltb-false _ _ b)) (omega arith)
