-- The sender's half of a tick keeps the rules of the sending side, by what the tick does. Assumes nothing.
use mathlib.Core.Path.{◌≡◌, refl, sym, subst}
use mathlib.Core.Bool.{Bool, true}
use mathlib.Core.List.{List, [], ◌∷◌}
use Prim.Native.Nat.{ℕ, zero, suc, ◌+◌, ◌-◌, ◌≤◌, ◌<◌}
use native.Mathlib.Nat.{mod-lt}
use native.Mathlib.Omega.{arith}
use lib.Dec.{leb}
use lib.ListN.{length}
use borrow.Author.Tests.{ltb-true, ltb-false}
use Rattle.base.specs.Pick.{pick, pick_keeps, and_r}
use Rattle.line.specs.Format.{piece_length}
use Rattle.next.specs.Next.{choose, is_starve}
use Rattle.sender.specs.Sender.{word_sent, queue_sent, sender_after, advanced, place_sent, command_sent, finished, sent_by, tick_sender}
use Rattle.next.specs.declared.Next.{Next}
use Rattle.next.specs.declared.Next.TheVariants.{GoOn, LoadWord, Starve, LoadEnd, StartWords, StartEnds, Stay}
use Rattle.state.specs.Facts.{QueueFit}
use Rattle.state.specs.Queue.{place_at, last_begun, waiting, words_of}
use Rattle.state.specs.Sending.{idle}
use Rattle.state.specs.declared.Place.{Place}
use Rattle.state.specs.declared.Queue.{Queue}
use Rattle.state.specs.declared.Returned.{Returned}
use Rattle.state.specs.declared.Sending.{Sending}
use Rattle.base.specs.Truth.{none_left}
use Rattle.queue.proofs.Laws.{busy_begun, speaking_begun}
use Rattle.kept.proofs.Queue.{Kept, kept_same, kept_marked, kept_returned, words_begun, some_begun, fit_begun, last_of, last_left_lem, last_left_kept, last_left_begun, last_of_within}
use Rattle.kept.specs.Rules.{SendRules}

-- the facts by which a tick chooses
abbrev pub over : Sending → Type 0
over s = piece_length s.sender.piece ≤ s.sender.gone

abbrev pub Chosen : Sending → Next → Type 0
Chosen s GoOn = s.sender.gone < piece_length s.sender.piece
Chosen s LoadWord = over s × (0 < s.sender.left) × (0 < s.tx.count)
Chosen s Starve = over s × (0 < s.sender.left) × (s.tx.count ≡ 0)
Chosen s LoadEnd = over s × (s.sender.left ≡ 0) × (0 < s.sender.ends)
Chosen s StartWords =
    over s × (s.sender.left ≡ 0) × (s.sender.ends ≡ 0) × (s.queue.begun < s.queue.used) × (0 < (place_at s.queue s.queue.begun).words)
Chosen s StartEnds =
    over s × (s.sender.left ≡ 0) × (s.sender.ends ≡ 0) × (s.queue.begun < s.queue.used) × ((place_at s.queue s.queue.begun).words ≡ 0)
Chosen s Stay = over s × (s.sender.left ≡ 0) × (s.sender.ends ≡ 0)

pub chosen : (s : Sending) (may : Bool) → Chosen s (choose s may)
unfolding choose
chosen s may =
    pick_keeps (Chosen s) _ _ _ (λ g. ltb-true _ _ g)
    (λ g. pick_keeps (Chosen s) _ _ _
    (λ l. pick_keeps (Chosen s) _ _ _ (λ c. (ltb-false _ _ g, ltb-true _ _ l, ltb-true _ _ c)) (λ c. (ltb-false _ _ g, ltb-true _ _ l, none_left _ c)))
    (λ l. pick_keeps (Chosen s) _ _ _ (λ e. (ltb-false _ _ g, none_left _ l, ltb-true _ _ e))
    (λ e. pick_keeps (Chosen s) _ _ _
    (λ m. pick_keeps (Chosen s) _ _ _
    (λ b. pick_keeps (Chosen s) _ _ _
    (λ w. (ltb-false _ _ g, none_left _ l, none_left _ e, ltb-true _ _ b, ltb-true _ _ w))
    (λ w. (ltb-false _ _ g, none_left _ l, none_left _ e, ltb-true _ _ b, none_left _ w)))
    (λ b. (ltb-false _ _ g, none_left _ l, none_left _ e)))
    (λ m. (ltb-false _ _ g, none_left _ l, none_left _ e)))))

pub chosen_as : (s : Sending) (may : Bool) (n : Next) → choose s may ≡ n → Chosen s n
chosen_as s may n e = subst (Chosen s) e (chosen s may)

-- a queue that keeps what waits
pub rules_requeued : (s : Sending) (q : Queue) (c m : ℕ) → SendRules s c m → Kept s.queue q
    → SendRules (record { tx = s.tx; queue = q; sender = s.sender }) c m
rules_requeued s q c m r k = record {
  tx = r.tx;
  queue = k.fit;
  eight = k.eight;
  gone = r.gone;
  left = r.left;
  ends = r.ends;
  sum = rw k.waits r.sum;
  room = rw (last_left_kept s (record { tx = s.tx; queue = q; sender = s.sender }) r.queue r.eight k refl) r.room;
  some = rw k.waits r.some;
  apart = r.apart;
}

pub kept_sent : (q : Queue) (left w : ℕ) → QueueFit q → length q.places ≡ 8 → Kept q (queue_sent q left w)
unfolding queue_sent
kept_sent q left w f l =
    pick_keeps (Kept q) _ _ _
    (λ b. let h : 0 < q.begun = ltb-true _ _ b in
    kept_marked q (q.begun - 1) (word_sent (place_at q (q.begun - 1)) left w) f l (omega arith) (unfold word_sent in omega arith) (unfold word_sent in omega arith))
    (λ b. kept_same q f l)

-- the places of a command that has ended, or whose words have, are given back
pub kept_finished : (s : Sending) → QueueFit s.queue → length s.queue.places ≡ 8 → Kept s.queue (finished s).queue
unfolding finished
kept_finished s f l =
    pick_keeps (λ (r : Returned). Kept s.queue r.queue) _ _ _
    (λ b. let h : 0 < s.queue.begun = busy_begun s.queue (and_r (idle s.sender) _ b) in
    kept_returned s.queue (s.queue.begun - 1) (command_sent (last_begun s.queue)) f l (omega arith)
    (unfold command_sent in omega arith) (unfold command_sent in omega arith))
    (λ b. pick_keeps (λ (r : Returned). Kept s.queue r.queue) _ _ _
    (λ c. let h : 0 < s.queue.begun = speaking_begun s.queue (and_r (leb 18 s.sender.gone) _ c) in
    kept_returned s.queue (s.queue.begun - 1) (place_sent (last_begun s.queue)) f l (omega arith)
    (unfold place_sent in omega arith) (unfold place_sent in omega arith))
    (λ c. kept_same s.queue f l))

-- what is still to come is for words after the one that is taken
room_loaded : (ps : List Place) (count left c m : ℕ) → 0 < left → 0 < count → count + c ≡ left + words_of ps + m → c ≤ last_of ps left → (0 < c → m ≡ 0)
    → c ≤ last_of ps (left - 1)
unfolding last_of words_of
room_loaded [] count left zero m hl hc s r a = omega arith
room_loaded [] count left (suc c) m hl hc s r a = let z : m ≡ 0 = a (omega arith) in omega arith
room_loaded (p ∷ ps) count left c m hl hc s r a = r

-- TX empty while a command has words left: they are still to come, it is the youngest, and no other frame's words are there
none_behind : (ps : List Place) (left c m : ℕ) → 0 < left → 0 + c ≡ left + words_of ps + m → c ≤ last_of ps left → (ps ≡ []) × (m ≡ 0)
unfolding last_of words_of
none_behind [] left c m h s r = (refl, omega arith)
none_behind (p ∷ ps) left c m h s r = let b : last_of ps p.words ≤ p.words + words_of ps = last_of_within ps p.words in absurd (omega arith)

room_of : (s : Sending) (c m : ℕ) → SendRules s c m → c ≤ last_of (waiting s.queue) s.sender.left
room_of s c m r = rw (last_left_lem s r.queue r.eight) at r.room

pub starved_alone : (s : Sending) (c m : ℕ) → SendRules s c m → Chosen s Starve → (waiting s.queue ≡ []) × (m ≡ 0)
starved_alone s c m r h = none_behind (waiting s.queue) s.sender.left c m h.1 (rw h.2 at r.sum) (room_of s c m r)

pub starved_owed : (s : Sending) (c m : ℕ) → SendRules s c m → Chosen s Starve → 0 < c
starved_owed s c m r h = omega (arith, r.sum)

-- one law for each thing that a tick does
module _ (s : Sending) (w c m : ℕ) (r : SendRules s c m) where
  pub rules_gone_on : Chosen s GoOn → SendRules (advanced GoOn s w) c m
  unfolding advanced sender_after
  rules_gone_on h = record {
    tx = r.tx;
    queue = r.queue;
    eight = r.eight;
    gone = omega arith;
    left = r.left;
    ends = r.ends;
    sum = r.sum;
    room = r.room;
    some = r.some;
    apart = r.apart;
  }

  pub rules_word_loaded : Chosen s LoadWord → SendRules (advanced LoadWord s w) c m
  unfolding advanced sender_after
  rules_word_loaded h =
      let k : Kept s.queue (queue_sent s.queue s.sender.left w) = kept_sent s.queue s.sender.left w r.queue r.eight in
      record {
        tx = record { head = mod-lt _ (omega arith); count = omega (arith, r.tx.count) };
        queue = k.fit;
        eight = k.eight;
        gone = omega arith;
        left = omega (arith, r.left);
        ends = r.ends;
        sum = rw k.waits (omega (arith, r.sum));
        room = rw (last_left_lem (advanced LoadWord s w) k.fit k.eight, k.waits)
            (room_loaded (waiting s.queue) s.tx.count s.sender.left c m h.1 h.2 r.sum (room_of s c m r) r.apart);
        some = rw k.waits r.some;
        apart = r.apart;
      }

  pub rules_starved : Chosen s Starve → SendRules (advanced Starve s w) 0 0
  unfolding advanced sender_after words_of
  rules_starved h = record {
    tx = r.tx;
    queue = r.queue;
    eight = r.eight;
    gone = omega arith;
    left = omega arith;
    ends = omega arith;
    sum = rw (starved_alone s c m r h).0 (omega arith);
    room = omega arith;
    some = r.some;
    apart = λ z. refl;
  }

  pub rules_end_loaded : Chosen s LoadEnd → SendRules (advanced LoadEnd s w) c m
  unfolding advanced sender_after
  rules_end_loaded h = record {
    tx = r.tx;
    queue = r.queue;
    eight = r.eight;
    gone = omega arith;
    left = omega arith;
    ends = omega (arith, r.ends);
    sum = omega (arith, r.sum);
    room = rw (last_left_kept s (advanced LoadEnd s w) r.queue r.eight (kept_same s.queue r.queue r.eight) (sym h.1)) r.room;
    some = r.some;
    apart = r.apart;
  }

  pub rules_words_started : Chosen s StartWords → SendRules (advanced StartWords s w) c m
  unfolding advanced sender_after
  rules_words_started h =
      record {
        tx = r.tx;
        queue = fit_begun s.queue r.queue h.3;
        eight = r.eight;
        gone = omega arith;
        left = r.queue.words s.queue.begun h.3;
        ends = omega (arith, r.queue.ends s.queue.begun h.3);
        sum = omega (arith, r.sum, words_begun s.queue r.queue r.eight h.3);
        room = rw (last_left_begun s (advanced StartWords s w) r.queue r.eight h.3 refl refl) r.room;
        some = some_begun s.queue r.queue r.eight h.3 r.some;
        apart = r.apart;
      }

  pub rules_ends_started : Chosen s StartEnds → SendRules (advanced StartEnds s w) c m
  unfolding advanced sender_after
  rules_ends_started h =
      record {
        tx = r.tx;
        queue = fit_begun s.queue r.queue h.3;
        eight = r.eight;
        gone = omega arith;
        left = omega arith;
        ends = omega (arith, r.queue.ends s.queue.begun h.3);
        sum = omega (arith, r.sum, words_begun s.queue r.queue r.eight h.3);
        room = rw (last_left_begun s (advanced StartEnds s w) r.queue r.eight h.3 refl (sym h.4)) r.room;
        some = some_begun s.queue r.queue r.eight h.3 r.some;
        apart = r.apart;
      }

  pub rules_stayed : Chosen s Stay → SendRules (advanced Stay s w) c m
  unfolding advanced sender_after
  rules_stayed h = record {
    tx = r.tx;
    queue = r.queue;
    eight = r.eight;
    gone = omega arith;
    left = omega arith;
    ends = omega arith;
    sum = omega (arith, r.sum);
    room = rw (last_left_kept s (advanced Stay s w) r.queue r.eight (kept_same s.queue r.queue r.eight) (sym h.1)) r.room;
    some = r.some;
    apart = r.apart;
  }

-- all of them; a starved tick leaves a frame with nothing to bring and nothing of its own
pub rules_advanced : (n : Next) (s : Sending) (w c m : ℕ) → SendRules s c m → Chosen s n
    → SendRules (advanced n s w) (pick (is_starve n) 0 c) (pick (is_starve n) 0 m)
unfolding pick
rules_advanced GoOn s w c m r h = rules_gone_on s w c m r h
rules_advanced LoadWord s w c m r h = rules_word_loaded s w c m r h
rules_advanced Starve s w c m r h = rules_starved s w c m r h
rules_advanced LoadEnd s w c m r h = rules_end_loaded s w c m r h
rules_advanced StartWords s w c m r h = rules_words_started s w c m r h
rules_advanced StartEnds s w c m r h = rules_ends_started s w c m r h
rules_advanced Stay s w c m r h = rules_stayed s w c m r h

pub rules_sent_by : (n : Next) (s : Sending) (w c m : ℕ) → SendRules s c m → Chosen s n
    → SendRules (sent_by n s w).sending (pick (is_starve n) 0 c) (pick (is_starve n) 0 m)
unfolding sent_by
rules_sent_by n s w c m r h =
    let a : SendRules (advanced n s w) (pick (is_starve n) 0 c) (pick (is_starve n) 0 m) = rules_advanced n s w c m r h in
    rules_requeued (advanced n s w) (finished (advanced n s w)).queue _ _ a (kept_finished (advanced n s w) a.queue a.eight)

pub tick_sender_keeps : (s : Sending) (may : Bool) (w c m : ℕ) → SendRules s c m
    → SendRules (tick_sender s may w).sending (pick (tick_sender s may w).starved 0 c) (pick (tick_sender s may w).starved 0 m)
unfolding tick_sender sent_by
tick_sender_keeps s may w c m r = rules_sent_by (choose s may) s w c m r (chosen s may)

starving : (n : Next) → is_starve n ≡ true → n ≡ Starve
starving GoOn e = cc
starving LoadWord e = cc
starving Starve e = refl
starving LoadEnd e = cc
starving StartWords e = cc
starving StartEnds e = cc
starving Stay e = cc

-- a starved tick finds a frame that has words to bring, and none of its own in TX
pub tick_starved : (s : Sending) (may : Bool) (w c m : ℕ) → SendRules s c m → (tick_sender s may w).starved ≡ true → (0 < c) × (m ≡ 0)
unfolding tick_sender sent_by
tick_starved s may w c m r e =
    let h : Chosen s Starve = chosen_as s may Starve (starving (choose s may) e) in
    (starved_owed s c m r h, (starved_alone s c m r h).1)
