-- A queued command that waits for its start bit, no word before it left to take: it stays the oldest with words that waits, and TX keeps the
-- level's words, or all of its own (01 Frames, The line). Assumes nothing.
use Rattle.std.specs.Prelude.{Option, None, Some}
use mathlib.Core.Path.{◌≡◌, refl, ap, subst, sym, ◌∙◌}
use mathlib.Core.Bool.{Bool, true, false}
use mathlib.Core.List.{List, [], ◌∷◌, ◌++◌, append_assoc}
use Prim.Native.Nat.{ℕ, ◌+◌, ◌≤◌, ◌<◌}
use native.Mathlib.Omega.{arith}
use lib.ListN.{length}
use Rattle.base.specs.Truth.{never}
use Rattle.command.specs.Layouts.{Layouts}
use Rattle.state.specs.Facts.{QueueFit}
use Rattle.state.specs.Frame.{to_come}
use Rattle.state.specs.Queue.{place_at, queued, begun_one, waiting, words_of}
use Rattle.state.specs.Rings.{ring_after}
use Rattle.state.specs.Sending.{stored, done}
use Rattle.state.specs.declared.Bridge.{Bridge}
use Rattle.state.specs.declared.Clock.{Clock}
use Rattle.state.specs.declared.Deed.{Deed}
use Rattle.state.specs.declared.Deed.TheVariants.{Leave, Enqueue, TakeBack, ClearAll, ResetAll}
use Rattle.state.specs.declared.Phase.{Phase}
use Rattle.state.specs.declared.Place.{Place}
use Rattle.state.specs.declared.Queue.{Queue}
use Rattle.state.specs.declared.Sending.{Sending}
use Rattle.next.specs.Next.{may_start, choose, is_start}
use Rattle.next.specs.declared.Next.{Next}
use Rattle.next.specs.declared.Next.TheVariants.{GoOn, LoadWord, Starve, LoadEnd, StartWords, StartEnds, Stay}
use Rattle.sender.specs.Sender.{sender_after, advanced, sent_by, tick_sender, finished}
use Rattle.plan.specs.Plan.{performed}
use Rattle.plan.specs.declared.Plan.{Plan}
use Rattle.forwards.specs.Forward.{clears}
use Rattle.kept.specs.Rules.{SendRules, BridgeRules}
use Rattle.kept.proofs.Queue.{Kept, kept_trans, waiting_queued, waiting_begun}
use Rattle.kept.proofs.Reader.{tick_reader_keeps}
use Rattle.kept.proofs.Sender.{Chosen, chosen, kept_finished, rules_advanced}
use Rattle.ticks.specs.Ticks.{tick_ends, tick_hears, ticked}
use Rattle.ahead.proofs.Plans.{Orderly, OrderlyBy, concluded_to_come, idle_to_come}

-- place p is the oldest with words of those that wait; a list, because places move up as older ones are freed
pub record Foremost (q : Queue) (p : Place) : Type 0 where
  pub older : List Place
  pub wordless : words_of older ≡ 0
  pub behind : List Place
  pub first : waiting q ≡ older ++ (p ∷ behind)

-- it is the next to take words; `least` words are in TX, or all of its own
pub record Poised (s : Sending) (p : Place) (least : ℕ) : Type 0 where
  pub none_left : s.sender.left ≡ 0
  pub foremost : Foremost s.queue p
  pub ahead : s.tx.count < p.words → least ≤ s.tx.count

words_append : (xs ys : List Place) → words_of (xs ++ ys) ≡ words_of xs + words_of ys
unfolding words_of
words_append [] ys = omega arith
words_append (x ∷ xs) ys = omega (arith, words_append xs ys)

module _ (p : Place) (least : ℕ) where
  poised_requeued : (s : Sending) (q : Queue) → Poised s p least → Kept s.queue q
      → Poised (record { tx = s.tx; queue = q; sender = s.sender }) p least
  poised_requeued s q g k =
      let f : Foremost s.queue p = g.foremost in
      record {
        none_left = g.none_left;
        foremost = record { older = f.older; wordless = f.wordless; behind = f.behind; first = k.waits ∙ f.first };
        ahead = g.ahead;
      }

  -- The next with words to begin is this one.
  next_place : (x : Place) (rest older behind : List Place) → words_of older ≡ 0 → x ∷ rest ≡ older ++ (p ∷ behind) → 0 < x.words → x ≡ p
  unfolding words_of
  next_place x rest [] behind z e h = cc
  next_place x rest (y ∷ older) behind z e h = let d : y ≡ x = cc in absurd (omega (arith, z, subst (λ (u : Place). 0 < u.words) (sym d) h))

  pub poised_place : (s : Sending) → Poised s p least → QueueFit s.queue → length s.queue.places ≡ 8 → s.queue.begun < s.queue.used
      → 0 < (place_at s.queue s.queue.begun).words → place_at s.queue s.queue.begun ≡ p
  poised_place s g f l h k =
      let o : Foremost s.queue p = g.foremost in
      next_place _ _ o.older o.behind o.wordless (sym (waiting_begun s.queue f l h) ∙ o.first) k

  -- A tick that does not begin it.
  module _ (some : 0 < p.words) where
    -- ENDs alone begin before it
    ends_begin : (s : Sending) (w : ℕ) (x : Place) (rest older behind : List Place) → words_of older ≡ 0 → x ∷ rest ≡ older ++ (p ∷ behind) → x.words ≡ 0
        → waiting (begun_one s.queue) ≡ rest → (s.tx.count < p.words → least ≤ s.tx.count) → Poised (advanced StartEnds s w) p least
    unfolding advanced sender_after words_of
    ends_begin s w x rest [] behind z e h q a = let d : x ≡ p = cc in absurd (omega (arith, some, subst (λ (u : Place). u.words ≡ 0) d h))
    ends_begin s w x rest (y ∷ older) behind z e h q a =
        let r : rest ≡ older ++ (p ∷ behind) = cc in
        record {
          none_left = refl;
          foremost = record { older = older; wordless = omega (arith, z); behind = behind; first = q ∙ r };
          ahead = a;
        }

    poised_tick : (s : Sending) (w : ℕ) → Poised s p least → QueueFit s.queue → length s.queue.places ≡ 8 → (x : Next) → Chosen s x
        → is_start x ≡ false → Poised (advanced x s w) p least
    unfolding advanced sender_after
    poised_tick s w g f l GoOn h n = record { none_left = g.none_left; foremost = g.foremost; ahead = g.ahead }
    poised_tick s w g f l LoadWord h n = absurd (omega (arith, h.1, g.none_left))
    poised_tick s w g f l Starve h n = absurd (omega (arith, h.1, g.none_left))
    poised_tick s w g f l LoadEnd h n = record { none_left = refl; foremost = g.foremost; ahead = g.ahead }
    poised_tick s w g f l StartWords h n = never true refl n
    poised_tick s w g f l StartEnds h n =
        let o : Foremost s.queue p = g.foremost in
        ends_begin s w _ _ o.older o.behind o.wordless (sym (waiting_begun s.queue f l h.3) ∙ o.first) h.4 refl g.ahead
    poised_tick s w g f l Stay h n = record { none_left = refl; foremost = g.foremost; ahead = g.ahead }

    pub poised_ticked : (b : Bridge) (sin : Bool) (w : ℕ) → BridgeRules b → Poised b.sending p least
        → is_start (choose b.sending (may_start b.control)) ≡ false → Poised (ticked b sin w).bridge.sending p least
    unfolding ticked tick_hears tick_ends tick_sender sent_by
    poised_ticked b sin w r g n =
        let x : Next = choose b.sending (may_start b.control) in
        let s : Sending = advanced x b.sending w in
        let h : Chosen b.sending x = chosen b.sending (may_start b.control) in
        let a : SendRules s _ _ = rules_advanced x b.sending w _ _ r.sending h in
        let k : Kept s.queue (finished s).queue = kept_finished s a.queue a.eight in
        poised_requeued s _ (poised_tick b.sending w g r.sending.queue r.sending.eight x h n)
        (kept_trans _ _ _ k (tick_reader_keeps b.receiving (finished s).queue _ sin r.rx k.fit k.eight).queue)

  -- A plan of the host's that clears nothing.
  poised_stored : (s : Sending) → Poised s p least → (st : Option ℕ) → Poised (stored s st) p least
  unfolding stored ring_after
  poised_stored s g None = g
  poised_stored s g (Some w) = record {
    none_left = g.none_left;
    foremost = g.foremost;
    ahead = λ h. let k : least ≤ s.tx.count = g.ahead (omega (arith, h)) in omega (arith, k);
  }

  -- where words are taken back none is to come, so by the sum of the record rules all that wait are in TX
  poised_done : (s : Sending) (d : Deed) (ph : Phase) (level count coming mine : ℕ) → Poised s p least → QueueFit s.queue
      → length s.queue.places ≡ 8 → clears d ≡ false → Orderly level count d ph → coming ≤ to_come ph → SendRules (done s d) coming mine
      → Poised (done s d) p least
  unfolding done clears words_of
  poised_done s Leave ph level count coming mine g f l c v z r = g
  poised_done s (Enqueue x) ph level count coming mine g f l c v z r =
      let o : Foremost s.queue p = g.foremost in
      record {
        none_left = g.none_left;
        foremost = record {
          older = o.older;
          wordless = o.wordless;
          behind = o.behind ++ (x ∷ []);
          first =
              waiting_queued s.queue x f l (omega (arith, r.queue.most)) ∙ ap (λ (ps : List Place). ps ++ (x ∷ [])) o.first
              ∙ append_assoc o.older (p ∷ o.behind) (x ∷ []);
        };
        ahead = g.ahead;
      }
  poised_done s (TakeBack x) ph level count coming mine g f l c v z r =
      let o : Foremost s.queue p = g.foremost in
      let e : words_of (waiting s.queue) ≡ words_of o.older + (p.words + words_of o.behind)
      = ap words_of o.first ∙ words_append o.older (p ∷ o.behind) in
      record {
        none_left = g.none_left;
        foremost = o;
        ahead = λ h. absurd (omega (arith, h, r.sum, e, z, idle_to_come ph v));
      }
  poised_done s ClearAll ph level count coming mine g f l c v z r = never true refl c
  poised_done s ResetAll ph level count coming mine g f l c v z r = never true refl c

  pub poised_performed : (l : Layouts) (b : Bridge) (clock : Clock) (x : Plan) → Poised b.sending p least → BridgeRules b → clears x.deed ≡ false
      → OrderlyBy b x → BridgeRules (performed l b clock x) → Poised (performed l b clock x).sending p least
  unfolding performed stored
  poised_performed l b clock x g i c v r =
      poised_done (stored b.sending x.store) x.deed x.phase _ _ _ _ (poised_stored b.sending g x.store) i.sending.queue
      i.sending.eight c v (concluded_to_come l _ _ _ x.phase) r.sending

-- The event that queues it, where no word of an earlier command is left to take: by the sum of the record rules what TX lacks of it is to come.
module _ (s : Sending) (st : Option ℕ) (p : Place) (ph : Phase) (least coming mine : ℕ) (i : s.sender.left ≡ 0)
    (a : words_of (waiting s.queue) ≡ 0) (f : QueueFit s.queue) (l : length s.queue.places ≡ 8) (z : coming ≤ to_come ph) where
  abbrev Poises : Deed → Type 0
  Poises d = Orderly least (ring_after s.tx st).count d ph → SendRules (done (stored s st) d) coming mine → Poised (done (stored s st) d) p least

  poised_queued : Poises (Enqueue p)
  unfolding done stored words_of
  poised_queued v r =
      let q : waiting (queued s.queue p) ≡ waiting s.queue ++ (p ∷ []) = waiting_queued s.queue p f l (omega (arith, r.queue.most)) in
      let e : words_of (waiting (queued s.queue p)) ≡ words_of (waiting s.queue) + (p.words + 0)
      = ap words_of q ∙ words_append (waiting s.queue) (p ∷ []) in
      record {
        none_left = i;
        foremost = record { older = waiting s.queue; wordless = a; behind = []; first = q };
        ahead = λ h. v (omega (arith, h, r.sum, e, i, a, z));
      }

  poised_deed : (d : Deed) → d ≡ Enqueue p → Poises d
  poised_deed d e = subst Poises (sym e) poised_queued

pub poised_by : (l : Layouts) (b : Bridge) (clock : Clock) (x : Plan) (p : Place) → x.deed ≡ Enqueue p → b.sending.sender.left ≡ 0
    → words_of (waiting b.sending.queue) ≡ 0 → BridgeRules b
    → OrderlyBy b x → BridgeRules (performed l b clock x) → Poised (performed l b clock x).sending p (b.control.regs.txfflvl + 1)
unfolding performed
poised_by l b clock x p e o a i v r =
    poised_deed b.sending x.store p x.phase _ _ _ o a i.sending.queue i.sending.eight (concluded_to_come l _ _ _ x.phase) x.deed e v
    r.sending
