-- What to write into TXFFLVL (02 item 2): a command queued when no earlier one has a word left to take begins with the level's words in TX, or
-- all of its own.
-- Assumes nothing but that the layout fits.
use mathlib.Core.Path.{◌≡◌, refl, ap}
use mathlib.Core.Bool.{Bool, true, false}
use mathlib.Core.List.{List, [], ◌∷◌}
use Prim.Native.Nat.{ℕ, ◌+◌, ◌≤◌, ◌<◌}
use native.Mathlib.Omega.{arith}
use lib.Dec.{ltb}
use borrow.Author.Tests.{ltb-true, ltb-false, lt-ltb, le-leb, lt-leb}
use Rattle.base.specs.Truth.{never}
use Rattle.base.specs.Pick.{pick}
use Rattle.command.specs.Layouts.{Layouts}
use Rattle.line.specs.declared.Piece.TheVariants.{StartBit}
use Rattle.state.specs.Queue.{waiting, words_of}
use Rattle.state.specs.Rings.{tx_size}
use Rattle.state.specs.declared.Bridge.{Bridge}
use Rattle.state.specs.declared.Deed.TheVariants.{Enqueue}
use Rattle.state.specs.declared.Place.{Place}
use Rattle.state.specs.declared.Sending.{Sending}
use Rattle.next.specs.Next.{may_start, choose, is_start}
use Rattle.next.specs.declared.Next.{Next}
use Rattle.next.specs.declared.Next.TheVariants.{GoOn, LoadWord, Starve, LoadEnd, StartWords, StartEnds, Stay}
use Rattle.sender.specs.Sender.{sender_after, advanced, sent_by, tick_sender}
use Rattle.forwards.specs.Forward.{guard, forwarded, forward_word, asks_store}
use Rattle.host.specs.Frames.{planned, planned_in, data_word}
use Rattle.kept.specs.Rules.{BridgeRules}
use Rattle.kept.proofs.Fits.{LayoutFit}
use Rattle.kept.proofs.Sender.{Chosen, chosen}
use Rattle.kept.proofs.Sound.{facts_sound}
use Rattle.ticks.specs.Ticks.{tick_ends, tick_hears, ticked}
use Rattle.clock.specs.Clock.{clocked}
use Rattle.events.specs.Events.{reacted}
use Rattle.events.specs.Turn.{turned, turn}
use Rattle.events.specs.declared.Event.{Event}
use Rattle.events.specs.declared.Event.TheVariants.{Power, Word, Release, Tick, Clock as ClockReading}
use Rattle.events.proofs.Keeps.{rules_keep}
use Rattle.bridge.specs.Runs.{Config, next, end_of}
use Rattle.bridge.proofs.Reached.{Obeys, obeys_whole, obeyed_turn, step_obeys, run_obeys}
use Rattle.order.specs.Accepted.{plan_of}
use Rattle.order.specs.Premises.{is_power, losing}
use Rattle.ahead.specs.Ahead.{ahead, Begun, Each, Uncut}
use Rattle.ahead.specs.Level.{starts, Alone, start_of, in_tx, level, LevelAhead, WhatToWrite, NoLater}
use Rattle.ahead.proofs.Ahead.{each_later, how_many_ahead}
use Rattle.ahead.proofs.Plans.{orderly_word, orderly_release}
use Rattle.ahead.proofs.Waiting.{Poised, poised_place, poised_ticked, poised_performed, poised_by}

-- The tick of the start bit.
record Started (s t : Sending) (p : Place) : Type 0 where
  start_bit : t.sender.piece ≡ StartBit
  words : t.sender.left ≡ p.words
  tx_holds : t.tx.count ≡ s.tx.count

started_words : (b : Bridge) (p : Place) (least w : ℕ) → BridgeRules b → Poised b.sending p least → (x : Next) → Chosen b.sending x
    → is_start x ≡ true → Started b.sending (advanced x b.sending w) p
unfolding advanced sender_after
started_words b p least w r g GoOn h e = never false e refl
started_words b p least w r g LoadWord h e = never false e refl
started_words b p least w r g Starve h e = never false e refl
started_words b p least w r g LoadEnd h e = never false e refl
started_words b p least w r g StartWords h e = record {
  start_bit = refl;
  words = ap (λ (x : Place). x.words) (poised_place p least b.sending g r.sending.queue r.sending.eight h.3 h.4);
  tx_holds = refl;
}
started_words b p least w r g StartEnds h e = never false e refl
started_words b p least w r g Stay h e = never false e refl

started_ticked : (b : Bridge) (p : Place) (least : ℕ) (sin : Bool) (w : ℕ) → BridgeRules b → Poised b.sending p least
    → is_start (choose b.sending (may_start b.control)) ≡ true → Started b.sending (ticked b sin w).bridge.sending p
unfolding ticked tick_hears tick_ends tick_sender sent_by
started_ticked b p least sin w r g h =
    let t : Started b.sending (advanced _ b.sending w) p = started_words b p least w r g _ (chosen b.sending (may_start b.control)) h in
    record { start_bit = t.start_bit; words = t.words; tx_holds = t.tx_holds }

module _ (l : Layouts) (fits : LayoutFit l) where
  -- the event that queues it is a host's
  poised_after : (c : Config) (e : Event) (p : Place) → Obeys c → c.bridge.sending.sender.left ≡ 0
      → words_of (waiting c.bridge.sending.queue) ≡ 0 → (plan_of l c e).deed ≡ Enqueue p
      → Poised (next l c e).bridge.sending p (level c + 1)
  unfolding next turn turned reacted plan_of
  poised_after c (Power good layout) p o i a q = let z : ◌≡◌ {A = ℕ} 0 1 = cc in absurd (omega arith)
  poised_after c (Word w) p o i a q =
      rw (obeyed_turn l fits c (Word w) o)
      (poised_by l c.bridge _ _ p q i a o.rules (orderly_word c.bridge l w _) (rules_keep l fits c.bridge (Word w) 0 _ o.rules))
  poised_after c Release p o i a q =
      rw (obeyed_turn l fits c Release o)
      (poised_by l c.bridge _ _ p q i a o.rules (orderly_release c.bridge _) (rules_keep l fits c.bridge Release 0 0 o.rules))
  poised_after c (Tick sin) p o i a q = let z : ◌≡◌ {A = ℕ} 0 1 = cc in absurd (omega arith)
  poised_after c (ClockReading reading) p o i a q = let z : ◌≡◌ {A = ℕ} 0 1 = cc in absurd (omega arith)

  module _ (p : Place) (least : ℕ) (some : 0 < p.words) where
    stays_poised : (c : Config) (e : Event) → Obeys c → Poised c.bridge.sending p least → losing l c e ≡ false → starts c e ≡ false
        → Poised (next l c e).bridge.sending p least
    unfolding next turn turned reacted plan_of is_power
    stays_poised c (Power good layout) o g h n = never true refl h
    stays_poised c (Word w) o g h n =
        rw (obeyed_turn l fits c (Word w) o)
        (poised_performed p least l c.bridge _ _ g o.rules h (orderly_word c.bridge l w _)
        (rules_keep l fits c.bridge (Word w) 0 _ o.rules))
    stays_poised c Release o g h n =
        rw (obeyed_turn l fits c Release o)
        (poised_performed p least l c.bridge _ _ g o.rules h (orderly_release c.bridge _)
        (rules_keep l fits c.bridge Release 0 0 o.rules))
    stays_poised c (Tick sin) o g h n =
        rw (obeyed_turn l fits c (Tick sin) o) (poised_ticked p least some c.bridge sin _ o.rules g n)
    stays_poised c (ClockReading reading) o g h n = rw (obeyed_turn l fits c (ClockReading reading) o) (unfold clocked in g)

    run_poised : (es : List Event) (c : Config) → Obeys c → Poised c.bridge.sending p least → Uncut l c es
        → Each es (λ before x. starts (end_of l c before) x ≡ false) → Poised (end_of l c es).bridge.sending p least
    unfolding end_of
    run_poised [] c o g u n = g
    run_poised (e ∷ es) c o g u n =
        run_poised es (next l c e) (step_obeys l fits c e o) (stays_poised c e o g (u [] e es refl) (n [] e es refl)) (each_later e es _ u)
        (each_later e es _ n)

  then_started : (c : Config) (p : Place) (least : ℕ) (sin : Bool) → Obeys c → Poised c.bridge.sending p least → starts c (Tick sin) ≡ true
      → Started c.bridge.sending (next l c (Tick sin)).bridge.sending p
  unfolding next turn turned reacted
  then_started c p least sin o g h = rw (obeyed_turn l fits c (Tick sin) o) (started_ticked c.bridge p least sin _ o.rules g h)

  module _ (c : Config) (e : Event) (p : Place) (es : List Event) (sin : Bool) (a : Alone l c e p es sin) where
    abbrev before : Config
    before = end_of l (next l c e) es

    obeys_before : Obeys before
    obeys_before = run_obeys l fits (next l c e) es (step_obeys l fits c e (obeys_whole c a.whole))

    poised_before : Poised before.bridge.sending p (level c + 1)
    poised_before =
        run_poised p (level c + 1) a.with_words es (next l c e) (step_obeys l fits c e (obeys_whole c a.whole))
        (poised_after c e p (obeys_whole c a.whole) a.none_left a.none_waits a.queues) a.uncut a.waits

    started : Started before.bridge.sending (start_of l c e es sin).bridge.sending p
    started = then_started before p (level c + 1) sin obeys_before poised_before a.then_starts

    begins : Begun (start_of l c e es sin) p.words (in_tx (start_of l c e es sin))
    begins =
        let o : Obeys (start_of l c e es sin) = step_obeys l fits before (Tick sin) obeys_before in
        record {
          whole = record { stores = o.stores; rules = facts_sound _ o.rules; eight = o.rules.sending.eight };
          start_bit = started.start_bit;
          words = started.words;
          tx_holds = refl;
        }

    level_in_tx : in_tx (start_of l c e es sin) < p.words → level c + 1 ≤ in_tx (start_of l c e es sin)
    level_in_tx h =
        let k : level c + 1 ≤ in_tx before = poised_before.ahead (omega (arith, h, started.tx_holds)) in omega (arith, k, started.tx_holds)

    -- what neither the level nor the command's words fall short of is there
    as_many : (m : ℕ) → m ≤ level c + 1 → m ≤ p.words → m ≤ in_tx (start_of l c e es sin)
    as_many m h k = by (ltb (in_tx (start_of l c e es sin)) p.words) refl
      where
        by : (x : Bool) → ltb (in_tx (start_of l c e es sin)) p.words ≡ x → m ≤ in_tx (start_of l c e es sin)
        by true x = omega (arith, h, level_in_tx (ltb-true _ _ x))
        by false x = omega (arith, k, ltb-false (in_tx (start_of l c e es sin)) p.words x)

    at_most_all : (t : ℕ) → ahead p.words t ≤ p.words
    unfolding ahead
    at_most_all t = omega arith

    alone_ahead : LevelAhead l c e p es sin
    alone_ahead = record {
      begun = begins;
      level_ahead = λ h. let k : level c + 1 ≤ in_tx (start_of l c e es sin) = level_in_tx (omega (arith, h)) in omega (arith, k);
      level_enough = λ t pos h more u y n. (how_many_ahead l fits (start_of l c e es sin) p.words _ more begins u).enough t pos
          (as_many 1 (omega arith) a.with_words) (as_many _ (omega (arith, h)) (at_most_all t)) y (omega (arith, n));
    }

pub what_to_write : (l : Layouts) → LayoutFit l → WhatToWrite l
what_to_write l fits c e p es sin a = alone_ahead l fits c e p es sin a

pub no_later : (l : Layouts) → NoLater l
unfolding plan_of planned planned_in data_word forward_word forwarded guard asks_store pick
no_later l c words ends got sum mine reads w h g v r q =
    rw (h, lt-ltb got words g, le-leb (level c + 1) (in_tx c + 1) (omega (arith, v)), lt-leb tx_size (in_tx c) r, q) refl
