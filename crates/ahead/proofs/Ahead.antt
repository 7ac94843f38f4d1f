-- Runs of a command under way, and the words that must be ahead (02 item 2). Assumes nothing but that the layout fits.
use mathlib.Core.Path.{◌≡◌, refl, ap, subst}
use mathlib.Core.Bool.{Bool, true, false, ◌&&◌}
use mathlib.Core.List.{List, [], ◌∷◌, ◌++◌}
use mathlib.Core.Logic.{◌≢◌}
use Prim.Native.Nat.{ℕ, ◌+◌, ◌-◌, ◌/◌, ◌≤◌, ◌<◌}
use native.Mathlib.Omega.{arith}
use lib.Dec.{eqb}
use borrow.Author.Tests.{ltb-true, eqb-true, lt-ltb, le-ltb}
use Rattle.base.specs.Pick.{pick, and_l, and_r}
use Rattle.base.specs.Truth.{never}
use Rattle.command.specs.Layouts.{Layouts}
use Rattle.line.specs.Format.{piece_length}
use Rattle.line.specs.declared.Piece.{Piece}
use Rattle.line.specs.declared.Piece.TheVariants.{StartBit}
use Rattle.line_rules.specs.Line.{piece_sound}
use Rattle.state.specs.declared.Bridge.{Bridge}
use Rattle.state.specs.declared.Note.{Note}
use Rattle.state.specs.declared.Note.TheVariants.{TxEmpty}
use Rattle.state.specs.declared.Place.{Place}
use Rattle.state.specs.declared.Sender.{Sender}
use Rattle.state.specs.declared.Sending.{Sending}
use Rattle.state.specs.Queue.{speaks}
use Rattle.next.specs.Next.{may_start, choose, is_starve}
use Rattle.next.specs.declared.Next.{Next}
use Rattle.next.specs.declared.Next.TheVariants.{GoOn, LoadWord, Starve, LoadEnd, StartWords, StartEnds, Stay}
use Rattle.sender.specs.Sender.{sent_by, tick_sender}
use Rattle.kept.proofs.Fits.{LayoutFit}
use Rattle.kept.proofs.Sender.{Chosen, chosen}
use Rattle.ticks.specs.Ticks.{tick_note, tick_ends, tick_hears, ticked}
use Rattle.clock.specs.Clock.{clocked}
use Rattle.events.specs.Events.{reacted}
use Rattle.events.specs.Turn.{turned, turn}
use Rattle.events.specs.declared.Event.{Event}
use Rattle.events.specs.declared.Event.TheVariants.{Power, Word, Release, Tick, Clock as ClockReading}
use Rattle.bridge.specs.Runs.{Config, refuses, out_of, next, end_of, ticks_in}
use Rattle.bridge.proofs.Plans.{of_host, tame_word, tame_release}
use Rattle.bridge.proofs.Reached.{Obeys, obeys_whole, obeyed_turn, step_obeys, run_obeys}
use Rattle.bridge.proofs.Ticks.{ticks_append}
use Rattle.order.specs.Accepted.{plan_of}
use Rattle.ahead.specs.Ahead.{taken_at, ahead, Begun, tick_after, puts, stored_in, Each, Uncut, Fed, note_after, AtLeastEvery, Takes, HowManyAhead}
use Rattle.ahead.proofs.Numbers.{each_in_time, covers}
use Rattle.ahead.proofs.Going.{Going, going_as, goes_on}

-- Each event of a run, the first and the others.
pub each_none : (P : List Event → Event → Type 0) → Each [] P
each_none P [] x after q = let z : ◌≡◌ {A = ℕ} 0 1 = cc in absurd (omega arith)
each_none P (y ∷ before) x after q = let z : ◌≡◌ {A = ℕ} 0 1 = cc in absurd (omega arith)

pub each_first : (e : Event) (es : List Event) (P : List Event → Event → Type 0) → P [] e → Each es (λ before x. P (e ∷ before) x) → Each (e ∷ es) P
each_first e es P h t [] x after q = let d : e ≡ x = cc in subst (P []) d h
each_first e es P h t (y ∷ before) x after q =
    let d : e ≡ y = cc in
    let r : es ≡ before ++ (x ∷ after) = cc in
    subst (λ (z : Event). P (z ∷ before) x) d (t before x after r)

pub each_later : (e : Event) (es : List Event) (P : List Event → Event → Type 0) → Each (e ∷ es) P → Each es (λ before x. P (e ∷ before) x)
each_later e es P h before x after q = h (e ∷ before) x after (ap (λ (z : List Event). e ∷ z) q)

-- What a tick does, by what is due: it does not starve where TX lacks fewer words than are left.
not_starved : (s : Sending) (n due lacks : ℕ) → Going s n due lacks → ((k : ℕ) → k < n → due ≡ taken_at k → lacks < n - k)
    → (x : Next) → Chosen s x → is_starve x ≡ false
unfolding taken_at
not_starved s n due lacks g h GoOn c = refl
not_starved s n due lacks g h LoadWord c = refl
not_starved s n due lacks g h Starve c =
    let f : lacks < n - (n - s.sender.left) = h (n - s.sender.left) (omega (arith, g.time, c.0, c.1)) (omega (arith, g.time, c.0, c.1)) in
    absurd (omega (arith, f, g.time, g.short, c.0, c.1, c.2))
not_starved s n due lacks g h LoadEnd c = refl
not_starved s n due lacks g h StartWords c = refl
not_starved s n due lacks g h StartEnds c = refl
not_starved s n due lacks g h Stay c = refl

-- Notes.
of_host_lem : (n : Note) → of_host n ≡ true → n ≢ TxEmpty
unfolding of_host refuses
of_host_lem n h e = never (of_host TxEmpty) (rw e at h) refl

tick_note_lem : (b : Bridge) (sin : Bool) (w : ℕ) → is_starve (choose b.sending (may_start b.control)) ≡ true → (ticked b sin w).note ≡ TxEmpty
unfolding ticked tick_hears tick_ends tick_sender sent_by tick_note pick
tick_note_lem b sin w h = rw h

fed_note : (full : Bool) → tick_note false full ≢ TxEmpty
unfolding tick_note pick
fed_note true e = let z : ◌≡◌ {A = ℕ} 0 1 = cc in absurd (omega arith)
fed_note false e = let z : ◌≡◌ {A = ℕ} 0 1 = cc in absurd (omega arith)

tick_unnoted : (b : Bridge) (sin : Bool) (w : ℕ) → is_starve (choose b.sending (may_start b.control)) ≡ false → (ticked b sin w).note ≢ TxEmpty
unfolding ticked tick_hears tick_ends tick_sender sent_by
tick_unnoted b sin w h = rw h (fed_note _)

module _ (l : Layouts) (fits : LayoutFit l) (n : ℕ) (p : 0 < n) where
  -- A run, as long as its ticks are fed, goes on to where its ticks and the words stored bring it.
  run_goes : (es : List Event) (c : Config) (due lacks : ℕ) → Obeys c → Going c.bridge.sending n due lacks → due + ticks_in es ≤ taken_at (n - 1) + 1
      → Uncut l c es → Fed l c es → Going (end_of l c es).bridge.sending n (due + ticks_in es) (lacks - stored_in l c es)
  unfolding end_of stored_in
  run_goes [] c due lacks o g t u f = going_as _ n due lacks _ _ (unfold ticks_in in omega arith) (omega arith) g
  run_goes (e ∷ es) c due lacks o g t u f =
      let s : ticks_in (e ∷ es) ≡ ticks_in (e ∷ []) + ticks_in es = ticks_append (e ∷ []) es in
      going_as _ n _ _ _ _ (omega (arith, s)) (omega arith)
      (run_goes es (next l c e) (due + ticks_in (e ∷ [])) (lacks - puts (plan_of l c e).store) (step_obeys l fits c e o)
      (goes_on l fits c n due lacks o g e p (omega (arith, s, t)) (u [] e es refl) (f [] e es refl)) (omega (arith, s, t)) (each_later e es _ u)
      (each_later e es _ f))

  -- when word k is due, TX lacks fewer words than are left from it on
  abbrev Covered : Config → ℕ → ℕ → List Event → Type 0
  Covered c due lacks es =
      (before : List Event) (sin : Bool) (after : List Event) → es ≡ before ++ (Tick sin ∷ after) → (k : ℕ) → k < n
      → due + ticks_in before ≡ taken_at k → lacks - stored_in l c before < n - k

  fed_first : (c : Config) (e : Event) (es : List Event) (due lacks : ℕ) → Obeys c → Going c.bridge.sending n due lacks → Covered c due lacks (e ∷ es)
      → (out_of l c e).answer.note ≢ TxEmpty
  unfolding turn turned reacted clocked ticks_in stored_in
  fed_first c (Power good layout) es due lacks o g v = rw (obeyed_turn l fits c (Power good layout) o) (λ q. let z : ◌≡◌ {A = ℕ} 0 1 = cc in absurd (omega arith))
  fed_first c (Word w) es due lacks o g v = rw (obeyed_turn l fits c (Word w) o) (of_host_lem _ (tame_word c.bridge l w _).note)
  fed_first c Release es due lacks o g v = rw (obeyed_turn l fits c Release o) (of_host_lem _ (tame_release c.bridge c.bridge.frame.phase).note)
  fed_first c (Tick sin) es due lacks o g v =
      rw (obeyed_turn l fits c (Tick sin) o)
      (tick_unnoted c.bridge sin _
      (not_starved c.bridge.sending n due lacks g
      (λ k h e. let f : lacks - 0 < n - k = v [] sin es refl k h (omega (arith, e)) in omega (arith, f))
      (choose c.bridge.sending (may_start c.bridge.control)) (chosen c.bridge.sending (may_start c.bridge.control))))
  fed_first c (ClockReading reading) es due lacks o g v =
      rw (obeyed_turn l fits c (ClockReading reading) o) (λ q. let z : ◌≡◌ {A = ℕ} 0 1 = cc in absurd (omega arith))

  run_fed : (es : List Event) (c : Config) (due lacks : ℕ) → Obeys c → Going c.bridge.sending n due lacks → due + ticks_in es ≤ taken_at (n - 1) + 1
      → Uncut l c es → Covered c due lacks es → Fed l c es
  unfolding end_of stored_in
  run_fed [] c due lacks o g t u v = each_none _
  run_fed (e ∷ es) c due lacks o g t u v =
      let s : ticks_in (e ∷ es) ≡ ticks_in (e ∷ []) + ticks_in es = ticks_append (e ∷ []) es in
      let f : (out_of l c e).answer.note ≢ TxEmpty = fed_first c e es due lacks o g v in
      each_first e es _ f
      (run_fed es (next l c e) (due + ticks_in (e ∷ [])) (lacks - puts (plan_of l c e).store) (step_obeys l fits c e o)
      (goes_on l fits c n due lacks o g e p (omega (arith, s, t)) (u [] e es refl) f) (omega (arith, s, t)) (each_later e es _ u)
      (λ before sin after q k h d.
      let r : ticks_in (e ∷ before) ≡ ticks_in (e ∷ []) + ticks_in before = ticks_append (e ∷ []) before in
      let w : lacks - (puts (plan_of l c e).store + stored_in l (next l c e) before) < n - k
      = v (e ∷ before) sin after (ap (λ (z : List Event). e ∷ z) q) k h (omega (arith, d, r)) in
      omega (arith, w)))

-- A command that begins.
piece_started : (u : Piece) (s : Sender) (b : Bool) (q : Place) → u ≡ StartBit → piece_sound u s b q ≡ true → (s.gone ≡ 1) × (0 < s.left)
unfolding piece_sound
piece_started u s b q e h =
    let t : (eqb s.gone 1 && eqb s.left q.words && speaks q && eqb s.ends (q.ends + 1) && b) ≡ true = rw e at h in
    let g : s.gone ≡ 1 = eqb-true _ _ (search (and_l, and_r) depth 30) in
    let w : s.left ≡ q.words = eqb-true _ _ (search (and_l, and_r) depth 30) in
    let x : 0 < q.words = ltb-true _ _ (search (and_l, and_r) depth 30) in
    (g, omega (arith, w, x))

module _ (c : Config) (n a : ℕ) (b : Begun c n a) where
  begun_bits : (c.bridge.sending.sender.gone ≡ 1) × (0 < c.bridge.sending.sender.left)
  begun_bits = piece_started _ _ _ _ b.start_bit (obeys_whole c b.whole).rules.stands.sender.piece

  begun_some : 0 < n
  begun_some = omega (arith, begun_bits.1, b.words)

  begun_going : Going c.bridge.sending n 1 (n - a)
  begun_going =
      let d : piece_length c.bridge.sending.sender.piece ≡ 1 = rw b.start_bit in
      record {
        time = omega (arith, d, begun_bits.0, b.words);
        bits = omega (arith, d, begun_bits.0);
        short = omega (arith, b.words, b.tx_holds);
      }

-- Word k is due.
module _ (s : Sending) (n k lacks : ℕ) (g : Going s n (taken_at k) lacks) (h : k < n) where
  due_left : (piece_length s.sender.piece ≤ s.sender.gone) × (s.sender.left ≡ n - k)
  unfolding taken_at
  due_left = (omega (arith, g.time, g.bits, h), omega (arith, g.time, g.bits, h))

  due_word : (may : Bool) → lacks < n - k → choose s may ≡ LoadWord
  unfolding choose pick
  due_word may f =
      rw (le-ltb _ _ due_left.0, lt-ltb 0 s.sender.left (omega (arith, due_left.1, h)), lt-ltb 0 s.tx.count (omega (arith, due_left.1, g.short, f, h)))

  due_none : (may : Bool) → n - k ≤ lacks → choose s may ≡ Starve
  unfolding choose pick
  due_none may f =
      rw (le-ltb _ _ due_left.0, lt-ltb 0 s.sender.left (omega (arith, due_left.1, h)), le-ltb 0 s.tx.count (omega (arith, due_left.1, g.short, f, h)))

module _ (l : Layouts) (fits : LayoutFit l) (c : Config) (n a : ℕ) (es : List Event) (b : Begun c n a) (u : Uncut l c es) where
  module _ (f : Fed l c es) (k : ℕ) (h : k < n) (t : tick_after es ≡ taken_at k) where
    at_word : Going (end_of l c es).bridge.sending n (taken_at k) (n - a - stored_in l c es)
    unfolding tick_after taken_at
    at_word =
        going_as _ n _ _ _ _ (omega (arith, t)) refl
        (run_goes l fits n (begun_some c n a b) es c 1 (n - a) (obeys_whole c b.whole) (begun_going c n a b) (omega (arith, t, h)) u f)

    word_taken_lem : k < a + stored_in l c es → Takes (end_of l c es) n k
    word_taken_lem w = record {
      does = due_word _ n k _ at_word h _ (omega (arith, w, h));
      left = (due_left _ n k _ at_word h).1;
    }

    word_missed : a + stored_in l c es ≤ k → (sin : Bool) → note_after l c es (Tick sin) ≡ TxEmpty
    unfolding turn turned reacted
    word_missed w sin =
        rw (note_after, obeyed_turn l fits (end_of l c es) (Tick sin) (run_obeys l fits c es (obeys_whole c b.whole)))
        (tick_note_lem _ sin _ (rw (due_none _ n k _ at_word h (may_start (end_of l c es).bridge.control) (omega (arith, w, h)))))

  enough_ahead : (p : ℕ) → 0 < p → 0 < a → ahead n p ≤ a → AtLeastEvery p l c (n - a) es → ticks_in es ≤ taken_at (n - 1) → Fed l c es
  unfolding tick_after
  enough_ahead p d o e y t =
      run_fed l fits n (begun_some c n a b) es c 1 (n - a) (obeys_whole c b.whole) (begun_going c n a b) (omega (arith, t)) u
      (λ before sin after q k h z.
      let m : ticks_in before + 1 ≡ taken_at k = omega (arith, z) in
      covers n a k (taken_at k / p) (stored_in l c before) h (each_in_time n a p d o e k h)
      (λ r. subst (λ (x : ℕ). x / p ≤ stored_in l c before) m (omega (arith, y before sin after q r))))

  -- with fewer, the last word is late
  too_few_ahead : (p : ℕ) → 0 < p → a < ahead n p → Fed l c es → tick_after es ≡ taken_at (n - 1) → stored_in l c es ≤ tick_after es / p → (sin : Bool)
      → note_after l c es (Tick sin) ≡ TxEmpty
  unfolding ahead
  too_few_ahead p d e f t w sin =
      let m : taken_at (n - 1) / p < n - a = omega (arith, e) in
      word_missed f (n - 1) (omega (arith, begun_some c n a b)) t
      (let v : stored_in l c es ≤ taken_at (n - 1) / p = subst (λ (x : ℕ). stored_in l c es ≤ x / p) t w in omega (arith, m, v)) sin

pub how_many_ahead : (l : Layouts) → LayoutFit l → HowManyAhead l
how_many_ahead l fits c n a es b u = record {
  in_time = λ f k h t w. word_taken_lem l fits c n a es b u f k (omega (arith, h)) t (omega (arith, w));
  too_late = λ f k h t w. word_missed l fits c n a es b u f k (omega (arith, h)) t (omega (arith, w));
  enough = λ p d o e y t. enough_ahead l fits c n a es b u p (omega (arith, d)) (omega (arith, o)) (omega (arith, e))
      (λ before sin after q r. y before sin after q (omega (arith, r))) (omega (arith, t));
  too_few = λ p d e f t w. too_few_ahead l fits c n a es b u p (omega (arith, d)) (omega (arith, e)) f t (omega (arith, w));
}
