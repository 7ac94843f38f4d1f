-- What is still to come falls with every tick: the bits to send, and then the bits under way in the chain. When none is left the queue is empty.
-- Assumes nothing.
use mathlib.Core.Path.{◌≡◌, refl, ap, sym, ◌∙◌, subst}
use mathlib.Core.Bool.{Bool, true, false, not}
use mathlib.Core.List.{List, [], ◌∷◌, ◌++◌}
use mathlib.Core.Logic.{inl, inr}
use Prim.Native.Nat.{ℕ, suc, ◌+◌, ◌-◌, ◌≤◌, ◌<◌}
use native.Mathlib.Omega.{arith}
use native.Mathlib.Decide.{ℕ_discrete}
use lib.Dec.{ltb, eqb}
use lib.ListN.{length}
use borrow.Author.Tests.{ltb-false, le-ltb, eq-eqb, ne_eqb, not-true}
use Rattle.base.specs.Pick.{pick, pick_keeps, and_l, and_r}
use Rattle.base.specs.Bits.{val}
use Rattle.base.specs.Truth.{and_last}
use Rattle.command.specs.Layouts.{Layouts}
use Rattle.line.specs.Format.{piece_length}
use Rattle.line.specs.declared.Ear.{Ear}
use Rattle.state.specs.Facts.{QueueFit}
use Rattle.state.specs.Queue.{waiting, words_of, under_way, last_begun}
use Rattle.state.specs.Sending.{idle}
use Rattle.state.specs.Rings.{oldest}
use Rattle.state.specs.declared.Sender.{Sender}
use Rattle.state.specs.declared.Sending.{Sending}
use Rattle.next.specs.Next.{may_start, choose, bit_sent, is_starve}
use Rattle.next.specs.declared.Next.{Next}
use Rattle.next.specs.declared.Next.TheVariants.{Stay}
use Rattle.sender.specs.Sender.{sender_after, advanced, finished, sent_by, tick_sender}
use Rattle.ticks.specs.Ticks.{flags_sent}
use Rattle.events.specs.declared.Event.TheVariants.{Tick}
use Rattle.place_rules.specs.Places.{awaits}
use Rattle.kept.specs.Rules.{SendRules, Stands}
use Rattle.kept.proofs.Fits.{LayoutFit}
use Rattle.kept.proofs.Queue.{Kept, waiting_none}
use Rattle.kept.proofs.Reader.{tick_reader_keeps}
use Rattle.kept.proofs.Sender.{kept_finished, tick_sender_keeps}
use Rattle.kept.proofs.Standing.{rested_awaits}
use Rattle.drain.specs.Cost.{cost_of}
use Rattle.drain.proofs.Ticks.{remaining, sent_all, falls, rest_none}
use Rattle.bridge.specs.Runs.{Config, next}
use Rattle.callup.specs.Taken.{Open}
use Rattle.echoes.proofs.Hearing.{Hears, out, between, word, closing, idle_over, idle_left, idle_ends}
use Rattle.echoes.proofs.Paths.{Path, Longer, longer, calmer, lag_le, none_begun}
use Rattle.echoes.proofs.Counts.{unread_bit, unread_below, unread}
use Rattle.echoes.proofs.Halves.{begins}
use Rattle.echoes.proofs.Ticks.{Tuned, TunedOn, Ticking, may_open, starved_is, send_rules, step_made, tuned_on, ticking, sender_is, queue_is}

-- The chain, oldest bit first: what comes back when a bit goes in, and what is under way then.
unfoldable pub front : List Bool → Bool → Bool
front [] b = b
front (x ∷ xs) b = x

unfoldable pub behind : List Bool → Bool → List Bool
behind [] b = []
behind (x ∷ xs) b = xs ++ (b ∷ [])

pub fed_in : (chain : List Bool) (b : Bool) → chain ++ (b ∷ []) ≡ front chain b ∷ behind chain b
unfolding front behind
fed_in [] b = refl
fed_in (x ∷ xs) b = refl

length_snoc : (xs : List Bool) (b : Bool) → length (xs ++ (b ∷ [])) ≡ suc (length xs)
length_snoc [] b = refl
length_snoc (x ∷ xs) b = ap suc (length_snoc xs b)

pub length_behind : (chain : List Bool) (b : Bool) → length (behind chain b) ≡ length chain
unfolding behind
length_behind [] b = refl
length_behind (x ∷ xs) b = length_snoc xs b

-- bits to send, and with none left the lag of the chain
unfoldable pub to_settle : ℕ → ℕ → ℕ → ℕ
to_settle left lag delay = pick (eqb left 0) lag (left + delay)

settle_busy : (left lag delay rest later : ℕ) → rest + 1 ≡ left → later ≤ delay → to_settle rest later delay + 1 ≤ to_settle left lag delay
unfolding to_settle pick
settle_busy left lag delay rest later h k =
    rw (ne_eqb left 0 (λ z. omega arith))
    (pick_keeps (λ (n : ℕ). n + 1 ≤ left + delay) (eqb rest 0) later (rest + delay) (λ z. omega arith) (λ z. omega arith))

settle_idle : (left lag delay rest later : ℕ) → left ≡ 0 → rest ≡ 0 → later ≤ lag - 1 → 0 < lag → to_settle rest later delay + 1 ≤ to_settle left lag delay
unfolding to_settle pick
settle_idle left lag delay rest later h z k g = rw (h, z) (omega arith)

-- an idle sender whose bits have come back leaves the reader out of a command
idle_out : (s : Sender) (e : Ear) (k : ℕ) → idle s ≡ true → Hears s e k → k ≡ 0
idle_out s e k i (out q z p) = refl
idle_out s e k i (between a v o n g) = absurd (omega (arith, idle_ends s i))
idle_out s e k i (word a w h p n g m) = absurd (omega (arith, idle_ends s i))
idle_out s e k i (closing a v p z (inl g) m) = let o : 18 ≤ s.gone = rw p at (idle_over s i) in absurd (omega arith)
idle_out s e k i (closing a v p z (inr (g, b)) m) = let o : 18 ≤ s.gone = rw p at (idle_over s i) in absurd (omega arith)

module _ (s : Sending) (r : SendRules s 0 0) where
  -- at rest exactly where nothing remains
  pub rests : remaining s ≡ 0 → sent_all s ≡ true
  rests z = go (sent_all s) refl
    where
      go : (t : Bool) → sent_all s ≡ t → t ≡ true
      go true e = refl
      go false e = absurd (omega (arith, (falls s 0 0 r e).1))

  pub moves : 0 < remaining s → sent_all s ≡ false
  moves h = go (sent_all s) refl
    where
      go : (t : Bool) → sent_all s ≡ t → t ≡ false
      go true e = absurd (omega (arith, rest_none s 0 0 r e))
      go false e = refl

  -- nothing is begun by a tick there
  rest_stays : sent_all s ≡ true → choose s true ≡ Stay
  unfolding choose pick
  rest_stays h =
      let i : idle s.sender ≡ true = and_l _ _ h in
      let b : ltb s.queue.begun s.queue.used ≡ false = not-true _ (and_r (idle s.sender) _ h) in
      rw (le-ltb s.sender.gone (piece_length s.sender.piece) (idle_over s.sender i), idle_left s.sender i, idle_ends s.sender i, b) refl

  -- nor is anything left after it
  stay_left : (w : ℕ) → sent_all s ≡ true → remaining (tick_sender s true w).sending ≡ 0
  unfolding tick_sender sent_by remaining advanced sender_after cost_of
  stay_left w h =
      let b : ltb s.queue.begun s.queue.used ≡ false = not-true _ (and_r (idle s.sender) _ h) in
      let k : Kept s.queue (finished (advanced Stay s w)).queue = kept_finished (advanced Stay s w) r.queue r.eight in
      rw (rest_stays h, k.waits, waiting_none s.queue (ltb-false _ _ b)) refl

-- the way of an idle sender goes on
stays : (s : Sending) (w : ℕ) (u : Sender) (chain : List Bool) (others lag : ℕ) → idle s.sender ≡ true → Path u chain s.sender others lag
    → Path u (chain ++ (bit_sent Stay s.sender w ∷ [])) (advanced Stay s w).sender (others + begins Stay) lag
unfolding bit_sent advanced sender_after val
stays s w u chain others lag i p =
    let e : others ≡ others + 0 = omega arith in rw (← e) (calmer u chain s.sender others lag _ p i refl)

stay_path : (n : Next) (s : Sending) (w : ℕ) (u : Sender) (chain : List Bool) (others lag : ℕ) → n ≡ Stay → idle s.sender ≡ true
    → Path u chain s.sender others lag
    → Path u (chain ++ (bit_sent n s.sender w ∷ [])) (advanced n s w).sender (others + begins n) lag
stay_path n s w u chain others lag k i p =
    subst (λ (m : Next). Path u (chain ++ (bit_sent m s.sender w ∷ [])) (advanced m s w).sender (others + begins m) lag) (sym k) (stays s w u chain others lag i p)

-- with an idle sender every place that has begun is sent, so each is still to be read
none_begun_left : (s : Sending) → QueueFit s.queue → length s.queue.places ≡ 8 → Stands s → idle s.sender ≡ true → unread s.queue ≡ 0 → s.queue.begun ≡ 0
unfolding unread_below val
none_begun_left s k e st i z =
    elim (ℕ_discrete s.queue.begun 0) [
      | yes x ↦ x
      | no x ↦
          (let h : 0 < s.queue.begun = omega arith in
          let w : under_way s.queue ≡ false = and_last (idle s.sender) (under_way s.queue) st.sender.rest i in
          let a : awaits (last_begun s.queue) ≡ true = rested_awaits s.queue k e st.standing w h in
          let m : ltb 0 (last_begun s.queue).words ≡ true = search (and_l, and_r) in
          let r : not (last_begun s.queue).read ≡ true = search (and_l, and_r) in
          let b : unread_bit (last_begun s.queue) ≡ 1 = rw (m, r) refl in
          let n : s.queue.begun ≡ suc (s.queue.begun - 1) = omega arith in
          let u : unread_below s.queue.places (suc (s.queue.begun - 1)) ≡ 0 = rw n at z in
          absurd (omega (arith, u, b)))
    ]

-- One tick with the chain: fair, in tune again, and less is to come.
pub record Ticked (l : Layouts) (c : Config) (chain : List Bool) (b : Bool) (left lag : ℕ) : Type 0 where
  pub later : ℕ
  pub tuned : Tuned (next l c (Tick (front chain b))) (behind chain b) later
  pub ticks : Ticking l c (front chain b)
  pub less :
      to_settle (remaining (next l c (Tick (front chain b))).bridge.sending) later (length chain) + 1 ≤ to_settle left lag (length chain)

module _ (l : Layouts) (fits : LayoutFit l) (c : Config) (chain : List Bool) (lag : ℕ) (t : Tuned c chain lag) (free : Open c) where
  abbrev here : Sending
  here = c.bridge.sending

  abbrev rules_here : SendRules here 0 0
  rules_here = send_rules l fits c chain lag t free

  abbrev word_due : ℕ
  word_due = oldest c.tx here.tx

  -- the bit that goes out
  abbrev pub bit_due : Bool
  bit_due = bit_sent (choose here (may_start c.bridge.control)) here.sender word_due

  abbrev sin : Bool
  sin = front chain bit_due

  -- the reader's half leaves what waits
  left_after : remaining (next l c (Tick sin)).bridge.sending ≡ remaining (tick_sender here true word_due).sending
  unfolding remaining tick_sender sent_by
  left_after =
      let k = tick_sender_keeps here (may_start c.bridge.control) word_due 0 0 rules_here in
      let w = (tick_reader_keeps c.bridge.receiving (tick_sender here (may_start c.bridge.control) word_due).sending.queue
      (flags_sent c.bridge.control.flags (tick_sender here (may_start c.bridge.control) word_due)) sin t.obeys.rules.rx k.queue k.eight).queue.waits in
      let m : may_start c.bridge.control ≡ true = may_open c free in
      rw (sender_is l fits c t.obeys free sin, queue_is l fits c t.obeys free sin, w, m) refl

  by_path : (longest : ℕ) → is_starve (choose here (may_start c.bridge.control)) ≡ false
      → Path t.then (chain ++ (bit_due ∷ [])) (advanced (choose here (may_start c.bridge.control)) here word_due).sender
      (t.others + begins (choose here (may_start c.bridge.control))) longest
      → TunedOn (next l c (Tick sin)) (behind chain bit_due) longest
  by_path longest f p = tuned_on l fits c chain lag t free sin (behind chain bit_due) longest f (rw (fed_in chain bit_due) at p)

  -- something is to be sent
  busy_tick : 0 < remaining here → Ticked l c chain bit_due (remaining here) lag
  busy_tick h =
      let m : may_start c.bridge.control ≡ true = may_open c free in
      let g : sent_all here ≡ false = moves here rules_here h in
      let f = falls here word_due 0 rules_here g in
      let fed : is_starve (choose here (may_start c.bridge.control)) ≡ false = sym (starved_is here (may_start c.bridge.control) word_due) ∙ rw m f.0 in
      let p : Longer t.then (chain ++ (bit_due ∷ [])) _ _
      = longer t.then chain here.sender t.others lag bit_due _ _ t.path (step_made l fits c chain lag t free fed) in
      let o : TunedOn (next l c (Tick sin)) (behind chain bit_due) p.lag = by_path p.lag fed p.path in
      let e : o.lag ≤ length chain = omega (arith, lag_le _ _ _ _ _ o.tuned.path, length_behind chain bit_due) in
      let d : remaining (next l c (Tick sin)).bridge.sending + 1 ≡ remaining here = rw left_after f.1 in
      record {
        later = o.lag;
        tuned = o.tuned;
        ticks = ticking l fits c t.obeys free sin (starved_is _ _ _ ∙ fed);
        less = settle_busy (remaining here) lag (length chain) _ o.lag d e;
      }

  -- nothing is, and bits are under way
  idle_tick : remaining here ≡ 0 → 0 < lag → Ticked l c chain bit_due (remaining here) lag
  idle_tick h g =
      let m : may_start c.bridge.control ≡ true = may_open c free in
      let a : sent_all here ≡ true = rests here rules_here h in
      let k : choose here (may_start c.bridge.control) ≡ Stay = rw m (rest_stays here rules_here a) in
      let fed : is_starve (choose here (may_start c.bridge.control)) ≡ false = rw k refl in
      let i : idle here.sender ≡ true = and_l _ _ a in
      let p : Path t.then (chain ++ (bit_due ∷ [])) (advanced (choose here (may_start c.bridge.control)) here word_due).sender
      (t.others + begins (choose here (may_start c.bridge.control))) lag
      = stay_path _ here word_due t.then chain t.others lag k i t.path in
      let o : TunedOn (next l c (Tick sin)) (behind chain bit_due) lag = by_path lag fed p in
      record {
        later = o.lag;
        tuned = o.tuned;
        ticks = ticking l fits c t.obeys free sin (starved_is _ _ _ ∙ fed);
        less = settle_idle (remaining here) lag (length chain) _ o.lag h (left_after ∙ stay_left here rules_here word_due a) o.less g;
      }

  pub tick_run : 0 < to_settle (remaining here) lag (length chain) → Ticked l c chain bit_due (remaining here) lag
  unfolding to_settle pick
  tick_run h =
      elim (ℕ_discrete (remaining here) 0) [
        | yes z ↦ idle_tick z (rw (eq-eqb (remaining here) 0 z) at h)
        | no z ↦ busy_tick (omega arith)
      ]

  -- Nothing left to send and no lag: everything queued is sent, read back and gone.
  pub record Empty : Type 0 where
    pub none_used : here.queue.used ≡ 0
    pub none_stored : here.tx.count ≡ 0

  pub empties : to_settle (remaining here) lag (length chain) ≡ 0 → Empty
  unfolding to_settle pick words_of
  empties h =
      elim (ℕ_discrete (remaining here) 0) [
        | no z ↦ absurd (omega (arith, rw (ne_eqb (remaining here) 0 z) at h))
        | yes z ↦
            (let g : lag ≡ 0 = rw (eq-eqb (remaining here) 0 z) at h in
            let a : sent_all here ≡ true = rests here rules_here z in
            let i : idle here.sender ≡ true = and_l _ _ a in
            let b : ltb here.queue.begun here.queue.used ≡ false = not-true _ (and_r (idle here.sender) _ a) in
            let n = none_begun t.then chain here.sender t.others lag t.path g in
            let k : t.inside ≡ 0 = idle_out t.then _ t.inside (n.1 i) t.hears in
            let q : here.queue.begun ≡ 0 = none_begun_left here rules_here.queue rules_here.eight t.obeys.rules.stands i (omega (arith, t.count, n.0)) in
            let u : here.queue.used ≤ here.queue.begun = ltb-false _ _ b in
            let w : words_of (waiting here.queue) ≡ 0 = rw (waiting_none here.queue u) refl in
            record { none_used = omega arith; none_stored = omega (arith, rules_here.sum, idle_left here.sender i, w) })
      ]
