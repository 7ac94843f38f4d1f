-- What draining leaves is what so many steps leave, one by one, whatever the record, the stores and the budget. There are eight places, as the
-- array's type says.
use mathlib.Core.Path.{◌≡◌, refl, sym, ◌∙◌, ap}
use mathlib.Core.Bool.{Bool, true, false}
use mathlib.Core.List.{List}
use Prim.Native.Nat.{ℕ, zero, suc, ◌+◌, ◌≤◌, ◌<◌}
use native.Mathlib.Omega.{arith}
use lib.Dec.{eqb}
use lib.ListN.{length}
use borrow.Author.Tests.{eqb-true, eqb-false}
use Rattle.base.specs.Pick.{pick, pick_keeps}
use Rattle.command.specs.Layouts.{Layouts, layouts}
use Rattle.state.specs.Notes.{note_number}
use Rattle.state.specs.Rings.{tx_size, rx_size}
use Rattle.state.specs.declared.Bridge.{Bridge}
use Rattle.state.specs.declared.Note.{Note}
use Rattle.state.specs.declared.Note.TheVariants.{Done, WrongStores, BrokenRecord, MalformedWord, Discarded, Blocked, CrcRefused, CrcWrong, TxFull, QueueFull, LineBusy, ResetRefused, CutShort, TxEmpty, RxFull, RxEmpty}
use Rattle.rules.specs.Sound.{sound}
use Rattle.kept.proofs.Fits.{LayoutFit, layouts_fit}
use Rattle.kept.proofs.Sound.{sound_facts}
use Rattle.events.specs.Turn.{Out}
use Rattle.events.specs.declared.Event.{Event}
use Rattle.events.specs.declared.Event.TheVariants.{Tick}
use Rattle.bridge.specs.Runs.{Config, refuses, out_of, next, end_of}
use Rattle.bridge.specs.Step.{refused, step}
use Rattle.bridge.proofs.Reached.{Obeys, obeyed_turn, step_obeys, not_refused}
use Rattle.drain.specs.Drain.{End, stopped, at_rest, run_of, drain}
use Rattle.base.specs.Truth.{never}
use Rattle.drain.specs.Steps.{after, note_at, last_note, left_at, Stepped}

note_done : (n : Note) → note_number n ≡ 0 → n ≡ Done
note_done Done h = refl
note_done WrongStores h = absurd (omega arith)
note_done BrokenRecord h = absurd (omega arith)
note_done MalformedWord h = absurd (omega arith)
note_done Discarded h = absurd (omega arith)
note_done Blocked h = absurd (omega arith)
note_done CrcRefused h = absurd (omega arith)
note_done CrcWrong h = absurd (omega arith)
note_done TxFull h = absurd (omega arith)
note_done QueueFull h = absurd (omega arith)
note_done LineBusy h = absurd (omega arith)
note_done ResetRefused h = absurd (omega arith)
note_done CutShort h = absurd (omega arith)
note_done TxEmpty h = absurd (omega arith)
note_done RxFull h = absurd (omega arith)
note_done RxEmpty h = absurd (omega arith)

-- What is refused, by the test that fails.
module _ (l : Layouts) (b : Bridge) (tx rx : List ℕ) (e : Event) where
  short_tx : eqb (length tx) tx_size ≡ false → step l b tx rx e ≡ refused b tx rx WrongStores
  unfolding step pick
  short_tx t = rw t

  module _ (t : eqb (length tx) tx_size ≡ true) where
    short_rx : eqb (length rx) rx_size ≡ false → step l b tx rx e ≡ refused b tx rx WrongStores
    unfolding step pick
    short_rx r = rw (t, r)

    broken : eqb (length rx) rx_size ≡ true → sound b ≡ false → step l b tx rx e ≡ refused b tx rx BrokenRecord
    unfolding step pick
    broken r s = rw (t, r, s)

module _ (l : Layouts) (fits : LayoutFit l) where
  -- n ticks more, after so many
  record Goes (budget ticks : ℕ) (c : Config) (e : End) : Type 0 where
    n : ℕ
    count : e.drained.ticks ≡ ticks + n
    left : left_at e ≡ after l c n
    awake : (m : ℕ) → m < n → at_rest (after l c m).bridge ≡ false
    silent : (m : ℕ) → m + 1 < n → note_number (note_at l c m) ≡ 0
    most : n ≤ budget
    stops : at_rest e.drained.state ≡ false → note_number e.drained.note ≡ 0 → n ≡ budget
    note : e.drained.note ≡ last_note l c n

  -- no tick more
  stays : (budget ticks : ℕ) (c : Config) → (at_rest c.bridge ≡ false → 0 ≡ budget)
      → Goes budget ticks c (stopped c.bridge c.tx c.rx ticks Done)
  unfolding end_of last_note
  stays budget ticks c s =
      record {
        n = 0;
        count = omega arith;
        left = refl;
        awake = λ m h. absurd (omega arith);
        silent = λ m h. absurd (omega arith);
        most = omega arith;
        stops = λ h k. s h;
        note = refl;
      }

  -- a tick with a note is the last
  last_tick : (budget ticks : ℕ) (c : Config) → at_rest c.bridge ≡ false → (note_number (note_at l c 0) ≡ 0 → ⊥)
      → Goes (suc budget) ticks c
      (stopped (next l c (Tick true)).bridge (next l c (Tick true)).tx (next l c (Tick true)).rx (ticks + 1) (note_at l c 0))
  unfolding end_of last_note
  last_tick budget ticks c up z =
      record {
        n = 1;
        count = refl;
        left = refl;
        awake = awake_at;
        silent = λ m h. absurd (omega arith);
        most = omega arith;
        stops = λ h k. absurd (z k);
        note = refl;
      }
    where
      awake_at : (m : ℕ) → m < 1 → at_rest (after l c m).bridge ≡ false
      awake_at zero h = up
      awake_at (suc m) h = absurd (omega arith)

  module _ (budget ticks : ℕ) (c : Config) (up : at_rest c.bridge ≡ false) (e : End) where
    -- a tick with no note, and what comes after it
    goes_on : note_number (note_at l c 0) ≡ 0 → Goes budget (ticks + 1) (next l c (Tick true)) e → Goes (suc budget) ticks c e
    unfolding end_of last_note
    goes_on z r =
        record {
          n = suc r.n;
          count = omega (arith, r.count);
          left = r.left;
          awake = awake_at;
          silent = silent_at;
          most = omega (arith, r.most);
          stops = λ h k. ap suc (r.stops h k);
          note = r.note ∙ last r.n;
        }
      where
        awake_at : (m : ℕ) → m < suc r.n → at_rest (after l c m).bridge ≡ false
        awake_at zero h = up
        awake_at (suc m) h = r.awake m (omega arith)

        silent_at : (m : ℕ) → m + 1 < suc r.n → note_number (note_at l c m) ≡ 0
        silent_at zero h = z
        silent_at (suc m) h = r.silent m (omega arith)

        last : (k : ℕ) → last_note l (next l c (Tick true)) k ≡ last_note l c (suc k)
        last zero = sym (note_done _ z)
        last (suc k) = refl

  -- one turn of the definition, by the step that it is
  turn_goes : (budget ticks : ℕ) (c : Config) (o : Out) → o ≡ out_of l c (Tick true)
      → Goes budget (ticks + 1) (next l c (Tick true))
      (run_of l budget (ticks + 1) (next l c (Tick true)).bridge (next l c (Tick true)).tx (next l c (Tick true)).rx)
      → Goes (suc budget) ticks c
      (pick (at_rest c.bridge) (stopped c.bridge c.tx c.rx ticks Done)
      (pick (eqb (note_number o.answer.note) 0) (run_of l budget (ticks + 1) o.answer.state o.tx o.rx)
      (stopped o.answer.state o.tx o.rx (ticks + 1) o.answer.note)))
  unfolding next end_of
  turn_goes budget ticks c o q r =
      rw q
      (pick_keeps (Goes (suc budget) ticks c) _ _ _ (λ t. stays (suc budget) ticks c (λ f. never _ t f))
      (λ t. pick_keeps (Goes (suc budget) ticks c) _ _ _ (λ n. goes_on budget ticks c t _ (eqb-true _ _ n) r)
      (λ n. last_tick budget ticks c t (eqb-false _ _ n))))

  run_goes : (budget ticks : ℕ) (c : Config) → Obeys c → Goes budget ticks c (run_of l budget ticks c.bridge c.tx c.rx)
  unfolding run_of
  run_goes zero ticks c o = stays zero ticks c (λ f. refl)
  run_goes (suc budget) ticks c o =
      turn_goes budget ticks c _ (sym (obeyed_turn l fits c (Tick true) o))
      (run_goes budget (ticks + 1) (next l c (Tick true)) (step_obeys l fits c (Tick true) o))

  -- notes 1 and 2: no tick is made
  refused_steps : (c : Config) (budget : ℕ) (n : Note) → out_of l c (Tick true) ≡ refused c.bridge c.tx c.rx n → refuses n ≡ true
      → (note_number n ≡ 0 → ⊥) → Stepped l c budget (stopped c.bridge c.tx c.rx 0 n)
  unfolding end_of pick
  refused_steps c budget n e r z =
      let k : note_at l c 0 ≡ n = ap (λ (o : Out). o.answer.note) e in
      record {
        left = refl;
        awake = λ m h. absurd (omega arith);
        silent = λ m h. absurd (omega arith);
        most = omega arith;
        stops = λ h k. absurd (z k);
        uncounted = λ h. refl;
        note = rw (k, r) refl;
      }

  goes_steps : (c : Config) (budget : ℕ) (e : End) → refuses (note_at l c 0) ≡ false → Goes budget 0 c e → Stepped l c budget e
  unfolding pick
  goes_steps c budget e f g =
      let z : g.n ≡ e.drained.ticks = omega (arith, g.count) in
      record {
        left = g.left ∙ ap (after l c) z;
        awake = λ m h. g.awake m (omega arith);
        silent = λ m h. g.silent m (omega arith);
        most = omega (arith, g.most);
        stops = λ h k. sym z ∙ g.stops h k;
        uncounted = λ h. never _ h f;
        note = rw f (g.note ∙ ap (last_note l c) z);
      }

  pub drain_steps : (b : Bridge) (tx rx : List ℕ) (budget : ℕ) → length b.sending.queue.places ≡ 8
      → Stepped l (record { bridge = b; tx = tx; rx = rx }) budget (drain l b tx rx budget)
  unfolding drain out_of refuses
  drain_steps b tx rx budget eight =
      pick_keeps (Stepped l c budget) _ _ _
      (λ t. pick_keeps (Stepped l c budget) _ _ _
      (λ r. pick_keeps (Stepped l c budget) _ _ _ (λ s. accepted (eqb-true _ _ t) (eqb-true _ _ r) s)
      (λ s. refused_steps c budget BrokenRecord (broken l b tx rx (Tick true) t r s) refl (λ k. absurd (omega arith))))
      (λ r. refused_steps c budget WrongStores (short_rx l b tx rx (Tick true) t r) refl (λ k. absurd (omega arith))))
      (λ t. refused_steps c budget WrongStores (short_tx l b tx rx (Tick true) t) refl (λ k. absurd (omega arith)))
    where
      c : Config
      c = record { bridge = b; tx = tx; rx = rx }

      accepted : length tx ≡ tx_size → length rx ≡ rx_size → sound b ≡ true → Stepped l c budget (run_of l budget 0 b tx rx)
      accepted t r s =
          let o : Obeys c = record { rules = sound_facts b s eight; stores = record { tx_is = t; rx_is = r } } in
          goes_steps c budget _ (unfold end_of in not_refused l fits c (Tick true) o) (run_goes budget 0 c o)

-- For the layout in force.
pub drained_steps : (b : Bridge) (tx rx : List ℕ) (budget : ℕ) → length b.sending.queue.places ≡ 8
    → Stepped layouts (record { bridge = b; tx = tx; rx = rx }) budget (drain layouts b tx rx budget)
drained_steps = drain_steps layouts layouts_fit

-- Told by `step` there is one end of draining, and so one count.
module _ (l : Layouts) (c : Config) (budget : ℕ) where
  not_fewer : (e f : End) → Stepped l c budget e → Stepped l c budget f → e.drained.ticks < f.drained.ticks → ⊥
  unfolding last_note pick
  not_fewer e f s t h = told (refuses (note_at l c 0)) refl
    where
      zero_note : (n : ℕ) → n < f.drained.ticks → note_number (last_note l c n) ≡ 0
      zero_note zero k = refl
      zero_note (suc m) k = t.silent m (omega arith)

      told : (r : Bool) → refuses (note_at l c 0) ≡ r → ⊥
      told true r = omega (arith, t.uncounted r)
      told false r =
          let n : e.drained.note ≡ last_note l c e.drained.ticks = rw r at s.note in
          let u : at_rest (left_at e).bridge ≡ false = ap (λ (x : Config). at_rest x.bridge) s.left ∙ t.awake _ h in
          let z : note_number e.drained.note ≡ 0 = rw n (zero_note _ h) in
          omega (arith, s.stops u z, t.most)

  pub one_drain : (e f : End) → Stepped l c budget e → Stepped l c budget f → e ≡ f
  one_drain e f s t = λ i. record {
    drained = record { state = (places i).bridge; ticks = count i; note = note_of i };
    tx = (places i).tx;
    rx = (places i).rx;
  }
    where
      count : e.drained.ticks ≡ f.drained.ticks
      count = let a = not_fewer e f s t in let b = not_fewer f e t s in omega arith

      places : left_at e ≡ left_at f
      places = s.left ∙ ap (after l c) count ∙ sym t.left

      note_of : e.drained.note ≡ f.drained.note
      note_of = s.note ∙ ap (λ (n : ℕ). pick (refuses (note_at l c 0)) (note_at l c 0) (last_note l c n)) count ∙ sym t.note
