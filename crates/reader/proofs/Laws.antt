-- Laws of the definitions, in the form in which the functions' proofs ask them: what the functions called have answered stands as a
-- variable. Assumes nothing.
use Rattle.std.specs.Prelude.{Option, None, Some}
use mathlib.Core.Path.{◌≡◌, refl, sym, ◌∙◌, ap}
use mathlib.Core.Logic.{◌⊎◌, inl, inr}
use mathlib.Core.Bool.{Bool, true, false, not, ◌&&◌}
use Prim.Native.Nat.{ℕ, ◌+◌, ◌≤◌, ◌<◌}
use native.Mathlib.Omega.{arith}
use lib.Dec.{ltb}
use borrow.Author.Tests.{lt-ltb, le-ltb, ltb-true, ltb-false}
use Rattle.base.specs.Pick.{pick, pick_true, pick_false, pick_lt, pick_not_lt}
use Rattle.crc16.specs.Crc.{crc_word}
use Rattle.line.specs.declared.Ear.{Ear}
use Rattle.line.specs.declared.Found.{Found}
use Rattle.line.specs.declared.Found.TheVariants.{Nothing, Start, End, CheckError, Over}
use Rattle.line.specs.declared.Heard.{Heard}
use Rattle.line.specs.Reader.{hear}
use Rattle.registers.specs.Registers.{rxff}
use Rattle.registers.specs.Raising.{raised, went_bad}
use Rattle.registers.specs.declared.Flags.{Flags}
use Rattle.registers.specs.declared.Flag.TheVariants.{LineCrc, RxOvf}
use Rattle.state.specs.Queue.{place_at, with_place, claimed, oldest_unread, returned}
use Rattle.state.specs.declared.Place.{Place}
use Rattle.state.specs.declared.Queue.{Queue}
use Rattle.state.specs.declared.Receiving.{Receiving}
use Rattle.state.specs.declared.Returned.{Returned}
use Rattle.reader.specs.declared.Taken.{Taken}
use Rattle.reader.specs.Reader.{with_ear, is_claim, began, place_damaged, place_read, word_read, error_read, end_read, word_taken, taken, at_end, ended, taken_by, tick_reader}

-- what `claimed` answered
module _ (q : Queue) (o : Option ℕ) (e : o ≡ oldest_unread q) where
  pub some_claim : (i : ℕ) → o ≡ Some i → (i ≡ claimed q) × (i < q.begun)
  unfolding oldest_unread pick
  some_claim i h = go (ltb (claimed q) q.begun) refl (sym e ∙ h)
    where
      go : (t : Bool) → ltb (claimed q) q.begun ≡ t → pick t (Some (claimed q)) None ≡ Some i → (i ≡ claimed q) × (i < q.begun)
      go true k z = let w : i ≡ claimed q = cc in let l : claimed q < q.begun = ltb-true _ _ k in (w, omega arith)
      go false k z = cc

  pub no_claim : o ≡ None → q.begun ≤ claimed q
  unfolding oldest_unread pick
  no_claim h = go (ltb (claimed q) q.begun) refl (sym e ∙ h)
    where
      go : (t : Bool) → ltb (claimed q) q.begun ≡ t → pick t (Some (claimed q)) None ≡ None → q.begun ≤ claimed q
      go true k z = cc
      go false k z = ltb-false _ _ k

-- A choice by whether the command still has its place, which `own_place` answered.
pub record Own (belongs : Bool) (q : Queue) (i : ℕ) : Type 0 where
  pub here : belongs ≡ true
  pub claim : i ≡ claimed q
  pub begun : i < q.begun

module _ (belongs : Bool) (q : Queue) (o : Option ℕ) (e : o ≡ pick belongs (oldest_unread q) None) where
  pub own : (i : ℕ) → o ≡ Some i → Own belongs q i
  unfolding pick
  own i h = go belongs (sym e ∙ h)
    where
      go : (b : Bool) → pick b (oldest_unread q) None ≡ Some i → Own b q i
      go true z = let k : (i ≡ claimed q) × (i < q.begun) = some_claim q (oldest_unread q) refl i z in record { here = refl; claim = k.0; begun = k.1 }
      go false z = cc

  pub foreign : {A : Type 0} (x y r : A) → o ≡ None → r ≡ y → r ≡ pick (belongs && is_claim q) x y
  unfolding pick
  foreign {A} x y r h k = go belongs (sym e ∙ h)
    where
      go : (b : Bool) → pick b (oldest_unread q) None ≡ None → r ≡ pick (b && is_claim q) x y
      go true z = pick_not_lt (claimed q) q.begun _ _ _ (no_claim q (oldest_unread q) refl z) k
      go false z = k

held : {A : Type 0} (belongs : Bool) (q : Queue) (i : ℕ) → Own belongs q i → (x : ℕ → A) (y : A) → x i ≡ pick (belongs && is_claim q) (x (claimed q)) y
unfolding pick
held true q i v x y = pick_lt (claimed q) q.begun _ _ _ (omega (arith, v.claim, v.begun)) (ap x v.claim)
held false q i v x y = let h : false ≡ true = v.here in cc

abbrev pub place_crc : Place → ℕ → Place
place_crc p crc = record {
  words = p.words;
  ends = p.ends;
  store = p.store;
  compare = p.compare;
  damaged = p.damaged;
  sent = p.sent;
  read = p.read;
  crc_sent = p.crc_sent;
  crc_read = crc;
}

module _ (belongs : Bool) (q : Queue) (i : ℕ) (v : Own belongs q i) where
  pub to_word_read : (w crc : ℕ) → crc ≡ crc_word (place_at q i).crc_read w → with_place q i (place_crc (place_at q i) crc) ≡ word_read belongs q w
  unfolding word_read
  to_word_read w crc e = rw e (held belongs q i v (λ j. with_place q j (place_crc (place_at q j) (crc_word (place_at q j).crc_read w))) q)

  pub to_error_read : with_place q i (place_damaged (place_at q i)) ≡ error_read belongs q
  unfolding error_read
  to_error_read = held belongs q i v (λ j. with_place q j (place_damaged (place_at q j))) q

  pub to_end_read : (r : Returned) → r ≡ returned q i (place_read (place_at q i)) → r ≡ end_read belongs q
  unfolding end_read
  to_end_read r e = e ∙ held belongs q i v (λ j. returned q j (place_read (place_at q j))) _

-- a state of the reader with other marks
abbrev pub marked : Receiving → Bool → Bool → Bool → Receiving
marked s belongs storing stored = record {
  rx = s.rx;
  reader = record { ear = s.reader.ear; belongs = belongs; storing = storing; stored = stored };
}

-- a command's start, with and without a place that it belongs to
module _ (r : Receiving) (q : Queue) (f : Flags) (e : Ear) (s : Receiving) (u : s ≡ at_end r e) where
  pub to_claim : (i : ℕ) → (i ≡ claimed q) × (i < q.begun) → marked s true ((place_at q i).store && not (rxff f)) s.reader.stored ≡ began r q f e
  unfolding began at_end
  to_claim i k = rw (u, sym k.0, lt-ltb i q.begun k.1)

  pub to_no_claim : q.begun ≤ claimed q → s ≡ began r q f e
  unfolding began at_end
  to_no_claim k = rw (u, le-ltb (claimed q) q.begun k)

-- a word stored, dropped, or not for RX; t is what `nothing_stored` gave
abbrev pub longer : Receiving → ℕ → Receiving
longer s count = record {
  rx = record { head = s.rx.head; count = count };
  reader = record { ear = s.reader.ear; belongs = s.reader.belongs; storing = s.reader.storing; stored = true };
}

abbrev pub stored_by : Taken → ℕ → Taken
stored_by t w = record {
  receiving = t.receiving;
  queue = t.queue;
  flags = t.flags;
  store = Some w;
  full = t.full;
  ended = t.ended;
}

abbrev pub dropped_by : Taken → Taken
dropped_by t = record {
  receiving = t.receiving;
  queue = t.queue;
  flags = t.flags;
  store = t.store;
  full = true;
  ended = t.ended;
}

module _ (r : Receiving) (q : Queue) (f : Flags) (e : Ear) (w : ℕ) (m : Queue) (h : m ≡ word_read r.reader.belongs q w)
    (s : Receiving) (u : s ≡ with_ear r e) where
  pub to_stored : (t : Taken) → t ≡ taken (longer s (r.rx.count + 1)) m f false → r.reader.storing ≡ true → r.rx.count < 256
      → stored_by t w ≡ word_taken r q f e w
  unfolding word_taken
  to_stored x y t k = pick_true _ _ _ _ t (pick_lt _ _ _ _ _ k (rw (y, u, h) (rw t)))

  pub to_dropped : (up : Flags) → up ≡ raised f RxOvf → (t : Taken) → t ≡ taken (marked s s.reader.belongs false s.reader.stored) m up false
      → r.reader.storing ≡ true → 256 ≤ r.rx.count → dropped_by t ≡ word_taken r q f e w
  unfolding word_taken
  to_dropped up v x y t k = pick_true _ _ _ _ t (pick_not_lt _ _ _ _ _ k (rw (y, u, v, h)))

  pub to_passed : (x : Taken) → x ≡ taken s m f false → r.reader.storing ≡ false → x ≡ word_taken r q f e w
  unfolding word_taken
  to_passed x v k = pick_false _ _ _ _ k (v ∙ rw (u, h))

-- an END by what the place's return tells
module _ (r : Receiving) (q : Queue) (f : Flags) (e : Ear) (b : Returned) (h : b ≡ end_read r.reader.belongs q)
    (s : Receiving) (u : s ≡ at_end r e) (x : Taken) where
  at_end_lem : (g : Flags) → x ≡ taken s b.queue g r.reader.stored → g ≡ pick b.differs (raised f LineCrc) f → x ≡ ended r q f e
  unfolding ended
  at_end_lem g v k = v ∙ rw (u, k, h)

  pub to_differs : (up : Flags) → up ≡ raised f LineCrc → b.differs ≡ true → x ≡ taken s b.queue up r.reader.stored → x ≡ ended r q f e
  to_differs up v d k = at_end_lem up k (pick_true _ _ _ _ d v)

  pub to_same : b.differs ≡ false → x ≡ taken s b.queue f r.reader.stored → x ≡ ended r q f e
  to_same d k = at_end_lem f k (pick_false _ _ _ _ d refl)

-- an arm knows the constructor
module _ (v : Found) (r : Receiving) (q : Queue) (f : Flags) (e : Ear) (x : Taken) where
  pub to_found : (p : Found) → v ≡ p → x ≡ taken_by p r q f e → x ≡ taken_by v r q f e
  to_found p h k = rw h k

  pub to_ended : (v ≡ End) ⊎ (v ≡ Over) → x ≡ ended r q f e → x ≡ taken_by v r q f e
  unfolding taken_by
  to_ended (inl h) k = rw h k
  to_ended (inr h) k = rw h k

  module _ (s : Receiving) where
    pub to_nothing : v ≡ Nothing → s ≡ with_ear r e → x ≡ taken s q f false → x ≡ taken_by v r q f e
    unfolding taken_by
    to_nothing h u k = rw h (k ∙ rw u)

    pub to_start : v ≡ Start → s ≡ began r q f e → x ≡ taken s q f false → x ≡ taken_by v r q f e
    unfolding taken_by
    to_start h u k = rw h (k ∙ rw u)

    pub to_error : (n : ℕ) → v ≡ CheckError n → s ≡ with_ear r e → (m : Queue) → m ≡ error_read r.reader.belongs q → (up : Flags) → up ≡ went_bad f n
        → x ≡ taken s m up false → x ≡ taken_by v r q f e
    unfolding taken_by
    to_error n h u m l up g k = rw h (k ∙ rw (u, l, g))

pub to_tick : (r : Receiving) (q : Queue) (f : Flags) (sin : Bool) (o : Heard) (x : Taken) → o ≡ hear r.reader.ear sin
    → x ≡ taken_by o.found r q f o.ear → x ≡ tick_reader r q f sin
unfolding tick_reader
to_tick r q f sin o x h k = rw (sym h) k
