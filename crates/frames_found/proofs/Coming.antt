-- A run that is not broken off, from one host word to the next: ticks and clock readings between them change nothing that is told of the words.
use mathlib.Core.Path.{◌≡◌, refl, sym, ◌∙◌, ap}
use mathlib.Core.Bool.{Bool, true, false}
use mathlib.Core.List.{List, [], ◌∷◌, nil≢cons, head-eq_of_cons-eq, tail-eq_of_cons-eq}
use Prim.Native.Nat.{ℕ}
use Rattle.base.specs.Truth.{never}
use Rattle.command.specs.Layouts.{layouts}
use Rattle.state.specs.declared.Note.{Note}
use Rattle.events.specs.declared.Event.{Event}
use Rattle.events.specs.declared.Event.TheVariants.{Power, Word, Release, Tick, Clock as ClockReading}
use Rattle.bridge.specs.Runs.{Config, out_of, next, end_of}
use Rattle.bridge.proofs.Reached.{Obeys}
use Rattle.order.specs.Framed.{word_of, host_words}
use Rattle.frames_found.specs.Found.{Part, part_of, parts_in, notes_in, unbroken}
use Rattle.frames_found.specs.Moments.{moment_at, moments_in}
use Rattle.frames_found.specs.Answered.{sdo_in, found_by}
use Rattle.frames_found.proofs.Turns.{phase_of, View, view_of, blocked_view, obeys_on, tick_keeps, clock_keeps}

-- all that is told of the host words of a run, and its end
pub record Tale : Type 0 where
  pub parts : List Part
  pub notes : List Note
  pub sdo : List ℕ
  pub moments : List Config
  pub end : Config

abbrev pub tale_of : Config → List Event → Tale
tale_of c es = record {
  parts = parts_in layouts c es;
  notes = notes_in layouts c es;
  sdo = sdo_in layouts c es;
  moments = found_by layouts c es;
  end = end_of layouts c es;
}

-- a word, and then the others
abbrev pub word_then : Config → ℕ → Tale → Tale
word_then c w t = record {
  parts = part_of layouts c.bridge.control.regs.layout (phase_of c) w ∷ t.parts;
  notes = (out_of layouts c (Word w)).answer.note ∷ t.notes;
  sdo = (out_of layouts c (Word w)).answer.sdo ∷ t.sdo;
  moments = c ∷ t.moments;
  end = t.end;
}

-- the next word of a run: the bridge as it finds it, and what comes then
pub record Comes (P : View → Type 0) (c : Config) (es : List Event) (w : ℕ) (ws : List ℕ) : Type 0 where
  pub at : Config
  pub rest : List Event
  pub obeys : Obeys at
  pub view : P (view_of at)
  pub on : unbroken rest ≡ true
  pub words_are : host_words rest ≡ ws
  pub tale_is : tale_of c es ≡ word_then at w (tale_of (next layouts at (Word w)) rest)

-- a run with no word more
pub record Silent (P : View → Type 0) (c : Config) (es : List Event) : Type 0 where
  pub view : P (view_of (end_of layouts c es))
  pub parts_are : parts_in layouts c es ≡ []
  pub notes_are : notes_in layouts c es ≡ []
  pub sdo_are : sdo_in layouts c es ≡ []

-- an event that is no word adds nothing
module _ (c : Config) (es : List Event) where
  tick_tale : (sin : Bool) → tale_of c (Tick sin ∷ es) ≡ tale_of (next layouts c (Tick sin)) es
  unfolding parts_in notes_in sdo_in found_by moments_in moment_at end_of
  tick_tale sin = refl

  clock_tale : (reading : ℕ) → tale_of c (ClockReading reading ∷ es) ≡ tale_of (next layouts c (ClockReading reading)) es
  unfolding parts_in notes_in sdo_in found_by moments_in moment_at end_of
  clock_tale reading = refl

  word_tale : (w : ℕ) → tale_of c (Word w ∷ es) ≡ word_then c w (tale_of (next layouts c (Word w)) es)
  unfolding parts_in notes_in sdo_in found_by moments_in moment_at end_of
  word_tale w = refl

module _ (P : View → Type 0) (blocks : (v : View) → P v → P (blocked_view v)) where
  comes_on : (c d : Config) (es fs : List Event) (w : ℕ) (ws : List ℕ) → tale_of c es ≡ tale_of d fs → Comes P d fs w ws → Comes P c es w ws
  comes_on c d es fs w ws t m = record {
    at = m.at;
    rest = m.rest;
    obeys = m.obeys;
    view = m.view;
    on = m.on;
    words_are = m.words_are;
    tale_is = t ∙ m.tale_is;
  }

  pub comes : (es : List Event) (c : Config) (w : ℕ) (ws : List ℕ) → Obeys c → P (view_of c) → unbroken es ≡ true → host_words es ≡ w ∷ ws
      → Comes P c es w ws
  unfolding unbroken host_words word_of
  comes [] c w ws o h u e = absurd (nil≢cons e)
  comes (Power good layout ∷ es) c w ws o h u e = never false u refl
  comes (Word x ∷ es) c w ws o h u e =
      let same : x ≡ w = head-eq_of_cons-eq e in
      record {
        at = c;
        rest = es;
        obeys = o;
        view = h;
        on = u;
        words_are = tail-eq_of_cons-eq e;
        tale_is = rw same (word_tale c es w);
      }
  comes (Release ∷ es) c w ws o h u e = never false u refl
  comes (Tick sin ∷ es) c w ws o h u e =
      comes_on c _ _ es w ws (tick_tale c es sin) (comes es _ w ws (obeys_on c _ o) (tick_keeps c o P blocks h sin) u e)
  comes (ClockReading reading ∷ es) c w ws o h u e =
      comes_on c _ _ es w ws (clock_tale c es reading) (comes es _ w ws (obeys_on c _ o) (clock_keeps c o P blocks h reading) u e)

  silent_on : (c d : Config) (es fs : List Event) → tale_of c es ≡ tale_of d fs → Silent P d fs → Silent P c es
  silent_on c d es fs t m = record {
    view = rw (ap (λ (x : Tale). x.end) t) m.view;
    parts_are = ap (λ (x : Tale). x.parts) t ∙ m.parts_are;
    notes_are = ap (λ (x : Tale). x.notes) t ∙ m.notes_are;
    sdo_are = ap (λ (x : Tale). x.sdo) t ∙ m.sdo_are;
  }

  pub silent : (es : List Event) (c : Config) → Obeys c → P (view_of c) → unbroken es ≡ true → host_words es ≡ [] → Silent P c es
  unfolding unbroken host_words word_of parts_in notes_in sdo_in moments_in end_of
  silent [] c o h u e = record { view = h; parts_are = refl; notes_are = refl; sdo_are = refl }
  silent (Power good layout ∷ es) c o h u e = never false u refl
  silent (Word w ∷ es) c o h u e = absurd (nil≢cons (sym e))
  silent (Release ∷ es) c o h u e = never false u refl
  silent (Tick sin ∷ es) c o h u e = silent_on c _ _ es (tick_tale c es sin) (silent es _ (obeys_on c _ o) (tick_keeps c o P blocks h sin) u e)
  silent (ClockReading reading ∷ es) c o h u e =
      silent_on c _ _ es (clock_tale c es reading) (silent es _ (obeys_on c _ o) (clock_keeps c o P blocks h reading) u e)
