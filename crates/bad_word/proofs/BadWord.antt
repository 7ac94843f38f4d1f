-- Register 11 shows the first bad word since the flags were last cleared, and 0 while CHECK_BIT is down (02 item 4). Assumes nothing.
use mathlib.Core.Path.{◌≡◌, refl, ◌∙◌, ap, ap₂}
use mathlib.Core.Bool.{Bool, true, false, ◌||◌}
use mathlib.Core.List.{List, [], ◌∷◌}
use Prim.Native.Nat.{ℕ, ◌<◌, min}
use lib.ListN.{length, take}
use Rattle.base.specs.Bits.{word_end}
use Rattle.base.specs.Pick.{pick}
use Rattle.base.specs.Truth.{never, or_true}
use Rattle.command.specs.Layouts.{Layouts}
use Rattle.line.specs.Format.{Segment, Words, Sixteen}
use Rattle.line.specs.Reader.{last_number, hear}
use Rattle.line.specs.Damage.{damaged, founds, numbers_in, numbers_of, passes_for_end}
use Rattle.line.specs.declared.Ear.{Ear}
use Rattle.line.specs.declared.Ear.TheVariants.{Quiet}
use Rattle.line.specs.declared.Found.{Found}
use Rattle.line.specs.declared.Found.TheVariants.{Nothing, Start, Word as WordFound, End, CheckError, Over}
use Rattle.line.proofs.WhichWord.{which_word}
use Rattle.registers.specs.Registers.{read_of}
use Rattle.registers.specs.declared.Flags.{Flags}
use Rattle.frame_rules.specs.Frames.{bad_word_sound}
use Rattle.state.specs.Rings.{oldest}
use Rattle.state.specs.declared.Bridge.{Bridge}
use Rattle.state.specs.declared.Receiving.{Receiving}
use Rattle.kept.proofs.Control.{planned_rises, released_rises}
use Rattle.kept.proofs.Fits.{LayoutFit}
use Rattle.events.specs.Events.{reacted}
use Rattle.events.specs.Turn.{turned, turn}
use Rattle.events.specs.declared.Event.{Event}
use Rattle.events.specs.declared.Event.TheVariants.{Power, Word, Release, Tick, Clock as ClockReading}
use Rattle.bridge.specs.Runs.{Config, Whole, next, end_of}
use Rattle.bridge.proofs.Reached.{Obeys, obeys_whole, obeyed_turn, step_obeys}
use Rattle.order.specs.Accepted.{plan_of}
use Rattle.order.specs.Premises.{is_power}
use Rattle.bad_word.specs.BadWord.{register11, check_bit_of, sin_of, numbers_on, first_of, is_some, Leaves, Undisturbed, Register11}
use Rattle.bad_word.proofs.Events.{Shown, shown_by, noted, Shows, ear_of, down_none, tick_shown, clock_shown, host_shown}

-- The register is the flags' number.
shows_number : (c : Config) → register11 c ≡ c.bridge.control.flags.bad_word
unfolding read_of
shows_number c = refl

abbrev shown_in : Config → Shown
shown_in c = shown_by c.bridge.control.flags

-- "reads 0 when the flag is down"
pub reads_0 : (c : Config) → Whole c → check_bit_of c ≡ false → register11 c ≡ 0
reads_0 c w d = shows_number c ∙ down_none c.bridge.control.flags (obeys_whole c w).rules.control.word d

-- What is shown once these numbers have come.
abbrev shown_with : Shown → List ℕ → Shown
shown_with s ns = record { bit = s.bit || is_some ns; number = pick s.bit s.number (first_of ns) }

-- No number changes nothing.
with_none : (f : Flags) → bad_word_sound f ≡ true → shown_by f ≡ shown_with (shown_by f) []
unfolding pick
with_none f s = go f.check_bit refl
  where
    go : (t : Bool) → f.check_bit ≡ t → shown_by f ≡ shown_with (shown_by f) []
    go true e = rw e
    go false e = rw (e, down_none f s e)

-- A bit's number comes before those of the bits behind it.
with_found : (s : Shown) (x : Found) (fs : List Found) → shown_with (noted s x) (numbers_in fs) ≡ shown_with s (numbers_in (x ∷ fs))
unfolding numbers_in pick
with_found s Nothing fs = refl
with_found s Start fs = refl
with_found s (WordFound w) fs = refl
with_found s End fs = refl
with_found s (CheckError n) fs = rw (or_true s.bit)
with_found s Over fs = refl

-- What is shown with these bits is told by what is shown and by the reader.
with_shown : {f : Flags} {r : Receiving} {s : Shown} {e : Ear} (bits : List Bool) → Shows f r s e
    → shown_with (shown_by f) (numbers_in (founds r.reader.ear bits)) ≡ shown_with s (numbers_in (founds e bits))
with_shown bits h = ap₂ (λ (x : Shown) (y : Ear). shown_with x (numbers_in (founds y bits))) h.shown h.ear

module _ (l : Layouts) (fits : LayoutFit l) where
  module _ (c : Config) (o : Obeys c) (es : List Event) where
    -- From this state, what the bits of `es` show is what the event's bit and they show from c.
    abbrev On : Event → Bridge → Type 0
    On e b = shown_with (shown_by b.control.flags) (numbers_in (founds (ear_of b) (sin_of es))) ≡ shown_with (shown_in c) (numbers_on c (e ∷ es))

    -- The state that the event's rule gives is such a one.
    reacted_on : (e : Event) (w : ℕ) → Leaves l c e → On e (reacted l c.bridge e w (oldest c.rx c.bridge.receiving.rx)).bridge
    unfolding reacted sin_of founds plan_of is_power
    reacted_on (Power good layout) w v = never true refl v.no_power
    reacted_on (Word word) w v =
        with_shown (sin_of es)
        (host_shown l c.bridge _ _ (planned_rises l c.bridge word _ o.rules.control) o.rules.control.word v.no_reset v.no_clear)
    reacted_on Release w v =
        with_shown (sin_of es)
        (host_shown l c.bridge _ _ (released_rises c.bridge o.rules.control) o.rules.control.word v.no_reset v.no_clear)
    reacted_on (Tick sin) w v = with_shown (sin_of es) (tick_shown c.bridge sin w) ∙ with_found (shown_in c) (hear (ear_of c.bridge) sin).found _
    reacted_on (ClockReading reading) w v = with_shown (sin_of es) (clock_shown c.bridge reading)

    -- No event is refused.
    event_on_lem : (e : Event) → Leaves l c e → On e (next l c e).bridge
    unfolding next turn turned
    event_on_lem e v = rw (obeyed_turn l fits c e o) (reacted_on e _ v)

  -- What a run shows.
  run_shown : (c : Config) (es : List Event) → Obeys c → Undisturbed l c es → shown_in (end_of l c es) ≡ shown_with (shown_in c) (numbers_on c es)
  unfolding end_of sin_of founds numbers_in
  run_shown c [] o u = with_none c.bridge.control.flags o.rules.control.word
  run_shown c (e ∷ es) o u = run_shown (next l c e) es (step_obeys l fits c e o) u.1 ∙ event_on_lem c o es e u.0

  module _ (c : Config) (es : List Event) (w : Whole c) (u : Undisturbed l c es) where
    -- "keeps the first such number since the flags were last cleared"
    pub first_kept : register11 (end_of l c es) ≡ pick (check_bit_of c) (register11 c) (first_of (numbers_on c es))
    first_kept = rw (shows_number c, shows_number (end_of l c es)) (ap (λ (s : Shown). s.number) (run_shown c es (obeys_whole c w) u))

    -- CHECK_BIT goes up with it.
    pub check_bit : check_bit_of (end_of l c es) ≡ (check_bit_of c || is_some (numbers_on c es))
    check_bit = ap (λ (s : Shown). s.bit) (run_shown c es (obeys_whole c w) u)

-- Numbers whose first is n.
first_of_lem : (ns : List ℕ) (n : ℕ) → take 1 ns ≡ n ∷ [] → first_of ns ≡ n
first_of_lem [] n h = cc
first_of_lem (m ∷ ns) n h = cc

is_some_lem : (ns : List ℕ) (n : ℕ) → take 1 ns ≡ n ∷ [] → is_some ns ≡ true
is_some_lem [] n h = cc
is_some_lem (m ∷ ns) n h = refl

-- A line with one check bit changed, from idle: CHECK_BIT is up, and the register has the number of that word.
pub register_is_the_word : (l : Layouts) (fits : LayoutFit l) (c : Config) (es : List Event) → Whole c → c.bridge.receiving.reader.ear ≡ Quiet
    → check_bit_of c ≡ false → Undisturbed l c es
    → (s : List Segment) (before : List ℕ) (w : ℕ) (after : List ℕ) (t : List Segment) → Sixteen s → Words before → w < word_end
    → passes_for_end before w after ≡ false → sin_of es ≡ damaged s before w after t
    → (check_bit_of (end_of l c es) ≡ true) × (register11 (end_of l c es) ≡ min (length before) last_number)
unfolding numbers_of pick
register_is_the_word l fits c es k q d u s before w after t a b g p e =
    let n : take 1 (numbers_on c es) ≡ min (length before) last_number ∷ [] = rw (q, e) (which_word s before w after t a b g p) in
    (check_bit l fits c es k u ∙ rw (d, is_some_lem _ _ n), first_kept l fits c es k u ∙ rw (d, first_of_lem _ _ n))

-- All of it.
pub register_11 : (l : Layouts) → LayoutFit l → Register11 l
register_11 l fits = record {
  reads_0 = reads_0;
  first_kept = λ c es w u. first_kept l fits c es w u;
  check_bit = λ c es w u. check_bit l fits c es w u;
  is_the_word = register_is_the_word l fits;
}
