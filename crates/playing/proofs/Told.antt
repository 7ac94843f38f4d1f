-- Events done in one call (02 item 6) are events played: the lines of their records, by the bytes of their results, are what is printed, and the
-- state and the stores are those left. Assumes nothing.
use Rattle.std.specs.Prelude.{Option, None, Some}
use mathlib.Core.Path.{◌≡◌, refl, sym, ◌∙◌, ap, ap₂, subst}
use mathlib.Core.Bool.{Bool, true, false}
use mathlib.Core.List.{List, [], ◌∷◌, ◌++◌}
use Prim.Native.Nat.{ℕ, suc, ◌+◌, ◌*◌, ◌/◌, ◌%◌, ◌≤◌, ◌<◌}
use native.Mathlib.Omega.{arith}
use lib.Dec.{eqb}
use lib.ListN.{length, drop, length-append, length-drop}
use borrow.Author.Tests.{ltb-true}
use Rattle.base.specs.Pick.{pick_true, pick_false, pick_keeps}
use Rattle.command.specs.Layouts.{layouts}
use Rattle.state.specs.Notes.{note_number}
use Rattle.state.specs.declared.Note.{Note}
use Rattle.state.specs.declared.Note.TheVariants.{WrongStores, BrokenRecord}
use Rattle.plan.specs.Plan.{no_answer}
use Rattle.events.specs.Turn.{Out}
use Rattle.events.specs.declared.Answer.{Answer}
use Rattle.events.specs.declared.Event.{Event}
use Rattle.bridge.specs.Step.{refused, step}
use Rattle.bridge.specs.Runs.{Config, out_of, next, end_of}
use Rattle.script.specs.Script.{value_of, record_of, line_of}
use Rattle.listing.specs.Results.{bit_byte}
use Rattle.whole_night.specs.Night.{Told, events, wrong, before, events_in, bytes_in, End, all_done, tested, judged as judged_by, night}
use Rattle.whole_night.specs.Outcomes.{outcome_number}
use Rattle.whole_night.proofs.Theorems.{four_each}
use Rattle.playing.specs.Playing.{bytes_of, line_for, Played, stopped, after, judged, played}
use Rattle.playing.specs.Lines.{line_with, lines_in, refused_lines}

-- the bytes of a result say the answer again
bit_back : (b : Bool) → eqb (bit_byte b) 1 ≡ b
unfolding bit_byte
bit_back true = refl
bit_back false = refl

line_back : (kind value : ℕ) (a : Answer)
    → line_of kind value (note_number a.note) (value_of (a.sdo / 256) (a.sdo % 256)) (eqb (bit_byte a.sout) 1) ≡ line_for kind value a
line_back kind value a =
    let e : a.sdo / 256 * 256 + a.sdo % 256 ≡ a.sdo = omega arith in
    ap₂ (line_of kind value (note_number a.note)) e (bit_back a.sout)

-- what is played where every record is an event
abbrev pub all_played : Config → List ℕ → Played
all_played c text = record { bridge = c.bridge; tx = c.tx; rx = c.rx; printed = text; on = true }

abbrev played_from : Config → List ℕ → Played
played_from c records = played layouts c.bridge c.tx c.rx records

-- by what the records say, where each is done
abbrev Says : Config → Played → (List ℕ → List ℕ) → List ℕ → Told → Type 0
Says c p lines more (events es) = p ≡ all_played (end_of layouts c es) (lines (bytes_in layouts c es ++ more))
Says c p lines more wrong = Unit {0}

module _ (rest : List ℕ) (kind value : ℕ) where
  abbrev with_line : List ℕ → List ℕ
  with_line s = bytes_of (line_with kind value s) ++ lines_in rest (drop 4 s)

  says_event : (c : Config) (more : List ℕ) (e : Event) (t : Told) → Says (next layouts c e) (played_from (next layouts c e) rest) (lines_in rest) more t
      → Says c (after (bytes_of (line_for kind value (out_of layouts c e).answer)) (played_from (next layouts c e) rest)) with_line more (before (Some e) t)
  unfolding before end_of bytes_in
  says_event c more e (events es) h =
      let text : List ℕ = bytes_of (line_for kind value (out_of layouts c e).answer) in
      ap (after text) h
      ∙ ap (λ x. all_played (end_of layouts (next layouts c e) es) (bytes_of x ++ lines_in rest (bytes_in layouts (next layouts c e) es ++ more)))
      (sym (line_back kind value (out_of layouts c e).answer))
  says_event c more e wrong h = tt

  says_record : ((c : Config) (more : List ℕ) → Says c (played_from c rest) (lines_in rest) more (events_in rest)) → (c : Config) (more : List ℕ) (r : Option Event)
      → Says c
      (judged r (λ (e : Event). after (bytes_of (line_for kind value (step layouts c.bridge c.tx c.rx e).answer))
      (played layouts (step layouts c.bridge c.tx c.rx e).answer.state (step layouts c.bridge c.tx c.rx e).tx (step layouts c.bridge c.tx c.rx e).rx rest))
      (stopped c.bridge c.tx c.rx))
      with_line
      more
      (before r (events_in rest))
  unfolding judged before next out_of
  says_record ih c more (Some e) = says_event c more e (events_in rest) (ih (next layouts c e) more)
  says_record ih c more None = tt

says : (records : List ℕ) (c : Config) (more : List ℕ) → Says c (played_from c records) (lines_in records) more (events_in records)
unfolding played lines_in events_in end_of bytes_in
says [] c more = refl
says (kind ∷ []) c more = tt
says (kind ∷ high ∷ []) c more = tt
says (kind ∷ high ∷ low ∷ rest) c more = says_record rest kind (value_of high low) (says rest) c more (record_of kind (value_of high low))

pub events_played : (records : List ℕ) (c : Config) (es : List Event) (more : List ℕ) → events_in records ≡ events es
    → played_from c records ≡ all_played (end_of layouts c es) (lines_in records (bytes_in layouts c es ++ more))
events_played records c es more told = subst (Says c (played_from c records) (lines_in records) more) told (says records c more)

-- three bytes each
abbrev Many : ℕ → Told → Type 0
Many n (events es) = length es * 3 ≡ n
Many n wrong = Unit {0}

one_more : (n : ℕ) (r : Option Event) (t : Told) → Many n t → Many (suc (suc (suc n))) (before r t)
unfolding before
one_more n (Some e) (events es) h = omega (arith, h)
one_more n (Some e) wrong h = tt
one_more n None t h = tt

many : (records : List ℕ) → Many (length records) (events_in records)
unfolding events_in
many [] = refl
many (kind ∷ []) = tt
many (kind ∷ high ∷ []) = tt
many (kind ∷ high ∷ low ∷ rest) = one_more (length rest) (record_of kind (value_of high low)) (events_in rest) (many rest)

pub three_each : (records : List ℕ) (es : List Event) → events_in records ≡ events es → length es * 3 ≡ length records
three_each records es told = subst (Many (length records)) told (many records)

-- each event refused by itself, with this note's number
pub record Refuses (c : Config) (n : ℕ) : Type 0 where
  pub note : Note
  pub number : note_number note ≡ n
  pub all : (e : Event) → step layouts c.bridge c.tx c.rx e ≡ refused c.bridge c.tx c.rx note

module _ (c : Config) (n : ℕ) (v : Refuses c n) where
  abbrev Stays : Played → List ℕ → Told → Type 0
  Stays p text (events es) = p ≡ all_played c text
  Stays p text wrong = Unit {0}

  module _ (rest : List ℕ) (kind value : ℕ) where
    abbrev refused_line : List ℕ
    refused_line = bytes_of (line_of kind value n no_answer true)

    abbrev goes_on : Out → Played
    goes_on o = after (bytes_of (line_for kind value o.answer)) (played layouts o.answer.state o.tx o.rx rest)

    stays_event : (e : Event) (t : Told) → Stays (played_from c rest) (refused_lines n rest) t
        → Stays (goes_on (step layouts c.bridge c.tx c.rx e)) (refused_line ++ refused_lines n rest) (before (Some e) t)
    unfolding before
    stays_event e (events es) h =
        ap goes_on (v.all e) ∙ ap (λ (m : ℕ). after (bytes_of (line_of kind value m no_answer true)) (played_from c rest)) v.number ∙ ap (after refused_line) h
    stays_event e wrong h = tt

    stays_record : Stays (played_from c rest) (refused_lines n rest) (events_in rest) → (r : Option Event)
        → Stays (judged r (λ (e : Event). goes_on (step layouts c.bridge c.tx c.rx e)) (stopped c.bridge c.tx c.rx))
        (refused_line ++ refused_lines n rest) (before r (events_in rest))
    unfolding judged before
    stays_record h (Some e) = stays_event e (events_in rest) h
    stays_record h None = tt

  stays : (records : List ℕ) → Stays (played_from c records) (refused_lines n records) (events_in records)
  unfolding played refused_lines events_in
  stays [] = refl
  stays (kind ∷ []) = tt
  stays (kind ∷ high ∷ []) = tt
  stays (kind ∷ high ∷ low ∷ rest) = stays_record rest kind (value_of high low) (stays rest) (record_of kind (value_of high low))

  pub events_refused : (records : List ℕ) (es : List Event) → events_in records ≡ events es → played_from c records ≡ all_played c (refused_lines n records)
  events_refused records es told = subst (Stays (played_from c records) (refused_lines n records)) told (stays records)

-- by the outcome: all are done, or all is as lent and each would be refused
abbrev pub Found : Config → List Event → List ℕ → End → Type 0
Found c es s x =
    (outcome_number x.listed.outcome ≡ 0 → x ≡ all_done layouts c es s)
    × ((outcome_number x.listed.outcome ≡ 0 → ⊥) → (x.tx ≡ c.tx) × (x.rx ≡ c.rx) × Refuses c (outcome_number x.listed.outcome))

module _ (c : Config) (records s : List ℕ) (es : List Event) (told : events_in records ≡ events es) (room : length es * 4 ≤ length s) where
  abbrev Here : End → Type 0
  Here x = Found c es s x

  pub found : Here (night layouts c records s)
  unfolding judged_by tested step
  found =
      subst (λ (t : Told). Here (judged_by layouts c s t)) (sym told)
      (pick_keeps Here _ _ _ (λ h. let l : length s < length es * 4 = ltb-true _ _ h in absurd (omega arith))
      (λ h. pick_keeps Here _ _ _
      (λ i. pick_keeps Here _ _ _
      (λ j. pick_keeps Here _ _ _ (λ k. (λ n. refl, λ n. absurd (n refl)))
      (λ k. (
        λ n. absurd (omega arith),
        λ n.
            (refl, refl, record { note = BrokenRecord; number = refl; all = λ e. sym (pick_true _ _ _ _ i (pick_true _ _ _ _ j (pick_false _ _ _ _ k refl))) }),
      )))
      (λ j. (
        λ n. absurd (omega arith),
        λ n.
            (refl, refl, record { note = WrongStores; number = refl; all = λ e. sym (pick_true _ _ _ _ i (pick_false _ _ _ _ j refl)) }),
      )))
      (λ i. (λ n. absurd (omega arith), λ n. (refl, refl, record { note = WrongStores; number = refl; all = λ e. sym (pick_false _ _ _ _ i refl) })))))

-- the results are as long as lent
pub results_length : (c : Config) (es : List Event) (s : List ℕ) → length es * 4 ≤ length s → length (all_done layouts c es s).results ≡ length s
results_length c es s h =
    let n = four_each layouts c es in
    let a = length-append (bytes_in layouts c es) (drop (length es * 4) s) in
    let d = length-drop (length es * 4) s in
    omega (arith, n, a, d)
