-- The calls by what their parts answered. Assumes nothing.
use Rattle.std.specs.Prelude.{Option, None, Some}
use mathlib.Core.Path.{◌≡◌, refl, sym, ◌∙◌, ap, subst}
use mathlib.Core.Bool.{Bool, true, false, ◌||◌, ◌&&◌, not}
use mathlib.Core.List.{List, [], ◌∷◌}
use Prim.Native.Nat.{ℕ, suc, ◌+◌, ◌*◌, ◌/◌, ◌%◌, ◌<◌, ◌≤◌}
use native.Mathlib.Omega.{arith}
use lib.Dec.{eqb}
use lib.IntN.{ℤ, pos, negsuc}
use lib.ListN.{length}
use mir.Syntax.{w32, w64}
use mir.Val.{to_z}
use mir.Facts.{to_z_pos}
use Rattle.base.specs.Pick.{pick, pick_true, pick_false, pick_told, pick_denied, pick_lt, pick_not_lt, pick_keeps}
use Rattle.command.specs.Layouts.{Layouts}
use Rattle.registers.specs.Registers.{read_of}
use Rattle.state.specs.Notes.{note_number}
use Rattle.state.specs.Rings.{tx_size, rx_size}
use Rattle.state.specs.declared.Bridge.{Bridge}
use Rattle.state.specs.declared.Note.{Note}
use Rattle.state.specs.declared.Phase.{Phase}
use Rattle.rules.specs.Sound.{sound}
use Rattle.events.specs.Turn.{Out, out}
use Rattle.events.specs.declared.Answer.{Answer}
use Rattle.events.specs.declared.Event.{Event}
use Rattle.bridge.specs.Runs.{Config, refuses}
use Rattle.bridge.specs.Step.{step}
use Rattle.drain.specs.Drain as Drain
use Rattle.drain.specs.declared.Drained.{Drained}
use Rattle.script.specs.Script.{record_of, value_of}
use Rattle.listing.specs.Results.{bit_byte}
use Rattle.listing.proofs.Records.{to_byte}
use Rattle.whole_night.specs.Night.{Told, events, wrong, before, events_in, End, end, refused, all_done, tested, judged, night}
use Rattle.whole_night.specs.Numbered.{config}
use Rattle.whole_night.specs.Outcomes.{outcome_number}
use Rattle.whole_night.specs.declared.Listed.{Listed}
use Rattle.whole_night.specs.declared.Outcome.{Outcome}
use Rattle.whole_night.specs.declared.Outcome.TheVariants.{Done}
use Rattle.cells.specs.Cells.{cells_of}
use Rattle.cells.specs.Lent.{lent, Image}
use Rattle.cells.proofs.Laws.{image_lent}
use Rattle.icelichen_bridge.specs.Calls.{answer_number, answer_of, no_event, done, called, unless, power_by, powered, power_up_on, power_leaves, stepped, event_on, step_leaves, event_leaves, list_code, called_list, events_on, events_leave, drain_number, drain_on, drain_leaves, is_answering, answers, register_on}

-- numbers
module _ (note : Note) (r : ℕ) (e : r ≡ note_number note) where
  pub to_answer : (sdo b : ℕ) (sout : Bool) → b ≡ bit_byte sout → r % 256 * 16777216 + sdo * 256 + b ≡ answer_number (note_number note) sdo sout
  unfolding answer_number
  to_answer sdo b sout h = rw (to_byte note r e, h)

  pub to_drained : (ticks : ℕ) → r % 256 * 4294967296 + ticks ≡ drain_number (note_number note) ticks
  unfolding drain_number
  to_drained ticks = rw (to_byte note r e)

  pub to_refusal : (eqb r 1 || eqb r 2) ≡ refuses note
  unfolding refuses
  to_refusal = rw e

module _ (n : ℕ) (h : n < 18446744073709551616) where
  pub to_list_done : (o : Outcome) → o ≡ Done → to_z w64 (n / 3) ≡ list_code (n / 3) o
  to_list_done o e = to_z_pos w64 (omega arith) ∙ ap (λ (k : Outcome). list_code (n / 3) k) (sym e)

pub to_list_code : (n : ℕ) (o k : Outcome) (x : ℤ) → o ≡ k → x ≡ list_code n k → x ≡ list_code n o
to_list_code n o k x e f = f ∙ ap (λ (v : Outcome). list_code n v) (sym e)

-- cells that are left, or laid anew
pub as_they_were : {A : Type 0} (refused : Bool) (was new : A) → refused ≡ true → was ≡ unless refused was new
unfolding unless
as_they_were refused was new e = pick_true refused was was new e refl

anew : {A : Type 0} (refused : Bool) (was new x : A) → refused ≡ false → x ≡ new → x ≡ unless refused was new
unfolding unless
anew refused was new x e f = pick_false refused x was new e f

module _ (refused : Bool) (was x : List ℕ) (b : Bridge) (e : refused ≡ false) (im : Image x b) where
  pub cells_anew : x ≡ unless refused was (cells_of b)
  cells_anew = anew refused was (cells_of b) x e im.is

  pub record_anew : lent x ≡ unless refused (lent was) b
  record_anew = anew refused (lent was) b (lent x) e (image_lent x b im)

-- power-up
module _ (power : ℕ) (was x : List ℕ) (b : Bridge) where
  pub to_powered : power < 4 → b ≡ power_by power → Image x b → powered 0x00FFFF01 x ≡ power_up_on power was
  unfolding power_up_on
  to_powered h e im = pick_lt power 4 _ _ _ h (ap (λ (c : List ℕ). powered 0x00FFFF01 c) (im.is ∙ ap (λ (v : Bridge). cells_of v) e))

  pub to_power_leaves : power < 4 → b ≡ power_by power → Image x b → lent x ≡ power_leaves power (lent was)
  unfolding power_leaves
  to_power_leaves h e im = pick_lt power 4 _ _ _ h (image_lent x b im ∙ e)

module _ (power : ℕ) (was : List ℕ) where
  pub to_no_power : 4 ≤ power → powered 0x16FFFF01 was ≡ power_up_on power was
  unfolding power_up_on
  to_no_power h = pick_not_lt power 4 _ _ _ h refl

  pub to_power_as_was : 4 ≤ power → lent was ≡ power_leaves power (lent was)
  unfolding power_leaves
  to_power_as_was h = pick_not_lt power 4 _ _ _ h refl

-- an event that was given to `step`
module _ (l : Layouts) (was x tx rx t r : List ℕ) (b : Bridge) (e : Event) (a : Answer) (f : Bool)
    (eb : b ≡ lent was) (eo : out a t r ≡ step l b tx rx e) (ef : f ≡ refuses a.note) where
  pub to_stepped : (n : ℕ) → x ≡ unless f was (cells_of a.state) → n ≡ answer_of a → called n x t r ≡ stepped (step l (lent was) tx rx e) was
  to_stepped n ex en = rw (← eb, ← eo, ex, en, ef)

  pub to_step_leaves : lent x ≡ unless f (lent was) a.state → lent x ≡ step_leaves (step l (lent was) tx rx e) (lent was)
  to_step_leaves ex = ex ∙ rw (← eb, ← eo, ef)

-- an event by its numbers
module _ (l : Layouts) (m n : Option Event) (is : m ≡ n) (was tx rx : List ℕ) where
  module _ (e : Event) (h : m ≡ Some e) where
    pub to_event : (k : ℕ) (x t r : List ℕ) → called k x t r ≡ stepped (step l (lent was) tx rx e) was → called k x t r ≡ event_on l n was tx rx
    unfolding event_on
    to_event k x t r f = f ∙ ap (λ (v : Option Event). event_on l v was tx rx) (sym h ∙ is)

    pub to_event_leaves : (x : List ℕ) → lent x ≡ step_leaves (step l (lent was) tx rx e) (lent was) → lent x ≡ event_leaves l n (lent was) tx rx
    unfolding event_leaves
    to_event_leaves x f = f ∙ ap (λ (v : Option Event). event_leaves l v (lent was) tx rx) (sym h ∙ is)

  module _ (h : m ≡ None) where
    pub to_no_event : called 0x16FFFF01 was tx rx ≡ event_on l n was tx rx
    unfolding event_on
    to_no_event = ap (λ (v : Option Event). event_on l v was tx rx) (sym h ∙ is)

    pub to_event_as_was : lent was ≡ event_leaves l n (lent was) tx rx
    unfolding event_leaves
    to_event_as_was = ap (λ (v : Option Event). event_leaves l v (lent was) tx rx) (sym h ∙ is)

-- a list: where all was done, its bytes say how many events it had
Counted : Told → ℕ → Type 0
Counted (events es) n = n ≡ length es * 3
Counted wrong n = Unit {0}

counted_more : (r : Option Event) (t : Told) (n : ℕ) → Counted t n → Counted (before r t) (suc (suc (suc n)))
unfolding Counted before
counted_more (Some e) (events es) n h = omega (arith, h)
counted_more (Some e) wrong n h = tt
counted_more None t n h = tt

counted : (records : List ℕ) → Counted (events_in records) (length records)
unfolding Counted events_in
counted [] = refl
counted (kind ∷ []) = tt
counted (kind ∷ high ∷ []) = tt
counted (kind ∷ high ∷ low ∷ rest) = counted_more (record_of kind (value_of high low)) (events_in rest) (length rest) (counted rest)

Coded : ℕ → End → Type 0
Coded n x = list_code (n / 3) x.listed.outcome ≡ list_code x.listed.done x.listed.outcome

coded : (l : Layouts) (c : Config) (s : List ℕ) (n : ℕ) (t : Told) → Counted t n → Coded n (judged l c s t)
unfolding Coded Counted judged tested
coded l c s n (events es) h =
    pick_keeps (Coded n) _ _ _ (λ _. refl)
    (λ _. pick_keeps (Coded n) _ _ _ (λ _. pick_keeps (Coded n) _ _ _ (λ _. pick_keeps (Coded n) _ _ _ (λ _. ap (λ (k : ℕ). pos k) (omega (arith, h))) (λ _. refl)) (λ _. refl)) (λ _. refl))
coded l c s n wrong h = refl

module _ (l : Layouts) (records was x tx rx s t r u : List ℕ) (b : Bridge) (d : Listed) (n : ℕ)
    (eb : b ≡ lent was) (eo : end d t r u ≡ night l (config b tx rx) records s) (en : n ≡ outcome_number d.outcome) where
  pub to_listed : (k : ℤ) → x ≡ unless (not (eqb n 0)) was (cells_of d.state) → k ≡ list_code (length records / 3) d.outcome
      → called_list k x t r u ≡ events_on l records was tx rx s
  unfolding events_on Coded
  to_listed k ex ek = rw (← eb, ← eo, ex, ek, en, same)
    where
      same : list_code (length records / 3) d.outcome ≡ list_code d.done d.outcome
      same = subst (Coded (length records)) (sym eo) (coded l (config b tx rx) s (length records) (events_in records) (counted records))

  pub to_list_leaves : lent x ≡ unless (not (eqb n 0)) (lent was) d.state → lent x ≡ events_leave l records (lent was) tx rx s
  unfolding events_leave
  to_list_leaves ex = ex ∙ rw (← eb, ← eo, en)

-- draining
module _ (l : Layouts) (was x tx rx t r : List ℕ) (budget : ℕ) (b : Bridge) (d : Drained) (f : Bool)
    (eb : b ≡ lent was) (eo : Drain.end d t r ≡ Drain.drain l b tx rx budget) (ef : f ≡ refuses d.note) where
  pub to_drain : (n : ℕ) → x ≡ unless f was (cells_of d.state) → n ≡ drain_number (note_number d.note) d.ticks
      → called n x t r ≡ drain_on l was tx rx budget
  unfolding drain_on
  to_drain n ex en = rw (← eb, ← eo, ex, en, ef)

  pub to_drain_leaves : lent x ≡ unless f (lent was) d.state → lent x ≡ drain_leaves l (lent was) tx rx budget
  unfolding drain_leaves
  to_drain_leaves ex = ex ∙ rw (← eb, ← eo, ef)

-- the next host word
pub to_phase : (p q : Phase) (x : Bool) → p ≡ q → x ≡ is_answering q → x ≡ is_answering p
to_phase p q x e f = f ∙ ap (λ (v : Phase). is_answering v) (sym e)

pub to_answering : (cells : List ℕ) (b : Bridge) (w t : Bool) (r : ℕ) → b ≡ lent cells → w ≡ sound b → t ≡ is_answering b.frame.phase → r ≡ bit_byte (w && t)
    → r ≡ bit_byte (answers (lent cells))
unfolding answers
to_answering cells b w t r eb ew et er = rw (er, ew, et, eb)

-- what a register reads
module _ (cells : List ℕ) (address : ℕ) where
  pub to_no_register : 11 < address → negsuc 19 ≡ register_on address (lent cells)
  unfolding register_on
  to_no_register h = pick_lt 11 address _ _ _ h refl

  module _ (b : Bridge) (t : Bool) (h : address ≤ 11) (eb : b ≡ lent cells) (et : t ≡ sound b) where
    pub to_register : (v : ℕ) → t ≡ true → v ≡ read_of b.control b.sending.tx.count b.receiving.rx.count address → v < 65536
        → to_z w32 v ≡ register_on address (lent cells)
    unfolding register_on
    to_register v k e f =
        subst (λ (x : Bridge). to_z w32 v ≡ register_on address x) eb
        (pick_not_lt 11 address _ _ _ h (pick_told t (sound b) _ _ _ et k (to_z_pos w32 (omega arith) ∙ ap (λ (n : ℕ). pos n) e)))

    pub to_broken_register : t ≡ false → negsuc 1 ≡ register_on address (lent cells)
    unfolding register_on
    to_broken_register k =
        subst (λ (x : Bridge). negsuc 1 ≡ register_on address x) eb (pick_not_lt 11 address _ _ _ h (pick_denied t (sound b) _ _ _ et k refl))
