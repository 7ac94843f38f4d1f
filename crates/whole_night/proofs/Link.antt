-- A list's run by the numbers of its records (`listing`), which the loops are proved against, is what a night's events in one call are defined
-- to be; and the ways out of the call, as its functions' proofs ask them. Assumes nothing.
use Rattle.std.specs.Prelude.{Option, None, Some}
use mathlib.Core.Path.{◌≡◌, refl, sym, ◌∙◌, ap, ap₂}
use mathlib.Core.Bool.{Bool, true, false, ◌&&◌}
use mathlib.Core.List.{List, [], ◌∷◌, ◌++◌, append_assoc, append-nil}
use Prim.Native.Nat.{ℕ, zero, suc, ◌+◌, ◌*◌, ◌/◌, ◌%◌, ◌≤◌, ◌<◌}
use native.Mathlib.Omega.{arith}
use lib.ListN.{length, get_or, take, drop, length-append, take-append-drop}
use lib.Seq.{sets-eq, drop-set-lt, take_at, length-take-le}
use Rattle.base.specs.Pick.{pick, pick_true, pick_false, pick_denied, pick_lt, pick_not_lt, pick_eq, pick_ne}
use Rattle.base.specs.Truth.{and_again, and_end}
use Rattle.command.specs.Layouts.{layouts}
use Rattle.state.specs.Notes.{note_number}
use Rattle.state.specs.Rings.{tx_size, rx_size}
use Rattle.state.specs.declared.Bridge.{Bridge}
use Rattle.rules.specs.Sound.{sound}
use Rattle.events.specs.Turn.{Out, turn}
use Rattle.events.specs.declared.Answer.{Answer}
use Rattle.events.specs.declared.Event.{Event}
use Rattle.bridge.specs.Fit.{Fit}
use Rattle.bridge.specs.Runs.{Config, out_of, left_by, next, end_of}
use Rattle.bridge.proofs.Keeping.{turn_keeps}
use Rattle.bridge.proofs.Reached.{step_turn}
use Rattle.script.specs.Script.{value_of, record_of}
use Rattle.listing.specs.Records.{is_good, event_of, record_at, is_event, event_at, all_events}
use Rattle.listing.specs.Results.{four_bytes, put}
use Rattle.listing.specs.Run.{Moment, moment, put_answer, list_of}
use Rattle.listing.proofs.Laws.{put_length}
use Rattle.whole_night.specs.Night.{Told, events, wrong, before, events_in, bytes_in, End, end, tested, judged, night}
use Rattle.whole_night.specs.Numbered.{events_from, config}
use Rattle.whole_night.specs.declared.Listed.{Listed}
use Rattle.whole_night.specs.declared.Outcome.TheVariants.{Done, NoEvent, ShortResults, WrongStores, BrokenRecord}

-- What the list says.
pub how_many : (records : List ℕ) (left k : ℕ) → length (events_from records left k) ≡ left
unfolding events_from
how_many records zero k = refl
how_many records (suc left) k = ap suc (how_many records left (k + 1))

-- behind a record the others have their numbers less one
module _ (kind high low : ℕ) (rest : List ℕ) where
  abbrev whole : List ℕ
  whole = kind ∷ high ∷ low ∷ rest

  byte_later : (m n : ℕ) → m ≡ suc (suc (suc n)) → get_or whole m 0 ≡ get_or rest n 0
  byte_later m n e = ap (λ (i : ℕ). get_or whole i 0) e

  record_later : (m k : ℕ) → m ≡ suc k → record_at whole m ≡ record_at rest k
  record_later m k e =
      ap₂ record_of (byte_later (m * 3) (k * 3) (omega arith))
      (ap₂ value_of (byte_later (m * 3 + 1) (k * 3 + 1) (omega arith)) (byte_later (m * 3 + 2) (k * 3 + 2) (omega arith)))

  events_later : (left m k : ℕ) → m ≡ suc k → events_from whole left m ≡ events_from rest left k
  unfolding events_from
  events_later zero m k e = refl
  events_later (suc left) m k e =
      ap₂ (λ (x : Event) (es : List Event). x ∷ es) (ap event_of (record_later m k e)) (events_later left (m + 1) (k + 1) (omega arith))

  -- so what is counted from the end is found from the front
  all_front : (n : ℕ) → all_events whole (suc n) ≡ (is_event whole 0 && all_events rest n)
  unfolding all_events
  all_front zero = sym (and_end (is_event whole 0))
  all_front (suc n) =
      ap₂ ◌&&◌ (all_front n) (ap is_good (record_later (suc n) n refl)) ∙ and_again (is_event whole 0) (all_events rest n) (is_event rest n)

abbrev told_by : Bool → List Event → Told
told_by all es = pick all (events es) wrong

joins : (r : Option Event) (all : Bool) (es : List Event) → before r (told_by all es) ≡ told_by (is_good r && all) (event_of r ∷ es)
unfolding before is_good event_of pick
joins (Some e) true es = refl
joins (Some e) false es = refl
joins None all es = refl

-- a list that is not cut
told_all : (records : List ℕ) → length records % 3 ≡ 0
    → events_in records ≡ told_by (all_events records (length records / 3)) (events_from records (length records / 3) 0)
unfolding events_in all_events events_from pick
told_all [] h = refl
told_all (kind ∷ []) h = absurd (omega arith)
told_all (kind ∷ high ∷ []) h = absurd (omega arith)
told_all (kind ∷ high ∷ low ∷ rest) h =
    let many : ℕ = length rest / 3 in
    let whole : List ℕ = kind ∷ high ∷ low ∷ rest in
    let n : suc (suc (suc (length rest))) / 3 ≡ suc many = omega arith in
    ap (before (record_at whole 0)) (told_all rest (omega arith)) ∙ joins (record_at whole 0) (all_events rest many) (events_from rest many 0)
    ∙ ap₂ (λ (t : Bool) (es : List Event). told_by t (event_at whole 0 ∷ es)) (sym (all_front kind high low rest many))
    (sym (events_later kind high low rest many 1 0 refl))
    ∙ ap (λ (m : ℕ). told_by (all_events whole m) (events_from whole m 0)) (sym n)

module _ (records : List ℕ) where
  pub events_in_lem : length records % 3 ≡ 0 → all_events records (length records / 3) ≡ true
      → events_in records ≡ events (events_from records (length records / 3) 0)
  events_in_lem h a = told_all records h ∙ sym (pick_true _ _ _ _ a refl)

  pub wrong_kind : length records % 3 ≡ 0 → all_events records (length records / 3) ≡ false → events_in records ≡ wrong
  wrong_kind h a = told_all records h ∙ sym (pick_false _ _ _ _ a refl)

before_wrong : (r : Option Event) → before r wrong ≡ wrong
unfolding before
before_wrong (Some e) = refl
before_wrong None = refl

pub wrong_cut : (records : List ℕ) → (length records % 3 ≡ 0 → ⊥) → events_in records ≡ wrong
unfolding events_in
wrong_cut [] h = absurd (h refl)
wrong_cut (kind ∷ []) h = refl
wrong_cut (kind ∷ high ∷ []) h = refl
wrong_cut (kind ∷ high ∷ low ∷ rest) h = ap (before _) (wrong_cut rest (λ e. h (omega arith))) ∙ before_wrong _

-- What the run leaves: event k's four bytes are at their place.
module _ (s : List ℕ) (k note sdo : ℕ) (sout : Bool) (h : k * 4 + 4 ≤ length s) where
  put_parts : put s k note sdo sout ≡ take (k * 4) s ++ four_bytes note sdo sout ++ drop (k * 4 + 4) s
  unfolding put
  put_parts =
      let p : k * 4 + 1 ≡ suc (k * 4) = omega arith in
      let q : k * 4 + 2 ≡ suc (suc (k * 4)) = omega arith in
      let r : k * 4 + 3 ≡ suc (suc (suc (k * 4))) = omega arith in
      rw (p, q, r) (sets-eq (four_bytes note sdo sout) s (k * 4) h)

  put_front : take ((k + 1) * 4) (put s k note sdo sout) ≡ take (k * 4) s ++ four_bytes note sdo sout
  put_front =
      let l = length-append (take (k * 4) s) (four_bytes note sdo sout) in
      let m = length-take-le (k * 4) s (omega arith) in
      ap (take ((k + 1) * 4)) put_parts ∙ take_at (take (k * 4) s ++ four_bytes note sdo sout) (drop (k * 4 + 4) s) ((k + 1) * 4) (omega (arith, l, m))

  put_behind : (n : ℕ) → k * 4 + 4 ≤ n → drop n (put s k note sdo sout) ≡ drop n s
  unfolding put
  put_behind n i =
      drop-set-lt n _ (k * 4 + 3) _ (omega arith) ∙ drop-set-lt n _ (k * 4 + 2) _ (omega arith) ∙ drop-set-lt n _ (k * 4 + 1) _ (omega arith)
      ∙ drop-set-lt n s (k * 4) note (omega arith)

abbrev pub leaves : Config → List ℕ → Moment
leaves c s = moment c.bridge c.tx c.rx s

abbrev bytes_of : Answer → List ℕ
bytes_of a = four_bytes (note_number a.note) a.sdo a.sout

-- the cells before event k are kept, those behind the last event too
module _ (records : List ℕ) where
  abbrev pub Runs : ℕ → ℕ → Config → List ℕ → Type 0
  Runs left k c s =
      list_of records left k c.bridge c.tx c.rx s
      ≡ leaves (end_of layouts c (events_from records left k)) (take (k * 4) s ++ bytes_in layouts c (events_from records left k) ++ drop ((k + left) * 4) s)

  module _ (left k : ℕ) (c : Config) (s : List ℕ) (f : Fit c.bridge c.tx c.rx) (h : (k + suc left) * 4 ≤ length s) where
    abbrev here : Out
    here = turn layouts c.bridge c.tx c.rx (event_at records k)

    abbrev then : List Event
    then = events_from records left (k + 1)

    by_turn : out_of layouts c (event_at records k) ≡ here
    unfolding out_of
    by_turn = step_turn layouts c.bridge c.tx c.rx (event_at records k) f.ready.tx_length f.ready.rx_length f.ready.rules

    abbrev on : Out → Moment
    on o = leaves (end_of layouts (left_by o) then) (take (k * 4) s ++ (bytes_of o.answer ++ bytes_in layouts (left_by o) then) ++ drop ((k + suc left) * 4) s)

    one_more : Runs left (k + 1) (left_by here) (put_answer s k here.answer) → Runs (suc left) k c s
    unfolding list_of events_from end_of bytes_in next
    one_more ih =
        let a : Answer = here.answer in
        let z : (k + 1 + left) * 4 ≡ (k + suc left) * 4 = omega arith in
        let bytes : List ℕ = bytes_in layouts (left_by here) then in
        ih
        ∙ ap (leaves (end_of layouts (left_by here) then))
        (ap₂ (λ (x y : List ℕ). x ++ bytes ++ y) (put_front s k (note_number a.note) a.sdo a.sout (omega arith))
        (put_behind s k (note_number a.note) a.sdo a.sout (omega arith) ((k + 1 + left) * 4) (omega arith) ∙ ap (λ (n : ℕ). drop n s) z)
        ∙ ap (λ (x : List ℕ). x ++ drop ((k + suc left) * 4) s) (append_assoc (take (k * 4) s) (bytes_of a) bytes))
        ∙ ap on (sym by_turn)

  pub runs : (left k : ℕ) (c : Config) (s : List ℕ) → Fit c.bridge c.tx c.rx → (k + left) * 4 ≤ length s → Runs left k c s
  unfolding list_of events_from end_of bytes_in
  runs zero k c s f h =
      let z : k * 4 ≡ (k + 0) * 4 = omega arith in
      ap (leaves c)
      (sym (take-append-drop (k * 4) s) ∙ ap₂ (λ (x : List ℕ) (n : ℕ). x ++ drop n s) (sym (append-nil (take (k * 4) s))) z)
  runs (suc left) k c s f h =
      let o : Out = turn layouts c.bridge c.tx c.rx (event_at records k) in
      let l = put_length s k (note_number o.answer.note) o.answer.sdo o.answer.sout in
      one_more left k c s f h
      (runs left (k + 1) (left_by o) (put_answer s k o.answer) (turn_keeps c.bridge c.tx c.rx (event_at records k) f) (omega (arith, l)))

  -- from the first event
  pub run_all : (many : ℕ) (b : Bridge) (tx rx s : List ℕ) → Fit b tx rx → many * 4 ≤ length s
      → list_of records many 0 b tx rx s
      ≡ leaves (end_of layouts (config b tx rx) (events_from records many 0))
      (bytes_in layouts (config b tx rx) (events_from records many 0) ++ drop (length (events_from records many 0) * 4) s)
  run_all many b tx rx s f h =
      let l = how_many records many 0 in
      let c : Config = config b tx rx in
      let es : List Event = events_from records many 0 in
      let z : (0 + many) * 4 ≡ length es * 4 = omega (arith, l) in
      runs many 0 c s f (omega arith) ∙ ap (λ (n : ℕ). leaves (end_of layouts c es) (bytes_in layouts c es ++ drop n s)) z

-- The ways out of the call.
module _ (records : List ℕ) (b : Bridge) (tx rx s : List ℕ) where
  -- 22: cut, or a record that is no event
  pub to_wrong_cut : (d : Listed) → d ≡ record { state = b; done = 0; outcome = NoEvent } → (length records % 3 ≡ 0 → ⊥)
      → end d tx rx s ≡ night layouts (config b tx rx) records s
  unfolding judged
  to_wrong_cut d e h = ap (λ (x : Listed). end x tx rx s) e ∙ ap (judged layouts (config b tx rx) s) (sym (wrong_cut records h))

  pub to_wrong_kind : (d : Listed) → d ≡ record { state = b; done = 0; outcome = NoEvent } → length records % 3 ≡ 0
      → (q : Bool) → q ≡ all_events records (length records / 3) → q ≡ false → end d tx rx s ≡ night layouts (config b tx rx) records s
  unfolding judged
  to_wrong_kind d e h q i j =
      ap (λ (x : Listed). end x tx rx s) e ∙ ap (judged layouts (config b tx rx) s) (sym (wrong_kind records h (sym i ∙ j)))

  pub to_tested : length records % 3 ≡ 0 → (q : Bool) → q ≡ all_events records (length records / 3) → q ≡ true
      → (x : End) → x ≡ tested layouts (config b tx rx) s (events_from records (length records / 3) 0) → x ≡ night layouts (config b tx rx) records s
  unfolding judged
  to_tested h q i j x e = e ∙ ap (judged layouts (config b tx rx) s) (sym (events_in_lem records h (sym i ∙ j)))

  module _ (many : ℕ) where
    -- 23
    pub to_short : length s / 4 < many → (d : Listed) → d ≡ record { state = b; done = 0; outcome = ShortResults }
        → end d tx rx s ≡ tested layouts (config b tx rx) s (events_from records many 0)
    unfolding tested
    to_short h d e =
        let l = how_many records many 0 in
        let m : length s < length (events_from records many 0) * 4 = omega (arith, l) in
        pick_lt _ _ _ _ _ m (ap (λ (x : Listed). end x tx rx s) e)

    module _ (h : many ≤ length s / 4) where
      room : length (events_from records many 0) * 4 ≤ length s
      room = let l = how_many records many 0 in omega (arith, l)

      -- note 1
      pub to_stores_tx : (length tx ≡ tx_size → ⊥) → (d : Listed) → d ≡ record { state = b; done = 0; outcome = WrongStores }
          → end d tx rx s ≡ tested layouts (config b tx rx) s (events_from records many 0)
      unfolding tested
      to_stores_tx t d e = pick_not_lt _ _ _ _ _ room (pick_ne _ _ _ _ _ t (ap (λ (x : Listed). end x tx rx s) e))

      pub to_stores_rx : length tx ≡ tx_size → (length rx ≡ rx_size → ⊥) → (d : Listed) → d ≡ record { state = b; done = 0; outcome = WrongStores }
          → end d tx rx s ≡ tested layouts (config b tx rx) s (events_from records many 0)
      unfolding tested
      to_stores_rx t r d e =
          pick_not_lt _ _ _ _ _ room (pick_eq _ _ _ _ _ t (pick_ne _ _ _ _ _ r (ap (λ (x : Listed). end x tx rx s) e)))

      -- note 2
      pub to_broken : length tx ≡ tx_size → length rx ≡ rx_size → (q : Bool) → q ≡ sound b → q ≡ false
          → (d : Listed) → d ≡ record { state = b; done = 0; outcome = BrokenRecord }
          → end d tx rx s ≡ tested layouts (config b tx rx) s (events_from records many 0)
      unfolding tested
      to_broken t r q i j d e =
          pick_not_lt _ _ _ _ _ room
          (pick_eq _ _ _ _ _ t (pick_eq _ _ _ _ _ r (pick_denied q _ _ _ _ i j (ap (λ (x : Listed). end x tx rx s) e))))

      -- all of it, by what a function answered
      pub to_done : Fit b tx rx → (x : Bridge) (t r u : List ℕ) → moment x t r u ≡ list_of records many 0 b tx rx s
          → (d : Listed) → d ≡ record { state = x; done = many; outcome = Done }
          → end d t r u ≡ tested layouts (config b tx rx) s (events_from records many 0)
      unfolding tested
      to_done f x t r u e d i =
          ap (λ (y : Listed). end y t r u) i
          ∙ pick_not_lt _ _ _ _ _ room
          (pick_eq _ _ _ _ _ f.ready.tx_length (pick_eq _ _ _ _ _ f.ready.rx_length (pick_true _ _ _ _ f.ready.rules
          (ap₂ (λ (m : Moment) (n : ℕ). end (record { state = m.bridge; done = n; outcome = Done }) m.tx m.rx m.results)
          (e ∙ run_all records many b tx rx s f (omega arith)) (sym (how_many records many 0))))))
