-- A night's events in one call (02 item 6), by its sentences. Assumes nothing.
use mathlib.Core.Path.{◌≡◌, refl, sym, ◌∙◌, ap}
use mathlib.Core.Bool.{true, false}
use mathlib.Core.List.{List, [], ◌∷◌, ◌++◌, append_assoc}
use Prim.Native.Nat.{ℕ, ◌*◌, ◌≤◌}
use native.Mathlib.Omega.{arith}
use lib.ListN.{length, take, drop, length-append, length-drop}
use lib.Seq.{take_at, drop_at}
use Rattle.base.specs.Pick.{pick_true, pick_not_lt, pick_eq}
use Rattle.command.specs.Layouts.{Layouts, layouts}
use Rattle.state.specs.Notes.{note_number}
use Rattle.rules.specs.Sound.{sound}
use Rattle.kept.proofs.Fits.{layouts_fit}
use Rattle.events.specs.Turn.{Out}
use Rattle.events.specs.declared.Event.{Event}
use Rattle.bridge.specs.Runs.{Config, RightStores, Whole, refuses, out_of, next, end_of}
use Rattle.bridge.proofs.Reached.{obeys_whole, run_obeys, not_refused}
use Rattle.listing.specs.Results.{four_bytes}
use Rattle.whole_night.specs.Night.{events, events_in, bytes_in, End, all_done, tested, judged, night}
use Rattle.whole_night.specs.declared.Outcome.TheVariants.{Done}

abbrev bytes_of : Out → List ℕ
bytes_of o = four_bytes (note_number o.answer.note) o.answer.sdo o.answer.sout

-- four bytes for each
module _ (l : Layouts) where
  pub four_each : (c : Config) (es : List Event) → length (bytes_in l c es) ≡ length es * 4
  unfolding bytes_in
  four_each c [] = refl
  four_each c (e ∷ es) =
      let a = length-append (bytes_of (out_of l c e)) (bytes_in l (next l c e) es) in
      let n = four_each (next l c e) es in
      omega (arith, a, n)

  -- those of events and of more events after them
  bytes_append : (c : Config) (es more : List Event) → bytes_in l c (es ++ more) ≡ bytes_in l c es ++ bytes_in l (end_of l c es) more
  unfolding bytes_in end_of
  bytes_append c [] more = refl
  bytes_append c (e ∷ es) more =
      ap (λ (x : List ℕ). bytes_of (out_of l c e) ++ x) (bytes_append (next l c e) es more)
      ∙ sym (append_assoc (bytes_of (out_of l c e)) (bytes_in l (next l c e) es) (bytes_in l (end_of l (next l c e) es) more))

-- what a call left is what events left that were given one by one
pub record OneByOne (c : Config) (es : List Event) (s : List ℕ) (n : End) : Type 0 where
  pub state : n.listed.state ≡ (end_of layouts c es).bridge
  pub tx : n.tx ≡ (end_of layouts c es).tx
  pub rx : n.rx ≡ (end_of layouts c es).rx
  pub results : take (length es * 4) n.results ≡ bytes_in layouts c es
  pub others : drop (length es * 4) n.results ≡ drop (length es * 4) s
  pub size : length n.results ≡ length s
  pub done : n.listed.done ≡ length es
  pub outcome : n.listed.outcome ≡ Done

module _ (c : Config) (records s : List ℕ) (es : List Event) (told : events_in records ≡ events es) (room : length es * 4 ≤ length s)
    (stores : RightStores c.tx c.rx) (rules : sound c.bridge ≡ true) where
  -- neither refused nor stopped
  pub all_done_lem : night layouts c records s ≡ all_done layouts c es s
  unfolding judged tested
  all_done_lem =
      ap (judged layouts c s) told
      ∙ sym (pick_not_lt _ _ _ _ _ room (pick_eq _ _ _ _ _ stores.tx_is (pick_eq _ _ _ _ _ stores.rx_is (pick_true _ _ _ _ rules refl))))

  -- "The result, state and stores equal the events given one by one", "no other note stops the list", "The answer says how many were done": for
  -- a list whose records are events, with room for their results, right stores and a record that keeps its rules. Cells beyond are as lent.
  pub given_one_by_one : OneByOne c es s (night layouts c records s)
  given_one_by_one =
      let bytes : List ℕ = bytes_in layouts c es in
      let others : List ℕ = drop (length es * 4) s in
      let n = four_each layouts c es in
      let a = length-append bytes others in
      let d = length-drop (length es * 4) s in
      rw all_done_lem
      (record {
        state = refl;
        tx = refl;
        rx = refl;
        results = take_at bytes others (length es * 4) n;
        others = drop_at bytes others (length es * 4) n;
        size = omega (arith, n, a, d);
        done = refl;
        outcome = refl;
      })

-- "four bytes for each .. note, SDO high byte first, SOUT": those of an event stand at its number, and are what `step` says of it after the
-- events before
pub its_four_bytes : (c : Config) (records s : List ℕ) (es : List Event) (e : Event) (more : List Event) → events_in records ≡ events (es ++ e ∷ more)
    → length (es ++ e ∷ more) * 4 ≤ length s → RightStores c.tx c.rx → sound c.bridge ≡ true
    → take 4 (drop (length es * 4) (night layouts c records s).results)
    ≡ four_bytes (note_number (out_of layouts (end_of layouts c es) e).answer.note) (out_of layouts (end_of layouts c es) e).answer.sdo (out_of layouts (end_of layouts c es) e).answer.sout
unfolding bytes_in
its_four_bytes c records s es e more told room stores rules =
    let others : List ℕ = drop (length (es ++ e ∷ more) * 4) s in
    let tail : List ℕ = bytes_of (out_of layouts (end_of layouts c es) e) ++ bytes_in layouts (next layouts (end_of layouts c es) e) more in
    ap (λ (x : End). take 4 (drop (length es * 4) x.results)) (all_done_lem c records s (es ++ e ∷ more) told room stores rules)
    ∙ ap (λ (x : List ℕ). take 4 (drop (length es * 4) x))
    (ap (λ (x : List ℕ). x ++ others) (bytes_append layouts c es (e ∷ more)) ∙ append_assoc (bytes_in layouts c es) tail others)
    ∙ ap (take 4) (drop_at (bytes_in layouts c es) (tail ++ others) (length es * 4) (four_each layouts c es))

-- "Notes 1 and 2 are found before the first event", so never inside: whatever events es went before, event e has neither.
pub no_note_1_or_2_inside : (c : Config) → Whole c → (es : List Event) (e : Event) → refuses (out_of layouts (end_of layouts c es) e).answer.note ≡ false
no_note_1_or_2_inside c w es e = not_refused layouts layouts_fit _ e (run_obeys layouts layouts_fit c es (obeys_whole c w))
