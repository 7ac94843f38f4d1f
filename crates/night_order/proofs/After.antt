-- Nights one after the other are one night. Assumes nothing.
use Rattle.std.specs.Prelude.{Option, None, Some}
use mathlib.Core.Path.{◌≡◌, refl, sym, ◌∙◌, ap, ap₂, subst}
use mathlib.Core.Bool.{Bool}
use mathlib.Core.List.{List, [], ◌∷◌, ◌++◌}
use Prim.Native.Nat.{ℕ, zero, suc, ◌+◌, ◌*◌}
use native.Mathlib.Omega.{arith}
use lib.ListN.{length, take, drop, length-append, take-append-drop}
use lib.Seq.{take_at}
use Rattle.command.specs.Layouts.{layouts}
use Rattle.kept.proofs.Fits.{layouts_fit}
use Rattle.kept.proofs.Sound.{facts_sound}
use Rattle.events.specs.declared.Event.{Event}
use Rattle.bridge.specs.Runs.{Config, end_of, sout_of}
use Rattle.bridge.proofs.Reached.{Obeys, obeys_whole, run_obeys}
use Rattle.script.specs.Script.{value_of, record_of}
use Rattle.whole_night.specs.Night.{Told, events, wrong, before, events_in, bytes_in, End, all_done, night}
use Rattle.whole_night.proofs.Theorems.{four_each, all_done_lem}
use Rattle.night_order.specs.Line.{sout_in}
use Rattle.night_order.specs.After.{left, written, AsOne, NightAfterNight, CutAnywhere}
use Rattle.night_order.proofs.Line.{bits_in_results, end_append, bytes_append, sout_append}

-- WHAT A LIST SAYS.
not_wrong : {A : Type 0} (es : List Event) → wrong ≡ events es → A
not_wrong es h = let z : ◌≡◌ {A = ℕ} 0 1 = cc in absurd (omega arith)

-- the first record of a list of events is an event, and the others say the others
record First (r : Option Event) (told : Told) (es : List Event) : Type 0 where
  e : Event
  others : List Event
  good : r ≡ Some e
  told_is : told ≡ events others
  all_are : es ≡ e ∷ others

first_of_lem : (r : Option Event) (told : Told) (es : List Event) → before r told ≡ events es → First r told es
unfolding before
first_of_lem (Some e) (events others) es h = record { e = e; others = others; good = refl; told_is = refl; all_are = cc }
first_of_lem (Some e) wrong es h = not_wrong es h
first_of_lem None told es h = not_wrong es h

-- two lists of whole records, one behind the other
pub told_append : (a b : List ℕ) (es more : List Event) → events_in a ≡ events es → events_in b ≡ events more → events_in (a ++ b) ≡ events (es ++ more)
unfolding events_in before
told_append [] b es more h k = let d : es ≡ [] = cc in rw d k
told_append (kind ∷ []) b es more h k = not_wrong es h
told_append (kind ∷ high ∷ []) b es more h k = not_wrong es h
told_append (kind ∷ high ∷ low ∷ a) b es more h k =
    let f = first_of_lem (record_of kind (value_of high low)) (events_in a) es h in
    ap₂ before f.good (told_append a b f.others more f.told_is k) ∙ ap (λ (x : List Event). events (x ++ more)) (sym f.all_are)

-- and one list, cut behind its record k
record Cut (k n : ℕ) (a : List ℕ) (es : List Event) : Type 0 where
  before_it : events_in (take n a) ≡ events (take k es)
  behind_it : events_in (drop n a) ≡ events (drop k es)

told_cut : (k n : ℕ) → n ≡ k * 3 → (a : List ℕ) (es : List Event) → events_in a ≡ events es → Cut k n a es
unfolding events_in before
told_cut zero n m a es h = let z : n ≡ 0 = omega arith in rw z (record { before_it = refl; behind_it = h })
told_cut (suc k) n m [] es h =
    let d : [] ≡ es = cc in
    let z : n ≡ suc (k * 3 + 2) = omega arith in
    rw (z, ← d) (record { before_it = refl; behind_it = refl })
told_cut (suc k) n m (kind ∷ []) es h = not_wrong es h
told_cut (suc k) n m (kind ∷ high ∷ []) es h = not_wrong es h
told_cut (suc k) n m (kind ∷ high ∷ low ∷ a) es h =
    let f = first_of_lem (record_of kind (value_of high low)) (events_in a) es h in
    let c = told_cut k (k * 3) refl a f.others f.told_is in
    let z : n ≡ suc (suc (suc (k * 3))) = omega arith in
    rw (z, f.all_are) (record { before_it = ap₂ before f.good c.before_it; behind_it = c.behind_it })

-- WHAT THE CALLS GIVE, where all is done: four bytes for each event, and the run's bits in them.
module _ (c : Config) (es : List Event) (s : List ℕ) where
  written_done : written (all_done layouts c es s) ≡ bytes_in layouts c es
  written_done = take_at (bytes_in layouts c es) (drop (length es * 4) s) (length es * 4) (four_each layouts c es)

  line_done : sout_in es (all_done layouts c es s).results ≡ sout_of layouts c es
  line_done = bits_in_results layouts c es (drop (length es * 4) s)

module _ (c : Config) (es more : List Event) (s t u : List ℕ) where
  abbrev there : Config
  there = end_of layouts c es

  when_done : AsOne es more (all_done layouts c es s) (all_done layouts there more t) (all_done layouts c (es ++ more) u)
  when_done = record {
    state_and_stores = end_append layouts c es more;
    results =
        written_done c (es ++ more) u ∙ bytes_append layouts c es more
        ∙ ap₂ (λ (x y : List ℕ). x ++ y) (sym (written_done c es s)) (sym (written_done there more t));
    line =
        line_done c (es ++ more) u ∙ sout_append layouts c es more
        ∙ ap₂ (λ (x y : List Bool). x ++ y) (sym (line_done c es s)) (sym (line_done there more t));
    done = let n = length-append es more in omega (arith, n);
    first_done = refl;
    second_done = refl;
    first_outcome = refl;
    second_outcome = refl;
    outcome = refl;
  }

  -- calls that came to this
  when_so : (a b d : End) → a ≡ all_done layouts c es s → b ≡ all_done layouts there more t → d ≡ all_done layouts c (es ++ more) u → AsOne es more a b d
  when_so a b d p q r = rw (p, q, r) when_done

-- each call is all done: what the first left obeys the rules again
pub night_after_night : NightAfterNight
night_after_night c w first second s t u es more told Told-more room room-more room-both =
    let o : Obeys c = obeys_whole c w in
    let v : Obeys (end_of layouts c es) = run_obeys layouts layouts_fit c es o in
    let a = all_done_lem c first s es told (omega (arith, room)) o.stores (facts_sound _ o.rules) in
    when_so c es more s t u _ _ _ a
    (ap (λ (x : End). night layouts (left x) second t) a
    ∙ all_done_lem (end_of layouts c es) second t more Told-more (omega (arith, room-more)) v.stores (facts_sound _ v.rules))
    (all_done_lem c (first ++ second) u (es ++ more) (told_append first second es more told Told-more) (omega (arith, room-both)) o.stores
    (facts_sound _ o.rules))

pub cut_anywhere : CutAnywhere
cut_anywhere c w records s t u es k told room room-more room-both =
    let cut = told_cut k (k * 3) refl records es told in
    let n : length (take k es ++ drop k es) ≡ length es = ap length (take-append-drop k es) in
    let a : List ℕ = take (k * 3) records in
    let b : List ℕ = drop (k * 3) records in
    subst
    (λ (x : List ℕ). AsOne (take k es) (drop k es) (night layouts c a s) (night layouts (left (night layouts c a s)) b t) (night layouts c x u))
    (take-append-drop (k * 3) records)
    (night_after_night c w a b s t u (take k es) (drop k es) cut.before_it cut.behind_it (omega (arith, room)) (omega (arith, room-more))
    (omega (arith, room-both, n)))
