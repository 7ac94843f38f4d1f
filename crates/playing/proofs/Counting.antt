-- Laws of the events in front of a list of records. Assumes nothing.
use Rattle.std.specs.Prelude.{Option, None, Some}
use mathlib.Core.Path.{◌≡◌, refl, sym, ◌∙◌, ap, subst}
use mathlib.Core.Bool.{Bool, true, false, false≢true}
use mathlib.Core.List.{List, [], ◌∷◌}
use Prim.Native.Nat.{ℕ, zero, suc, ◌+◌, ◌-◌, ◌*◌, ◌≤◌, ◌<◌}
use native.Mathlib.Omega.{arith}
use lib.ListN.{length, take, drop}
use Rattle.base.specs.Pick.{pick, pick_told, pick_denied, pick_keeps}
use Rattle.command.specs.Layouts.{layouts}
use Rattle.state.specs.declared.Bridge.{Bridge}
use Rattle.events.specs.declared.Event.{Event}
use Rattle.script.specs.Script.{value_of, record_of}
use Rattle.listing.specs.Records.{is_good, is_event}
use Rattle.whole_night.specs.Night.{Told, events, wrong, before, events_in}
use Rattle.playing.specs.Playing.{stopped, judged, played}
use Rattle.playing.specs.Walk.{ahead, Group}
use Rattle.playing.proofs.Printed.{rest_of}

-- so many are counted
pub record Counted (records left : List ℕ) (k : ℕ) : Type 0 where
  pub all : k + ahead (64 - k) left ≡ ahead 64 records
  pub few : k ≤ 64

pub count_begins : (records : List ℕ) → Counted records records 0
count_begins records = record { all = omega arith; few = omega arith }

-- nothing is ahead of fewer than three bytes
short_ahead : (n : ℕ) (records : List ℕ) → length records < 3 → ahead n records ≡ 0
unfolding ahead
short_ahead zero records h = refl
short_ahead (suc n) [] h = refl
short_ahead (suc n) (kind ∷ []) h = refl
short_ahead (suc n) (kind ∷ high ∷ []) h = refl
short_ahead (suc n) (kind ∷ high ∷ low ∷ rest) h = absurd (omega arith)

module _ (t : Bool) where
  bad_ahead : (n : ℕ) (records : List ℕ) → 3 ≤ length records → t ≡ is_event records 0 → t ≡ false → ahead n records ≡ 0
  unfolding ahead
  bad_ahead zero records h e f = refl
  bad_ahead (suc n) [] h e f = refl
  bad_ahead (suc n) (kind ∷ []) h e f = refl
  bad_ahead (suc n) (kind ∷ high ∷ []) h e f = refl
  bad_ahead (suc n) (kind ∷ high ∷ low ∷ rest) h e f = sym (pick_denied t _ _ _ _ e f refl)

  good_ahead : (n : ℕ) (records : List ℕ) → 3 ≤ length records → t ≡ is_event records 0 → t ≡ true → ahead (suc n) records ≡ suc (ahead n (drop 3 records))
  unfolding ahead
  good_ahead n [] h e f = absurd (omega arith)
  good_ahead n (kind ∷ []) h e f = absurd (omega arith)
  good_ahead n (kind ∷ high ∷ []) h e f = absurd (omega arith)
  good_ahead n (kind ∷ high ∷ low ∷ rest) h e f = sym (pick_told t _ _ _ _ e f refl)

module _ (records left : List ℕ) (k : ℕ) (v : Counted records left k) where
  pub count_all : 64 ≤ k → k ≡ ahead 64 records
  unfolding ahead
  count_all h =
      let z : 64 - k ≡ 0 = omega arith in
      let e : ahead (64 - k) left ≡ 0 = ap (λ (n : ℕ). ahead n left) z in
      omega (arith, e, v.all)

  pub count_cut : length left < 3 → k ≡ ahead 64 records
  count_cut h = let e = short_ahead (64 - k) left h in omega (arith, e, v.all)

  module _ (h : 3 ≤ length left) (t : Bool) (i : t ≡ is_event left 0) where
    pub count_bad : t ≡ false → k ≡ ahead 64 records
    count_bad f = let e = bad_ahead t (64 - k) left h i f in omega (arith, e, v.all)

    pub count_again : k < 64 → t ≡ true → Counted records (take (length left - 3) (drop 3 left)) (k + 1)
    count_again l f =
        let z : 64 - k ≡ suc (64 - (k + 1)) = omega arith in
        let e : ahead (64 - k) left ≡ suc (ahead (64 - (k + 1)) (drop 3 left)) = ap (λ (n : ℕ). ahead n left) z ∙ good_ahead t (64 - (k + 1)) left h i f in
        let w : Counted records (drop 3 left) (k + 1) = record { all = omega (arith, e, v.all); few = omega arith } in
        rw (rest_of 3 left) w

-- what is given to one call
pub ahead_fits : (n : ℕ) (records : List ℕ) → ahead n records * 3 ≤ length records
unfolding ahead
ahead_fits zero records = omega arith
ahead_fits (suc n) [] = omega arith
ahead_fits (suc n) (kind ∷ []) = omega arith
ahead_fits (suc n) (kind ∷ high ∷ []) = omega arith
ahead_fits (suc n) (kind ∷ high ∷ low ∷ rest) =
    let f = ahead_fits n rest in
    pick_keeps (λ (m : ℕ). m * 3 ≤ suc (suc (suc (length rest)))) _ _ _ (λ t. omega (arith, f)) (λ t. omega arith)

-- they are events, so many
pub record Says (n : ℕ) (t : Told) : Type 0 where
  pub es : List Event
  pub told : t ≡ events es
  pub many : length es ≡ n

says_one : (n : ℕ) (t : Told) (r : Option Event) → is_good r ≡ true → Says n t → Says (suc n) (before r t)
unfolding is_good before
says_one n t (Some e) h v = record { es = e ∷ v.es; told = ap (before (Some e)) v.told; many = ap suc v.many }
says_one n t None h v = absurd (false≢true h)

says_front : (n : ℕ) (records : List ℕ) → Says (ahead n records) (events_in (take (ahead n records * 3) records))
unfolding ahead events_in
says_front zero records = record { es = []; told = refl; many = refl }
says_front (suc n) [] = record { es = []; told = refl; many = refl }
says_front (suc n) (kind ∷ []) = record { es = []; told = refl; many = refl }
says_front (suc n) (kind ∷ high ∷ []) = record { es = []; told = refl; many = refl }
says_front (suc n) (kind ∷ high ∷ low ∷ rest) =
    pick_keeps (λ (m : ℕ). Says m (events_in (take (m * 3) (kind ∷ high ∷ low ∷ rest)))) _ _ _
    (λ t. let z : suc (suc (suc (ahead n rest * 3))) ≡ suc (ahead n rest) * 3 = omega arith in
    subst (λ (m : ℕ). Says (suc (ahead n rest)) (events_in (take m (kind ∷ high ∷ low ∷ rest)))) z
    (says_one (ahead n rest) (events_in (take (ahead n rest * 3) rest)) (record_of kind (value_of high low)) t (says_front n rest)))
    (λ t. record { es = []; told = refl; many = refl })

ahead_few : (n : ℕ) (records : List ℕ) → ahead n records ≤ n
unfolding ahead
ahead_few zero records = omega arith
ahead_few (suc n) [] = omega arith
ahead_few (suc n) (kind ∷ []) = omega arith
ahead_few (suc n) (kind ∷ high ∷ []) = omega arith
ahead_few (suc n) (kind ∷ high ∷ low ∷ rest) =
    let f = ahead_few n rest in
    pick_keeps (λ (m : ℕ). m ≤ suc n) _ _ _ (λ t. omega (arith, f)) (λ t. omega arith)

pub ahead_told : (records : List ℕ) → Group (take (ahead 64 records * 3) records)
ahead_told records =
    let v = says_front 64 records in
    let f = ahead_few 64 records in
    record { es = v.es; told = v.told; few = omega (arith, v.many, f) }

-- where there is none the next record is wrong or cut
none_stops : {A : Type 0} (r : Option Event) (m : ℕ) (f : Event → A) (x : A) → pick (is_good r) (suc m) 0 ≡ 0 → judged r f x ≡ x
unfolding is_good pick judged
none_stops (Some e) m f x h = absurd (omega arith)
none_stops None m f x h = refl

pub ahead_none : (b : Bridge) (tx rx : List ℕ) (n : ℕ) (records : List ℕ) → 0 < length records → ahead (suc n) records ≡ 0
    → played layouts b tx rx records ≡ stopped b tx rx
unfolding ahead played
ahead_none b tx rx n [] h e = absurd (omega arith)
ahead_none b tx rx n (kind ∷ []) h e = refl
ahead_none b tx rx n (kind ∷ high ∷ []) h e = refl
ahead_none b tx rx n (kind ∷ high ∷ low ∷ rest) h e = none_stops (record_of kind (value_of high low)) (ahead n rest) _ _ e
