-- Laws of the definitions, in the form in which the functions' proofs ask them. Assumes nothing.
use mathlib.Core.Path.{◌≡◌, refl, sym, ◌∙◌, ap, subst}
use mathlib.Core.Bool.{Bool, true, false, not, ◌&&◌, ◌||◌}
use mathlib.Core.List.{List, [], ◌∷◌, map}
use Prim.Native.Nat.{ℕ, zero, suc, ◌+◌, ◌*◌, ◌-◌, ◌≤◌, ◌<◌}
use native.Mathlib.Nat.{zero-add}
use native.Mathlib.Numerals.{add-one}
use native.Mathlib.Omega.{arith}
use lib.Dec.{ltb}
use lib.ListN.{length, take, drop, get_or, length-map, length-take, drop_of_length-le, get_or-eq_default}
use Rattle.std.specs.Prelude.{Option, None, Some, sum_by, slice_set}
use Rattle.std.specs.List.{copy_within}
use Rattle.std.proofs.lemmas.List.Sums.{sum_by-cons}
use lib.Seq.{drop-cons, take-nil}
use borrow.Author.Tests.{ltb-true, ltb-false, lt-ltb, le-ltb}
use Rattle.base.specs.Pick.{pick, pick_true, pick_false, pick_keeps, and_l}
use Rattle.state.specs.Queue.{no_place, new_place, place_at, with_place, places_of, places_in, in_use, lacks, last_begun, speaks, speaking, under_way, is_done, differs, moved, freed, freed_of, returned, first_unread, claimed, oldest_unread, youngest_begun}
use Rattle.state.specs.Facts.{QueueFit}
use Rattle.state.specs.declared.Place.{Place}
use Rattle.state.specs.declared.Queue.{Queue}

-- an array of structs has its length, as owning it tells
pub unmapped : {A B : Type 0} (f : A → B) (xs : List A) (n : ℕ) → length (map f xs) ≡ n → length xs ≡ n
unmapped f xs n h = sym (length-map xs f) ∙ h

-- past the eighth there is no place
pub past_all : (q : Queue) (k : ℕ) → length q.places ≡ 8 → 8 ≤ k → no_place ≡ place_at q k
past_all q k l h = sym (get_or-eq_default q.places no_place (omega arith))

-- the last command that has begun
module _ (q : Queue) where
  pub to_youngest : (p : Place) → 0 < q.begun → p ≡ last_begun q → Some p ≡ youngest_begun q
  unfolding youngest_begun
  to_youngest p h e = pick_true _ _ _ _ (lt-ltb 0 q.begun h) (rw e refl)

  pub to_none_begun : q.begun ≤ 0 → None ≡ youngest_begun q
  unfolding youngest_begun
  to_none_begun h = pick_false _ _ _ _ (le-ltb 0 q.begun h) refl

  pub busy_begun : under_way q ≡ true → 0 < q.begun
  busy_begun h = ltb-true _ _ (and_l _ (not (last_begun q).sent || ltb 0 (last_begun q).ends) h)

  pub speaking_begun : speaking q ≡ true → 0 < q.begun
  speaking_begun h = ltb-true _ _ (and_l _ (speaks (last_begun q)) h)

-- a test of the youngest command begun, where there is one
module _ (q : Queue) (o : Option Place) (e : o ≡ youngest_begun q) where
  pub no_youngest : o ≡ None → q.begun ≤ 0
  unfolding youngest_begun pick
  no_youngest h = go (ltb 0 q.begun) refl (sym e ∙ h)
    where
      go : (b : Bool) → ltb 0 q.begun ≡ b → pick b (Some (last_begun q)) None ≡ None → q.begun ≤ 0
      go true k x = cc
      go false k x = ltb-false _ _ k

  pub is_youngest : (p : Place) → o ≡ Some p → (0 < q.begun) × (p ≡ last_begun q)
  unfolding youngest_begun pick
  is_youngest p h = go (ltb 0 q.begun) refl (sym e ∙ h)
    where
      go : (b : Bool) → ltb 0 q.begun ≡ b → pick b (Some (last_begun q)) None ≡ Some p → (0 < q.begun) × (p ≡ last_begun q)
      go true k x = (ltb-true _ _ k, cc)
      go false k x = cc

module _ (q : Queue) where
  module _ (p : Place) (h : (0 < q.begun) × (p ≡ last_begun q)) where
    pub to_sending : (not p.sent || ltb 0 p.ends) ≡ under_way q
    to_sending = rw (lt-ltb 0 q.begun h.0, h.1) refl

    pub to_speaking : (ltb 0 p.words && not p.sent) ≡ speaking q
    to_speaking = rw (lt-ltb 0 q.begun h.0, h.1) refl

  pub to_none_sends : q.begun ≤ 0 → false ≡ under_way q
  to_none_sends h = rw (le-ltb 0 q.begun h) refl

  pub to_none_speaks : q.begun ≤ 0 → false ≡ speaking q
  to_none_speaks h = rw (le-ltb 0 q.begun h) refl

-- a command takes one place or two
pub some_place : (p : Place) → 1 ≤ places_of p
unfolding places_of
some_place p = pick_keeps (λ (n : ℕ). 1 ≤ n) _ _ _ (λ t. omega arith) (λ t. omega arith)

pub two_places : (p : Place) → places_of p ≤ 2
unfolding places_of
two_places p = pick_keeps (λ (n : ℕ). n ≤ 2) _ _ _ (λ t. omega arith) (λ t. omega arith)

pub places_fit : (p : Place) (u n : ℕ) → u ≤ 16 → n ≡ places_of p → u + n < 65536
places_fit p u n h e = omega (arith, two_places p)

-- each command has one at least: enough are free for its places, and so for its record
as_many : (ps : List Place) → length ps ≤ places_in ps
unfolding places_in
as_many [] = omega arith
as_many (p ∷ ps) = let k : length ps ≤ places_in ps = as_many ps in omega (arith, some_place p)

module _ (q : Queue) (p : Place) where
  pub has_places : lacks q p ≡ false → in_use q + places_of p ≤ 8
  unfolding lacks
  has_places h = let k : places_of p ≤ 8 - in_use q = ltb-false _ _ h in omega (arith, some_place p)

  pub has_record : length q.places ≡ 8 → in_use q + places_of p ≤ 8 → q.used < 8
  has_record l h = omega (arith, some_place p, as_many (take q.used q.places), length-take q.used q.places)

-- the walk's sum over the commands with places in use
pub as_summed : (ps : List Place) → sum_by places_of ps ≡ places_in ps
unfolding places_in
as_summed [] = refl
as_summed (p ∷ ps) = sum_by-cons places_of p ps ∙ ap (λ (n : ℕ). places_of p + n) (as_summed ps)

at_most_two : (ps : List Place) → sum_by places_of ps ≤ 2 * length ps
at_most_two [] = omega arith
at_most_two (p ∷ ps) = let k : sum_by places_of ps ≤ 2 * length ps = at_most_two ps in omega (arith, two_places p, sum_by-cons places_of p ps)

pub at_most_all : (q : Queue) → length q.places ≡ 8 → sum_by places_of (take q.used q.places) ≤ 16
at_most_all q l = omega (arith, at_most_two (take q.used q.places), length-take q.used q.places)

-- too few are free where these with those in use would pass the eighth
pub to_lacking : (q : Queue) (p : Place) (u n : ℕ) → u ≡ in_use q → n ≡ places_of p → ltb 8 (u + n) ≡ lacks q p
unfolding lacks
to_lacking q p u n e h = go (ltb 8 (u + n)) refl
  where
    go : (t : Bool) → ltb 8 (u + n) ≡ t → t ≡ ltb (8 - in_use q) (places_of p)
    go true k = let b : 8 < u + n = ltb-true _ _ k in sym (lt-ltb (8 - in_use q) (places_of p) (omega (arith, some_place p)))
    go false k = let b : u + n ≤ 8 = ltb-false _ _ k in sym (le-ltb (8 - in_use q) (places_of p) (omega arith))

-- the commands from i on, below used
abbrev pub rest : Queue → ℕ → List Place
rest q i = take (q.used - i) (drop i q.places)

taken_one : (n : ℕ) (p : Place) (ps : List Place) → 0 < n → take n (p ∷ ps) ≡ p ∷ take (n - 1) ps
taken_one zero p ps h = absurd (omega arith)
taken_one (suc n) p ps h = let e : suc n - 1 ≡ n = omega arith in rw e

pub rest_one : (q : Queue) (i : ℕ) → i < length q.places → i < q.used → rest q i ≡ place_at q i ∷ rest q (i + 1)
rest_one q i l h =
    let e : q.used - i - 1 ≡ q.used - (i + 1) = omega arith in
    rw (drop-cons q.places i no_place l)
    (taken_one (q.used - i) (place_at q i) (drop (suc i) q.places) (omega arith) ∙ rw (e, add-one))

pub rest_none : (q : Queue) (i : ℕ) → q.used ≤ i → rest q i ≡ []
rest_none q i h = let z : q.used - i ≡ 0 = omega arith in rw z

pub rest_past : (q : Queue) (i : ℕ) → length q.places ≤ i → rest q i ≡ []
rest_past q i h = rw (drop_of_length-le q.places h, take-nil)

abbrev place : List Place → ℕ → Place
place ps i = get_or ps i no_place

abbrev all_moved : List Place → ℕ → List Place
all_moved ps i = moved ps i 0 ∷ moved ps i 1 ∷ moved ps i 2 ∷ moved ps i 3 ∷ moved ps i 4 ∷ moved ps i 5 ∷ moved ps i 6 ∷ moved ps i 7 ∷ []

-- the younger ones moved up by one
eight : (ps : List Place) → length ps ≡ 8
    → ps ≡ place ps 0 ∷ place ps 1 ∷ place ps 2 ∷ place ps 3 ∷ place ps 4 ∷ place ps 5 ∷ place ps 6 ∷ place ps 7 ∷ []
eight ps l =
    step 0 (omega arith)
    (step 1 (omega arith)
    (step 2 (omega arith)
    (step 3 (omega arith)
    (step 4 (omega arith)
    (step 5 (omega arith)
    (step 6 (omega arith)
    (step 7 (omega arith) (drop_of_length-le ps {i = 8} (omega arith)))))))))
  where
    step : (i : ℕ) {r : List Place} → i < length ps → drop (suc i) ps ≡ r → drop i ps ≡ place ps i ∷ r
    step i h e = drop-cons ps i no_place h ∙ ap (λ (t : List Place). place ps i ∷ t) e

moved_each : (a b c d e f g h : Place) (i : ℕ) → i < 8
    → slice_set (copy_within (a ∷ b ∷ c ∷ d ∷ e ∷ f ∷ g ∷ h ∷ []) (i + 1) 8 i) 7 no_place ≡ all_moved (a ∷ b ∷ c ∷ d ∷ e ∷ f ∷ g ∷ h ∷ []) i
unfolding moved pick
moved_each a b c d e f g h zero l = refl
moved_each a b c d e f g h (suc zero) l = refl
moved_each a b c d e f g h (suc (suc zero)) l = refl
moved_each a b c d e f g h (suc (suc (suc zero))) l = refl
moved_each a b c d e f g h (suc (suc (suc (suc zero)))) l = refl
moved_each a b c d e f g h (suc (suc (suc (suc (suc zero))))) l = refl
moved_each a b c d e f g h (suc (suc (suc (suc (suc (suc zero)))))) l = refl
moved_each a b c d e f g h (suc (suc (suc (suc (suc (suc (suc zero))))))) l = refl
moved_each a b c d e f g h (suc (suc (suc (suc (suc (suc (suc (suc i)))))))) l = absurd (omega arith)

pub to_moved : (q : Queue) (i : ℕ) (xs : List Place) → xs ≡ copy_within q.places (i + 1) (length q.places) i → length q.places ≡ 8 → i < 8
    → record { places = slice_set xs 7 no_place; used = q.used - 1; begun = q.begun - 1 } ≡ freed q i
unfolding freed
to_moved q i xs e l h =
    let k : slice_set xs 7 no_place ≡ all_moved q.places i =
    rw (e, l) (subst (λ (ps : List Place). slice_set (copy_within ps (i + 1) 8 i) 7 no_place ≡ all_moved ps i) (sym (eight q.places l))
    (moved_each _ _ _ _ _ _ _ _ i h)) in
    rw k refl

-- a words' place freed with its command, or alone
pub to_ends_left : (q : Queue) (i : ℕ) (p o : Place) → 0 < p.ends → o ≡ new_place 0 p.ends false → with_place q i o ≡ freed_of q i p
to_ends_left q i p o h e = pick_true _ _ _ _ (lt-ltb 0 p.ends h) (rw e refl)

pub to_all_freed : (q f : Queue) (i : ℕ) (p : Place) → p.ends ≤ 0 → f ≡ freed q i → f ≡ freed_of q i p
to_all_freed q f i p h e = pick_false _ _ _ _ (le-ltb 0 p.ends h) e

-- a place that is done
pub to_freed : (q f : Queue) (i : ℕ) (p : Place) → is_done p ≡ true → f ≡ freed_of q i p
    → record { queue = f; differs = differs p } ≡ returned q i p
unfolding returned
to_freed q f i p t e = pick_true _ _ _ _ t (rw e refl)

-- the claim from the place at i on: it, or what the younger ones give
abbrev unread : Place → Bool
unread p = ltb 0 p.words && not p.read

from_here : (ps : List Place) (n i : ℕ) → i < n → n ≤ length ps
    → first_unread (drop i (take n ps)) ≡ pick (unread (get_or ps i no_place)) 0 (first_unread (drop (suc i) (take n ps)) + 1)
unfolding first_unread
from_here [] n i h l = absurd (omega arith)
from_here (p ∷ ps) zero i h l = absurd (omega arith)
from_here (p ∷ ps) (suc n) zero h l = refl
from_here (p ∷ ps) (suc n) (suc i) h l = from_here ps n i (omega arith) (omega arith)

-- the places begun, from the one at i on
abbrev from : Queue → ℕ → List Place
from q i = drop i (take q.begun q.places)

-- what the first i places leave is the whole claim
pub record Left (q : Queue) (i : ℕ) : Type 0 where
  pub claim : i + first_unread (from q i) ≡ claimed q
  pub most : i ≤ q.begun

pub at_first : (q : Queue) → Left q 0
unfolding claimed
at_first q = record { claim = zero-add (first_unread (from q 0)); most = omega arith }

module _ (q : Queue) (i : ℕ) (v : Left q i) where
  pub at_last : q.begun ≤ i → i ≡ claimed q
  unfolding first_unread
  at_last h =
      let z : from q i ≡ [] = drop_of_length-le (take q.begun q.places) {i = i} (omega (arith, length-take q.begun q.places)) in
      let e : i + first_unread [] ≡ claimed q = subst (λ (r : List Place). i + first_unread r ≡ claimed q) z v.claim in
      omega (arith, e)

  module _ (p : Place) (e : p ≡ place_at q i) (f : QueueFit q) (l : length q.places ≡ 8) (h : i < q.begun) where
    here : first_unread (from q i) ≡ pick (unread p) 0 (first_unread (from q (suc i)) + 1)
    here = rw e (from_here q.places q.begun i h (omega (arith, f.order, f.most)))

    pub found : unread p ≡ true → i ≡ claimed q
    found t = let z : 0 ≡ first_unread (from q i) = pick_true _ _ _ _ t refl ∙ sym here in omega (arith, z, v.claim)

    pub passed : unread p ≡ false → Left q (i + 1)
    passed t =
        let z : first_unread (from q (suc i)) + 1 ≡ first_unread (from q i) = pick_false _ _ _ _ t refl ∙ sym here in
        let s : i + 1 ≡ suc i = omega arith in
        record { claim = rw s (omega (arith, z, v.claim)); most = omega arith }

-- the claim as it is answered
pub to_claimed : (q : Queue) (i : ℕ) → i ≡ claimed q → i < q.begun → Some i ≡ oldest_unread q
unfolding oldest_unread
to_claimed q i e h = pick_true _ _ _ _ (lt-ltb (claimed q) q.begun (omega arith)) (rw e refl)

pub to_unclaimed : (q : Queue) (i : ℕ) → i ≡ claimed q → q.begun ≤ i → None ≡ oldest_unread q
unfolding oldest_unread
to_unclaimed q i e h = pick_false _ _ _ _ (le-ltb (claimed q) q.begun (omega arith)) refl
