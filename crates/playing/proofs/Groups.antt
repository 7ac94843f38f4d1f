-- Laws of the groups of a script's records, as the functions' proofs ask them. Assumes nothing.
use mathlib.Core.Path.{◌≡◌, refl, sym, ◌∙◌, ap, ap₂, subst}
use mathlib.Core.Bool.{true, false}
use mathlib.Core.List.{List, [], ◌∷◌, ◌++◌}
use Prim.Native.Nat.{ℕ, ◌+◌, ◌-◌, ◌*◌, ◌/◌, ◌≤◌, ◌<◌}
use native.Mathlib.Omega.{arith}
use lib.ListN.{length, take, drop, length-drop, take-append-drop}
use lib.Seq.{sets, length-take-le}
use Rattle.base.specs.Pick.{pick_true}
use Rattle.command.specs.Layouts.{layouts}
use Rattle.state.specs.declared.Bridge.{Bridge}
use Rattle.bridge.specs.Runs.{Config, end_of}
use Rattle.whole_night.specs.Night.{bytes_in, end as night_end, End as NightEnd, night}
use Rattle.whole_night.specs.Numbered.{config}
use Rattle.whole_night.specs.Outcomes.{outcome_number}
use Rattle.whole_night.specs.declared.Listed.{Listed}
use Rattle.playing.specs.declared.Part.{Part}
use Rattle.playing.specs.Playing.{bad_record, bytes_of, Played, after, played, followed, room, End, end, shown}
use Rattle.playing.specs.Walk.{part_of, shown_at, ahead, Group}
use Rattle.playing.specs.Lines.{lines_in, refused_lines}
use Rattle.playing.proofs.Laws.{shown_after, fits, front}
use Rattle.playing.proofs.Parts.{joined}
use Rattle.playing.proofs.Printed.{rest_of, lines_short}
use Rattle.playing.proofs.Counting.{ahead_fits, ahead_told, ahead_none}
use Rattle.playing.proofs.Told.{all_played, events_played, events_refused, Refuses, three_each, Found, found, results_length}

-- a group in one call, whose results have 256 bytes
module _ (records : List ℕ) (g : Group records) (b : Bridge) (tx rx s : List ℕ) (size : length s ≡ 256) (d : Listed) (t r u : List ℕ)
    (e : night_end d t r u ≡ night layouts (config b tx rx) records s) (n : ℕ) (k : n ≡ outcome_number d.outcome) where
  abbrev from : Config
  from = config b tx rx

  enough : length g.es * 4 ≤ length s
  enough = omega (arith, g.few)

  by_outcome : Found from g.es s (night_end d t r u)
  by_outcome = subst (Found from g.es s) (sym e) (found from records s g.es g.told enough)

  module _ (cells c : List ℕ) (at x : ℕ) (p : Part) where
    -- refused: all is as lent, and each event prints so
    pub to_refused : (n ≡ 0 → ⊥) → x ≡ at + length (refused_lines n records) → c ≡ sets cells at (refused_lines n records)
        → p ≡ part_of b x true → end p t r c ≡ shown_at (played layouts b tx rx records) cells at
    to_refused h f i j =
        let a = by_outcome.1 (λ z. h (k ∙ z)) in
        let v : Refuses from n = subst (Refuses from) (sym k) a.2 in
        ap₂ (λ (y : Part) (z : List ℕ). end y t r z) (j ∙ ap (λ (y : ℕ). part_of b y true) f) i
        ∙ ap₂ (λ (y z : List ℕ). shown_at (all_played (config b y z) (refused_lines n records)) cells at) a.0 a.1
        ∙ ap (λ (y : Played). shown_at y cells at) (sym (events_refused from n v records g.es g.told))

    -- done: what the results say is what the events print
    pub to_done : n ≡ 0 → x ≡ at + length (lines_in records u) → c ≡ sets cells at (lines_in records u)
        → p ≡ part_of d.state x true → end p t r c ≡ shown_at (played layouts b tx rx records) cells at
    to_done h f i j =
        ap₂ (λ (y : Part) (z : List ℕ). end y t r z) (j ∙ ap (λ (y : ℕ). part_of d.state y true) f) i
        ∙ ap (λ (y : NightEnd). shown_at (all_played (config y.listed.state y.tx y.rx) (lines_in records y.results)) cells at)
        (by_outcome.0 (sym k ∙ h))
        ∙ ap (λ (y : Played). shown_at y cells at) (sym (events_played records from g.es (drop (length g.es * 4) s) g.told))

  pub results_room : n ≡ 0 → length records / 3 * 4 ≤ length u
  results_room h =
      let m = three_each records g.es g.told in
      let l : length u ≡ length s = ap (λ (y : NightEnd). length y.results) (by_outcome.0 (sym k ∙ h)) ∙ results_length from g.es s enough in
      let q = enough in
      omega (arith, m, l, q)

-- what the code's `s[..n]` has
pub front_length : (n : ℕ) (s : List ℕ) → n ≤ length s → n ≡ length (take n s)
front_length n s h = sym (length-take-le n s h)

none : (xs : List ℕ) → length xs ≤ 0 → xs ≡ []
none [] h = refl
none (x ∷ xs) h = absurd (omega arith)

-- what is left of the records, played from here, is the whole
pub record Left (b₀ : Bridge) (tx₀ rx₀ records cells₀ : List ℕ) (b : Bridge) (tx rx cells : List ℕ) (at : ℕ) (left : List ℕ) : Type 0 where
  pub whole : shown_at (played layouts b tx rx left) cells at ≡ shown_at (played layouts b₀ tx₀ rx₀ records) cells₀ 0
  pub space : at + room left ≤ length cells
  pub all : room records ≤ length cells₀
  pub same_tx : length tx ≡ length tx₀
  pub same_rx : length rx ≡ length rx₀
  pub same_out : length cells ≡ length cells₀

pub left_begins : (b : Bridge) (tx rx records cells : List ℕ) → room records ≤ length cells → Left b tx rx records cells b tx rx cells 0 records
left_begins b tx rx records cells h =
    record { whole = refl; space = omega arith; all = h; same_tx = refl; same_rx = refl; same_out = refl }

module _ (b₀ : Bridge) (tx₀ rx₀ records cells₀ : List ℕ) (b : Bridge) (tx rx cells : List ℕ) (at : ℕ) (left : List ℕ)
    (v : Left b₀ tx₀ rx₀ records cells₀ b tx rx cells at left) where
  all_shown : shown_at (played layouts b tx rx left) cells at ≡ shown (played layouts b₀ tx₀ rx₀ records) cells₀
  all_shown = let f = fits layouts records b₀ tx₀ rx₀ in v.whole ∙ front (played layouts b₀ tx₀ rx₀ records) cells₀ (omega (arith, f, v.all))

  -- none are left
  pub to_last : (p : Part) → length left ≤ 0 → p ≡ part_of b at true → end p tx rx cells ≡ shown (played layouts b₀ tx₀ rx₀ records) cells₀
  unfolding played
  to_last p h e =
      let z : at ≡ at + 0 = omega arith in
      ap (λ (x : Part). end x tx rx cells) (e ∙ ap (λ (n : ℕ). part_of b n true) z)
      ∙ ap (λ (x : List ℕ). shown_at (played layouts b tx rx x) cells at) (sym (none left h)) ∙ all_shown

  module _ (many : ℕ) (m : many ≡ ahead 64 left) where
    -- the next record is wrong or cut
    pub to_stop : 0 < length left → many * 3 ≡ 0 → (p : Part) (c : List ℕ) → p ≡ part_of b (at + 11) false → c ≡ sets cells at (bytes_of bad_record)
        → end p tx rx c ≡ shown (played layouts b₀ tx₀ rx₀ records) cells₀
    to_stop h z p c e f =
        let y : ahead 64 left ≡ 0 = omega (arith, m) in
        ap₂ (λ (x : Part) (w : List ℕ). end x tx rx w) e f
        ∙ ap (λ (x : Played). shown_at x cells at) (sym (ahead_none b tx rx 63 left h y)) ∙ all_shown

    abbrev group : List ℕ
    group = take (many * 3) left

    abbrev later : List ℕ
    later = drop (many * 3) left

    pub group_fits : many * 3 ≤ length left
    group_fits = let f = ahead_fits 64 left in omega (arith, f, m)

    group_length_lem : length group ≡ many * 3
    group_length_lem = length-take-le (many * 3) left group_fits

    pub is_group : Group (take (many * 3) left)
    is_group = rw m (ahead_told left)

    pub group_space : at + length (take (many * 3) left) / 3 * 17 ≤ length cells
    group_space =
        let l = group_length_lem in
        let f = group_fits in
        omega (arith, l, f, v.space)

    abbrev now : Played
    now = played layouts b tx rx group

    now_is : now ≡ all_played (end_of layouts (config b tx rx) is_group.es) (lines_in group (bytes_in layouts (config b tx rx) is_group.es ++ []))
    now_is = events_played group (config b tx rx) is_group.es [] is_group.told

    goes_on : now.on ≡ true
    goes_on = ap (λ (p : Played). p.on) now_is

    now_short : length now.printed ≤ many * 17
    now_short =
        let l = group_length_lem in
        let f = lines_short group (bytes_in layouts (config b tx rx) is_group.es ++ []) in
        let e : length now.printed ≡ length (lines_in group (bytes_in layouts (config b tx rx) is_group.es ++ [])) =
        ap (λ (p : Played). length p.printed) now_is in
        omega (arith, l, f, e)

    then : played layouts b tx rx left ≡ after now.printed (played layouts now.bridge now.tx now.rx later)
    unfolding followed
    then =
        let l = group_length_lem in
        ap (played layouts b tx rx) (sym (take-append-drop (many * 3) left)) ∙ joined layouts later group b tx rx (omega (arith, l))
        ∙ sym (pick_true _ _ _ _ goes_on refl)

    abbrev Goes : End → Type 0
    Goes o =
        (shown_at (played layouts o.part.bridge o.tx o.rx later) o.out o.part.length ≡ shown_at (played layouts b tx rx left) cells at)
        × (o.part.length ≤ at + many * 17)

    goes : Goes (shown_at now cells at)
    goes =
        let s = now_short in (
          shown_after now.printed (played layouts now.bridge now.tx now.rx later) cells at
              ∙ ap (λ (p : Played). shown_at p cells at) (sym then),
          omega (arith, s),
        )

    pub again : (p : Part) (t r c : List ℕ) → end p t r c ≡ shown_at (played layouts b tx rx (take (many * 3) left)) cells at → length t ≡ length tx
        → length r ≡ length rx → length c ≡ length cells
        → Left b₀ tx₀ rx₀ records cells₀ p.bridge t r c p.length (take (length left - many * 3) (drop (many * 3) left))
    again p t r c e lt lr lc =
        let g : Goes (end p t r c) = subst Goes (sym e) goes in
        let l = length-drop (many * 3) left in
        let f = group_fits in
        let next : Left b₀ tx₀ rx₀ records cells₀ p.bridge t r c p.length later =
        record {
          whole = g.0 ∙ v.whole;
          space = omega (arith, g.1, l, lc, f, v.space);
          all = v.all;
          same_tx = lt ∙ v.same_tx;
          same_rx = lr ∙ v.same_rx;
          same_out = lc ∙ v.same_out;
        } in
        rw (rest_of (many * 3) left) next
