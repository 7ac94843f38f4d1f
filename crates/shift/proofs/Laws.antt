-- Laws of the definitions, in the form in which the functions' proofs ask them. Assumes nothing.
use mathlib.Core.Path.{◌≡◌, refl, sym, ◌∙◌, ap}
use mathlib.Core.Bool.{Bool, true, false, not}
use mathlib.Core.List.{List, [], ◌∷◌}
use Prim.Native.Nat.{ℕ, ◌+◌, ◌-◌, ◌^◌, ◌≤◌, ◌<◌}
use native.Mathlib.Omega.{arith}
use lib.ListN.{length, get_or, take, drop}
use Rattle.base.specs.Pick.{pick_true, pick_false}
use Rattle.state.specs.declared.Bridge.{Bridge}
use Rattle.verdict.specs.Verdicts.{is_taken, is_broken, verdict_by, Verdict, Taken}
use Rattle.board.specs.Board.{Outcome, called, call_up_of}
use Rattle.board.specs.Moments.{config}
use Rattle.board.specs.declared.Board.{Board}
use Rattle.board.specs.declared.Called.{Called}
use Rattle.chain.specs.Chain.{Moment, moment}
use Rattle.chain.specs.Waits.{Waiting, waited, wait_from}
use Rattle.chain.specs.declared.Goal.TheVariants.{Room, Sent}
use Rattle.chain.specs.declared.Waited.{Waited}
use Rattle.shift.specs.Shifts.{Offer, offered, called_in, offer_of, Due, is_cut, due_at, due_after, Stands, dues_by, dues_in, Shifting, shifted, shifting, sent_after, taken_after, stopped_after, next_offer, shift_from, shift_of}
use Rattle.shift.specs.declared.Entry.{Entry}
use Rattle.shift.specs.declared.Offered.{Offered}
use Rattle.shift.specs.declared.Shifted.{Shifted}
use Rattle.shift.proofs.Lists.{due_cut, after_cut, due_whole, after_whole, is_short, is_cut_lem, is_whole, dues_left, dues_next, sent_ticks, offer_ticks}

-- an entry of the list
module _ (cells : List ℕ) (at : ℕ) (h : at < length cells) (e : Entry) (s : e.slot ≡ get_or cells at 0) where
  module _ (r : e.reading ≡ 0) (w : e.words.now ≡ []) (n : e.next ≡ length cells) where
    stands_cut : is_cut cells at ≡ true → Stands cells at e
    stands_cut c =
        record {
          slot = s ∙ sym (ap (λ (d : Due). d.slot) (due_cut cells at c));
          reading = r ∙ sym (ap (λ (d : Due). d.reading) (due_cut cells at c));
          words = w ∙ sym (ap (λ (d : Due). d.words) (due_cut cells at c));
          next = n ∙ sym (after_cut cells at c);
          onward = omega (arith, n);
          last = omega (arith, n);
        }

    pub to_short : length cells - at < 3 → Stands cells at e
    to_short k = stands_cut (is_short cells at (omega arith))

    pub to_cut : 3 ≤ length cells - at → length cells - (at + 3) < get_or cells (at + 2) 0 → Stands cells at e
    to_cut k l = stands_cut (is_cut_lem cells at (omega arith) (omega arith))

  pub to_whole : e.reading ≡ get_or cells (at + 1) 0 → 3 ≤ length cells - at → get_or cells (at + 2) 0 ≤ length cells - (at + 3)
      → e.words.now ≡ take (get_or cells (at + 2) 0) (drop (at + 3) cells) → e.next ≡ at + 3 + get_or cells (at + 2) 0 → Stands cells at e
  to_whole r k l w n =
      let c : is_cut cells at ≡ false = is_whole cells at (omega arith) in
      record {
        slot = s ∙ sym (ap (λ (d : Due). d.slot) (due_whole cells at c));
        reading = r ∙ sym (ap (λ (d : Due). d.reading) (due_whole cells at c));
        words = w ∙ sym (ap (λ (d : Due). d.words) (due_whole cells at c));
        next = n ∙ sym (after_whole cells at c);
        onward = omega (arith, n);
        last = omega (arith, n);
      }

-- the words behind the three numbers of a call-up
pub words_there : (cells : List ℕ) (at n : ℕ) → take (at + 3 + n - (at + 3)) (drop (at + 3) cells) ≡ take n (drop (at + 3) cells)
words_there cells at n = let z : at + 3 + n - (at + 3) ≡ n = omega arith in ap (λ (m : ℕ). take m (drop (at + 3) cells)) z

-- a wait, and then the call-up
pub to_offer : (board : Board) (m : Moment) (slot reading : ℕ) (ws : List ℕ) (budget : ℕ) (w : Waited) (t u : List ℕ) (ch : List Bool)
    (r : Called) (x y : List ℕ) → waited w t u ch ≡ wait_from budget (Room slot (length ws)) m
    → called r x y ≡ call_up_of board (config w.bridge t u) slot reading ws
    → offered (record { board = r.board; bridge = r.bridge; oldest = w.oldest; verdict = r.verdict; ticks = w.ticks }) x y ch
    ≡ offer_of board m slot reading ws budget
unfolding offer_of
to_offer board m slot reading ws budget w t u ch r x y e f =
    ap (λ (o : Outcome). called_in (waited w t u ch) o) f
    ∙ ap (λ (z : Waiting). called_in z (call_up_of board z.moment.at slot reading ws)) e

-- with the ticks before it within the budget
module _ (board : Board) (m : Moment) (slot reading : ℕ) (ws : List ℕ) (ticks budget : ℕ) (o : Offered) (t u : List ℕ) (ch : List Bool)
    (e : offered o t u ch ≡ offer_of board m slot reading ws (budget - ticks)) (h : ticks ≤ budget) where
  offer_within : ticks + o.ticks ≤ budget
  offer_within =
      let s : o.ticks ≡ (offer_of board m slot reading ws (budget - ticks)).ticks = ap (λ (z : Offer). z.ticks) e in
      omega (arith, offer_ticks board m slot reading ws (budget - ticks))

  pub offer_fits : budget < 2 ^ 32 → ticks + o.ticks < 2 ^ 32
  offer_fits k = omega (arith, offer_within)

-- the ticks at the end
module _ (m : Moment) (ticks budget : ℕ) (w : Waited) (t u : List ℕ) (ch : List Bool)
    (e : waited w t u ch ≡ wait_from (budget - ticks) Sent m) where
  pub sent_fits : ticks ≤ budget → budget < 2 ^ 32 → ticks + w.ticks < 2 ^ 32
  sent_fits h k =
      let s : w.ticks ≡ (wait_from (budget - ticks) Sent m).ticks = ap (λ (z : Waiting). z.ticks) e in
      omega (arith, sent_ticks (budget - ticks) Sent m)

  pub to_sent : (board : Board) (taken : ℕ)
      → shifted (record { board = board; bridge = w.bridge; oldest = w.oldest; verdict = Taken; taken = taken; ticks = ticks + w.ticks }) t u ch
      ≡ shift_from [] (shifting board m Taken taken ticks) budget
  unfolding shift_from
  to_sent board taken = ap (λ (z : Waiting). sent_after (shifting board m Taken taken ticks) z) e

-- a turn of the loop comes further in the list
pub less : (cells : List ℕ) (at : ℕ) (e : Entry) → Stands cells at e → length cells - e.next < length cells - at
less cells at e k = omega (arith, k.onward, k.last)

-- what is left of a shift is the whole shift
pub record Inv (cells : List ℕ) (budget : ℕ) (s : Shifting) (board : Board) (b : Bridge) (tx rx : List ℕ) (chain : List Bool)
    (place taken ticks at : ℕ) : Type 0 where
  pub whole : shift_from (dues_left cells at) (shifting board (moment b tx rx chain place) Taken taken ticks) budget ≡ shift_from (dues_in cells) s budget
  pub most : ticks ≤ budget
  pub few : taken ≤ at

pub begins : (cells : List ℕ) (budget : ℕ) (board : Board) (b : Bridge) (tx rx : List ℕ) (chain : List Bool) (place : ℕ)
    → Inv cells budget (shifting board (moment b tx rx chain place) Taken 0 0) board b tx rx chain place 0 0 0
begins cells budget board b tx rx chain place =
    let z : length cells - 0 ≡ length cells = omega arith in
    record {
      whole = ap (λ (n : ℕ). shift_from (dues_by n cells 0) (shifting board (moment b tx rx chain place) Taken 0 0) budget) z;
      most = omega arith;
      few = omega arith;
    }

module _ (cells : List ℕ) (budget : ℕ) (s : Shifting) (board : Board) (b : Bridge) (tx rx : List ℕ) (chain : List Bool) (place taken ticks at : ℕ)
    (v : Inv cells budget s board b tx rx chain place taken ticks at) where
  abbrev so_far : Shifting
  so_far = shifting board (moment b tx rx chain place) Taken taken ticks

  pub one_more : at < length cells → length cells < 2 ^ 64 → taken + 1 < 2 ^ 64
  one_more h k = omega (arith, v.few)

  -- behind the last call-up
  pub to_all : length cells ≤ at → (r : Shifted) (t u : List ℕ) (ch : List Bool)
      → shifted r t u ch ≡ shift_from [] so_far budget → shifted r t u ch ≡ shift_from (dues_in cells) s budget
  unfolding dues_by
  to_all h r t u ch e =
      let z : length cells - at ≡ 0 = omega arith in
      e ∙ sym (ap (λ (n : ℕ). shift_from (dues_by n cells at) so_far budget) z) ∙ v.whole

  module _ (h : at < length cells) (e : Entry) (k : Stands cells at e) (o : Offered) (t u : List ℕ) (ch : List Bool)
      (f : offered o t u ch
      ≡ offer_of board (moment b tx rx chain place) e.slot e.reading e.words.now (budget - ticks)) where
    is_next : offered o t u ch ≡ next_offer (due_at cells at) so_far budget
    is_next = f ∙ ap (λ (d : Due). next_offer d so_far budget) (λ i. record { slot = k.slot i; reading = k.reading i; words = k.words i })

    one_turn : shift_from (due_at cells at ∷ dues_left cells (due_after cells at)) so_far budget ≡ shift_from (dues_in cells) s budget
    one_turn = sym (ap (λ (ds : List Due). shift_from ds so_far budget) (dues_next cells at h)) ∙ v.whole

    module _ (x : Bool) (p : is_taken o.verdict ≡ not x) where
      told : is_taken (next_offer (due_at cells at) so_far budget).verdict ≡ not x
      told = sym (ap (λ (z : Offer). is_taken z.verdict) is_next) ∙ p

      pub again : x ≡ false → Inv cells budget s o.board o.bridge t u ch o.oldest (taken + 1) (ticks + o.ticks) e.next
      unfolding shift_from
      again q =
          record {
            whole =
                ap (λ (a : ℕ). shift_from (dues_left cells a) (taken_after so_far (offered o t u ch)) budget) k.next
                ∙ ap (λ (z : Offer). shift_from (dues_left cells (due_after cells at)) (taken_after so_far z) budget) is_next
                ∙ pick_true _ _ _ _ (told ∙ ap not q) refl
                ∙ one_turn;
            most = offer_within board (moment b tx rx chain place) e.slot e.reading _ ticks budget o t u ch f v.most;
            few = omega (arith, v.few, k.onward);
          }

      pub to_stopped : x ≡ true
          → shifted (record { board = o.board; bridge = o.bridge; oldest = o.oldest; verdict = o.verdict; taken = taken; ticks = ticks + o.ticks }) t u ch
          ≡ shift_from (dues_in cells) s budget
      unfolding shift_from
      to_stopped q =
          ap (λ (z : Offer). stopped_after so_far z) is_next
          ∙ pick_false _ _ _ _ (told ∙ ap not q) refl
          ∙ one_turn

-- notes 1 and 2
module _ (board : Board) (b : Bridge) (tx rx : List ℕ) (chain : List Bool) (place : ℕ) (cells : List ℕ) (budget : ℕ) (first : Verdict)
    (x : Bool) (h : first ≡ verdict_by (length tx) (length rx) b 0 1) (k : x ≡ is_broken first) where
  broken_is : is_broken (verdict_by (length tx) (length rx) b 0 1) ≡ x
  broken_is = ap is_broken (sym h) ∙ sym k

  pub to_broken : x ≡ true
      → shifted (record { board = board; bridge = b; oldest = place; verdict = first; taken = 0; ticks = 0 }) tx rx chain
      ≡ shift_of board (moment b tx rx chain place) cells budget
  unfolding shift_of
  to_broken q = pick_true _ _ _ _ (broken_is ∙ q) (ap (λ (v : Verdict). shifting board (moment b tx rx chain place) v 0 0) h)

  pub to_run : x ≡ false → (r : Shifted) (t u : List ℕ) (ch : List Bool)
      → shifted r t u ch ≡ shift_from (dues_in cells) (shifting board (moment b tx rx chain place) Taken 0 0) budget
      → shifted r t u ch ≡ shift_of board (moment b tx rx chain place) cells budget
  unfolding shift_of
  to_run q r t u ch e = pick_false _ _ _ _ (broken_is ∙ q) e
