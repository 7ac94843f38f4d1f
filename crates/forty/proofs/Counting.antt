-- What a shift tells of itself, for any list, chain and budget: the events that it gave lead to what it leaves, its ticks are theirs, and its count says which
-- call-ups were taken. Assumes nothing.
use mathlib.Core.Path.{◌≡◌, refl, ap, sym, ◌∙◌, subst}
use mathlib.Core.Bool.{Bool, true, false}
use mathlib.Core.List.{List, [], ◌∷◌, ◌++◌}
use Prim.Native.Nat.{ℕ, zero, suc, ◌+◌, ◌-◌, ◌≤◌}
use native.Mathlib.Omega.{arith}
use lib.ListN.{length, take}
use Rattle.base.specs.Pick.{pick}
use Rattle.base.specs.Truth.{never}
use Rattle.command.specs.Layouts.{layouts}
use Rattle.registers.specs.declared.Regs.{Regs}
use Rattle.events.specs.declared.Event.{Event}
use Rattle.bridge.specs.Runs.{Config, ticks_in, end_of}
use Rattle.bridge.proofs.Ticks.{ticks_append}
use Rattle.verdict.specs.Verdicts.{is_taken, Verdict, Taken}
use Rattle.frames.specs.declared.Order.TheVariants.{FwdWrCrc}
use Rattle.callup.specs.CallUp.{vsync, given, call_up, call_up_to}
use Rattle.frames_found.specs.Found.{frame_in}
use Rattle.callup.proofs.CallUp.{end_append}
use Rattle.board.specs.Board.{showing, verdict_of, taken_of, call_up_of}
use Rattle.board.specs.declared.Board.{Board}
use Rattle.chain.specs.Chain.{Moment, ticked}
use Rattle.chain.specs.Echo.{echo}
use Rattle.chain.specs.Waits.{met, Waiting, waiting, wait_of, wait_from}
use Rattle.chain.specs.declared.Goal.{Goal}
use Rattle.chain.specs.declared.Goal.TheVariants.{Room, Sent}
use Rattle.echoes.proofs.Settling.{fed_in}
use Rattle.shift.specs.Shifts.{Due, Shifting, shifting, Offer, offer_of, taken_after, next_offer, shift_from}
use Rattle.shift.proofs.Lists.{shift_ticks}
use Rattle.forty.specs.Traces.{under, under_way, sin_at, wait_events, offer_events, shift_events}
use Rattle.forty.specs.Ends.{board_after}
use Rattle.forty.specs.Forty.{Counted}
use Rattle.forty.proofs.Ring.{under_front, under_behind}

-- 1. The chain: what comes back is the oldest bit under way.
pub gives_back : (m : Moment) → under_way m ++ (echo layouts m.at ∷ []) ≡ sin_at m ∷ under_way (ticked m)
unfolding ticked
gives_back m =
    let b : Bool = echo layouts m.at in
    fed_in (under m.chain m.oldest) b
    ∙ rw (under_front m.chain m.oldest b, under_behind m.chain m.oldest b) refl

-- 2. Its events lead to what it leaves, and its ticks are theirs.
given_none : (ws : List ℕ) → ticks_in (given ws) ≡ 0
unfolding given ticks_in
given_none [] = refl
given_none (w ∷ ws) = given_none ws

call_none : (r : Regs) (ws : List ℕ) → ticks_in (call_up r ws) ≡ 0
unfolding call_up
call_none r ws =
    ticks_append (given (frame_in r FwdWrCrc ws)) (given (frame_in r FwdWrCrc (vsync ∷ [])))
    ∙ omega (arith, given_none (frame_in r FwdWrCrc ws), given_none (frame_in r FwdWrCrc (vsync ∷ [])))

-- what events lead to, and how many ticks are among them
pub record Leads (c : Config) (es : List Event) (d : Config) (n m : ℕ) : Type 0 where
  pub ends : end_of layouts c es ≡ d
  pub ticks : n + ticks_in es ≡ m

leads_none : (c : Config) (n : ℕ) → Leads c [] c n n
unfolding end_of ticks_in
leads_none c n = record { ends = refl; ticks = omega arith }

leads_then : (c d e : Config) (a b : List Event) (n m k : ℕ) → Leads c a d n m → Leads d b e m k → Leads c (a ++ b) e n k
leads_then c d e a b n m k x y =
    record {
      ends = end_append layouts c a b ∙ ap (λ (z : Config). end_of layouts z b) x.ends ∙ y.ends;
      ticks = omega (arith, ticks_append a b, x.ticks, y.ticks);
    }

by_met : (goal : Goal) (budget : ℕ) (w : Waiting) (t : Bool) → met goal w.moment.at ≡ t
    → Leads (ticked w.moment).at (wait_events budget goal (ticked w.moment))
    (wait_of budget goal (waiting (ticked w.moment) (w.ticks + 1) (echo layouts w.moment.at))).moment.at (w.ticks + 1)
    (wait_of budget goal (waiting (ticked w.moment) (w.ticks + 1) (echo layouts w.moment.at))).ticks
    → Leads w.moment.at (wait_events (suc budget) goal w.moment) (wait_of (suc budget) goal w).moment.at w.ticks (wait_of (suc budget) goal w).ticks
unfolding wait_events wait_of pick
by_met goal budget w true h x = rw h (leads_none w.moment.at w.ticks)
by_met goal budget w false h x =
    rw h (record { ends = unfold end_of ticked in x.ends; ticks = unfold ticks_in in omega (arith, x.ticks) })

wait_leads : (budget : ℕ) (goal : Goal) (w : Waiting)
    → Leads w.moment.at (wait_events budget goal w.moment) (wait_of budget goal w).moment.at w.ticks (wait_of budget goal w).ticks
wait_leads zero goal w = unfold wait_events wait_of in leads_none w.moment.at w.ticks
wait_leads (suc budget) goal w =
    by_met goal budget w (met goal w.moment.at) refl
    (wait_leads budget goal (waiting (ticked w.moment) (w.ticks + 1) (echo layouts w.moment.at)))

-- a wait that begins after n ticks
wait_from_lem : (budget : ℕ) (goal : Goal) (m : Moment) (n : ℕ)
    → Leads m.at (wait_events budget goal m) (wait_from budget goal m).moment.at n (n + (wait_from budget goal m).ticks)
wait_from_lem budget goal m n =
    let l = wait_leads budget goal (waiting m 0 true) in
    record { ends = l.ends; ticks = omega (arith, l.ticks) }

-- 3. A shift from s on, that leaves r.
pub record Told (ds : List Due) (s : Shifting) (r : Shifting) (es : List Event) : Type 0 where
  pub leads : Leads s.moment.at es r.moment.at s.ticks r.ticks
  pub count : ℕ
  pub taken_is : r.taken ≡ s.taken + count
  pub no_more : count ≤ length ds
  pub board_is : r.board ≡ board_after s.board (take count ds)
  pub all_of_them : r.verdict ≡ Taken → count ≡ length ds

told_last : (s : Shifting) (budget : ℕ) → Told [] s (shift_from [] s budget) (shift_events [] s budget)
unfolding shift_from shift_events board_after
told_last s budget =
    record {
      leads = wait_from_lem (budget - s.ticks) Sent s.moment s.ticks;
      count = 0;
      taken_is = omega arith;
      no_more = omega arith;
      board_is = refl;
      all_of_them = λ h. refl;
    }

module _ (d : Due) (ds : List Due) (s : Shifting) (budget : ℕ) where
  abbrev goal : Goal
  goal = Room d.slot (length d.words)

  abbrev w : Waiting
  w = wait_from (budget - s.ticks) goal s.moment

  abbrev before : List Event
  before = wait_events (budget - s.ticks) goal s.moment

  abbrev due : Verdict
  due = verdict_of w.moment.at d.slot (length d.words)

  abbrev took : Offer
  took = record {
    board = showing s.board d.slot d.reading d.words;
    moment = record { at = end_of layouts w.moment.at (call_up_to w.moment.at d.words); chain = w.moment.chain; oldest = w.moment.oldest };
    verdict = Taken;
    ticks = w.ticks;
  }

  offer_took : is_taken due ≡ true → next_offer d s budget ≡ took
  unfolding offer_of call_up_of taken_of pick
  offer_took h = rw h refl

  abbrev left : Offer
  left = record { board = s.board; moment = w.moment; verdict = due; ticks = w.ticks }

  offer_left : is_taken due ≡ false → next_offer d s budget ≡ left
  unfolding offer_of call_up_of pick
  offer_left h = rw h refl

  told_left : is_taken due ≡ false → Told (d ∷ ds) s (shift_from (d ∷ ds) s budget) (shift_events (d ∷ ds) s budget)
  unfolding shift_from shift_events offer_events board_after pick
  told_left h =
      rw (offer_left h, h)
      (record {
        leads =
            leads_then _ _ _ (before ++ []) [] _ _ _
            (leads_then _ _ _ before [] _ _ _ (wait_from_lem (budget - s.ticks) goal s.moment s.ticks) (leads_none _ _))
            (leads_none _ _);
        count = 0;
        taken_is = omega arith;
        no_more = omega arith;
        board_is = refl;
        all_of_them = λ e. never _ (ap is_taken e) h;
      })

  told_took : is_taken due ≡ true
      → Told ds (taken_after s took) (shift_from ds (taken_after s took) budget) (shift_events ds (taken_after s took) budget)
      → Told (d ∷ ds) s (shift_from (d ∷ ds) s budget) (shift_events (d ∷ ds) s budget)
  unfolding shift_from shift_events offer_events board_after pick
  told_took h t =
      rw (offer_took h)
      (record {
        leads =
            leads_then _ _ _ (before ++ call_up_to w.moment.at d.words) (shift_events ds (taken_after s took) budget) _ _ _
            (leads_then _ _ _ before (call_up_to w.moment.at d.words) _ _ _ (wait_from_lem (budget - s.ticks) goal s.moment s.ticks) called_on)
            t.leads;
        count = suc t.count;
        taken_is = omega (arith, t.taken_is);
        no_more = omega (arith, t.no_more);
        board_is = t.board_is;
        all_of_them = λ e. ap suc (t.all_of_them e);
      })
    where
      called_on : Leads w.moment.at (call_up_to w.moment.at d.words) (end_of layouts w.moment.at (call_up_to w.moment.at d.words)) (s.ticks + w.ticks) (s.ticks + w.ticks)
      called_on = record { ends = refl; ticks = omega (arith, call_none w.moment.at.bridge.control.regs d.words) }

  by_verdict : (t : Bool) → is_taken due ≡ t
      → Told ds (taken_after s took) (shift_from ds (taken_after s took) budget) (shift_events ds (taken_after s took) budget)
      → Told (d ∷ ds) s (shift_from (d ∷ ds) s budget) (shift_events (d ∷ ds) s budget)
  by_verdict true h t = told_took h t
  by_verdict false h t = told_left h

pub shift_told : (ds : List Due) (s : Shifting) (budget : ℕ) → Told ds s (shift_from ds s budget) (shift_events ds s budget)
shift_told [] s budget = told_last s budget
shift_told (d ∷ ds) s budget = by_verdict d ds s budget _ refl (shift_told ds (taken_after s (took d ds s budget)) budget)

-- from its first call-up on
pub shift_counted : (board : Board) (m : Moment) (ds : List Due) (budget : ℕ) → Counted board ds budget (shift_from ds (shifting board m Taken 0 0) budget)
shift_counted board m ds budget =
    let s : Shifting = shifting board m Taken 0 0 in
    let t = shift_told ds s budget in
    let e : t.count ≡ (shift_from ds s budget).taken = omega (arith, t.taken_is) in
    record {
      no_more = omega (arith, t.no_more, t.taken_is);
      board_is = subst (λ (n : ℕ). (shift_from ds s budget).board ≡ board_after board (take n ds)) e t.board_is;
      all_of_them = λ v. sym e ∙ t.all_of_them v;
      in_budget = shift_ticks ds s budget (omega arith);
    }

pub shift_given : (board : Board) (m : Moment) (ds : List Due) (budget : ℕ)
    → end_of layouts m.at (shift_events ds (shifting board m Taken 0 0) budget) ≡ (shift_from ds (shifting board m Taken 0 0) budget).moment.at
shift_given board m ds budget = (shift_told ds (shifting board m Taken 0 0) budget).leads.ends

pub ticks_given : (board : Board) (m : Moment) (ds : List Due) (budget : ℕ)
    → ticks_in (shift_events ds (shifting board m Taken 0 0) budget) ≡ (shift_from ds (shifting board m Taken 0 0) budget).ticks
ticks_given board m ds budget = omega (arith, (shift_told ds (shifting board m Taken 0 0) budget).leads.ticks)
