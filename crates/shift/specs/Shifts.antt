-- A shift (02 item 13, "the program for the shift"; how it goes is ours): call-ups offered in order, each waiting for room. It stops at one that is
-- refused for another reason, or where the ticks end; after the last one all that was taken is sent. Assumes nothing.
use Rattle.std.specs.Prelude.{◌≡◌, Bool, ◌||◌, List, [], ◌∷◌, ◌++◌, ℕ, zero, suc, ◌+◌, ◌-◌, ◌≤◌, ◌<◌, ltb, length, get_or, take, drop}
use Rattle.base.specs.Pick.{pick}
use Rattle.verdict.specs.Verdicts.{is_taken, is_broken, Verdict, Taken}
use Rattle.board.specs.Board.{Outcome, verdict_of, call_up_of}
use Rattle.board.specs.Moments.{config}
use Rattle.board.specs.declared.Board.{Board}
use Rattle.shift.specs.declared.Entry.{Entry}
use Rattle.chain.specs.declared.Goal.TheVariants.{Room, Sent}
use Rattle.shift.specs.declared.Offered.{Offered}
use Rattle.shift.specs.declared.Shifted.{Shifted}
use Rattle.chain.specs.Chain.{Moment, moment}
use Rattle.chain.specs.Waits.{Waiting, wait_from}

-- One call-up offered: the ticks until it finds room, and then its verdict.
pub record Offer : Type 0 where
  pub board : Board
  pub moment : Moment
  pub verdict : Verdict
  pub ticks : ℕ

abbrev pub offered : Offered → List ℕ → List ℕ → List Bool → Offer
offered r tx rx chain = record { board = r.board; moment = moment r.bridge tx rx chain r.oldest; verdict = r.verdict; ticks = r.ticks }

abbrev pub called_in : Waiting → Outcome → Offer
called_in w o = record {
  board = o.answer.board;
  moment = record { at = config o.answer.bridge o.tx o.rx; chain = w.moment.chain; oldest = w.moment.oldest };
  verdict = o.answer.verdict;
  ticks = w.ticks;
}

unfoldable pub offer_of : Board → Moment → ℕ → ℕ → List ℕ → ℕ → Offer
offer_of board m slot reading ws budget =
    called_in (wait_from budget (Room slot (length ws)) m)
    (call_up_of board (wait_from budget (Room slot (length ws)) m).moment.at slot reading ws)

-- A call-up of a list.
pub record Due : Type 0 where
  pub slot : ℕ
  pub reading : ℕ
  pub words : List ℕ

-- In a list of numbers a call-up is slot, reading, number of words, words; the next one follows. One that is cut has no words, and is the last.
unfoldable pub is_cut : List ℕ → ℕ → Bool
is_cut cells at = ltb (length cells) (at + 3) || ltb (length cells) (at + 3 + get_or cells (at + 2) 0)

abbrev pub cut_due : ℕ → Due
cut_due slot = record { slot = slot; reading = 0; words = [] }

unfoldable pub due_at : List ℕ → ℕ → Due
due_at cells at =
    pick (is_cut cells at) (cut_due (get_or cells at 0))
    (record { slot = get_or cells at 0; reading = get_or cells (at + 1) 0; words = take (get_or cells (at + 2) 0) (drop (at + 3) cells) })

unfoldable pub due_after : List ℕ → ℕ → ℕ
due_after cells at = pick (is_cut cells at) (length cells) (at + 3 + get_or cells (at + 2) 0)

-- where an entry of the list stands
pub record Stands (cells : List ℕ) (at : ℕ) (e : Entry) : Type 0 where
  pub slot : e.slot ≡ (due_at cells at).slot
  pub reading : e.reading ≡ (due_at cells at).reading
  pub words : e.words.now ≡ (due_at cells at).words
  pub next : e.next ≡ due_after cells at
  pub onward : at < e.next
  pub last : e.next ≤ length cells

-- at most n of them, from a cell on
unfoldable pub dues_by : ℕ → List ℕ → ℕ → List Due
dues_by zero cells at = []
dues_by (suc n) cells at = pick (ltb at (length cells)) (due_at cells at ∷ dues_by n cells (due_after cells at)) []

-- a list has no more call-ups than cells
abbrev pub dues_in : List ℕ → List Due
dues_in cells = dues_by (length cells) cells 0

-- the numbers of call-ups
unfoldable pub cells_of : List Due → List ℕ
cells_of [] = []
cells_of (d ∷ ds) = d.slot ∷ d.reading ∷ length d.words ∷ (d.words ++ cells_of ds)

-- How far a shift has come: so many taken, so many ticks made, and the refusal that stopped it.
pub record Shifting : Type 0 where
  pub board : Board
  pub moment : Moment
  pub verdict : Verdict
  pub taken : ℕ
  pub ticks : ℕ

abbrev pub shifted : Shifted → List ℕ → List ℕ → List Bool → Shifting
shifted r tx rx chain = record {
  board = r.board;
  moment = moment r.bridge tx rx chain r.oldest;
  verdict = r.verdict;
  taken = r.taken;
  ticks = r.ticks;
}

abbrev pub shifting : Board → Moment → Verdict → ℕ → ℕ → Shifting
shifting board m v taken ticks = record { board = board; moment = m; verdict = v; taken = taken; ticks = ticks }

-- after the last call-up: sent as far as the budget reaches
abbrev pub sent_after : Shifting → Waiting → Shifting
sent_after s w = shifting s.board w.moment Taken s.taken (s.ticks + w.ticks)

abbrev pub taken_after : Shifting → Offer → Shifting
taken_after s o = shifting o.board o.moment Taken (s.taken + 1) (s.ticks + o.ticks)

abbrev pub stopped_after : Shifting → Offer → Shifting
stopped_after s o = shifting o.board o.moment o.verdict s.taken (s.ticks + o.ticks)

abbrev pub next_offer : Due → Shifting → ℕ → Offer
next_offer d s budget = offer_of s.board s.moment d.slot d.reading d.words (budget - s.ticks)

unfoldable pub shift_from : List Due → Shifting → ℕ → Shifting
shift_from [] s budget = sent_after s (wait_from (budget - s.ticks) Sent s.moment)
shift_from (d ∷ ds) s budget =
    pick (is_taken (next_offer d s budget).verdict) (shift_from ds (taken_after s (next_offer d s budget)) budget) (stopped_after s (next_offer d s budget))

-- notes 1 and 2 come first, for an empty list too
abbrev pub first_verdict : Moment → Verdict
first_verdict m = verdict_of m.at 0 1

unfoldable pub shift_of : Board → Moment → List ℕ → ℕ → Shifting
shift_of board m cells budget =
    pick (is_broken (first_verdict m)) (shifting board m (first_verdict m) 0 0) (shift_from (dues_in cells) (shifting board m Taken 0 0) budget)
