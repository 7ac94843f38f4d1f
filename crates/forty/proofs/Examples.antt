-- The premises can be met: power-up, POR cleared, and then any call-ups, with any chain, in either layout. Computed, but for what the line shows.
use mathlib.Core.Path.{◌≡◌, refl, ap, sym, ◌∙◌}
use mathlib.Core.Bool.{Bool, true, false}
use mathlib.Core.List.{List, [], ◌∷◌, ◌++◌}
use Prim.Native.Nat.{ℕ, zero, suc, ◌≤◌, ◌<◌}
use native.Mathlib.Omega.{arith}
use lib.ListN.{length, get_or, replicate, length-replicate}
use Rattle.layout.specs.declared.Layout.TheVariants.{Ours, Makers}
use Rattle.command.specs.Layouts.{start_by, layouts}
use Rattle.registers.specs.Spictrl.{is_xmodem}
use Rattle.line.specs.Reader.{read_line}
use Rattle.events.specs.declared.Event.{Event}
use Rattle.bridge.specs.Runs.{Config, end_of, sout_of, power_on}
use Rattle.frames.specs.Frames.{frame_of}
use Rattle.frames.specs.declared.Order.TheVariants.{RegWr}
use Rattle.order.specs.Accepted.{accepted_in}
use Rattle.order.specs.Premises.{Premises}
use Rattle.order.proofs.Examples.{from, opening, meets}
use Rattle.order.proofs.Tests.{are_premises}
use Rattle.verdict.specs.Verdicts.{Taken}
use Rattle.callup.specs.CallUp.{given, pairs}
use Rattle.callup.specs.Taken.{Open}
use Rattle.board.specs.Board.{empty_board}
use Rattle.chain.specs.Chain.{Moment}
use Rattle.shift.specs.Shifts.{Due, shifting}
use Rattle.forty.specs.Traces.{shift_events}
use Rattle.forty.specs.Ends.{budget_for, AllRight, AtRest, words_of}
use Rattle.forty.proofs.Forty.{call_up_board}

-- a bridge whose flags were cleared after power-up, and a chain of so many cells
abbrev pub cleared : ℕ → Moment
cleared delay = record { at = end_of layouts from opening; chain = replicate delay true; oldest = 0 }

zero_cells : (n i : ℕ) → get_or (replicate n 0) i 0 < 65536
zero_cells zero i = omega arith
zero_cells (suc n) zero = omega arith
zero_cells (suc n) (suc i) = zero_cells n i

open_there : Open (end_of layouts from opening)
unfolding meets
open_there = record { normal = refl; clear = refl; unblocked = refl; idle_frame = refl }

cells_there : (end_of layouts from opening).tx ≡ replicate 512 0
unfolding meets
cells_there = refl

rest_there : (delay : ℕ) → AtRest (cleared delay)
unfolding meets
rest_there delay =
    record {
      free = open_there;
      none_queued = refl;
      sender = refl;
      reader = refl;
      chain_idle = ap (λ (n : ℕ). replicate n true) (sym (length-replicate {A = Bool} delay true));
      cells = λ i. zero_cells 512 i;
    }

meets_opening : Premises layouts from opening
unfolding meets
meets_opening = are_premises layouts from opening refl

none_before : accepted_in layouts from opening ≡ []
unfolding meets
none_before = refl

-- Any call-ups: the line shows them, each with its VSYNC, and nothing else.
pub any_shown : (delay : ℕ) (ds : List Due) (budget : ℕ) → AllRight ds → budget_for delay ds ≤ budget
    → (read_line (sout_of layouts from (opening ++ shift_events ds (shifting empty_board (cleared delay) Taken 0 0) budget))).finished ≡ pairs (words_of ds)
any_shown delay ds budget a h =
    let n : length (replicate delay true) ≡ delay = length-replicate {A = Bool} delay true in
    call_up_board.shift_shown true Ours (replicate 512 0) (replicate 256 0) opening empty_board (cleared delay) ds budget (record { tx_is = length-replicate {A = ℕ} 512 0; rx_is = length-replicate {A = ℕ} 256 0 }) meets_opening refl (rest_there delay) a (rw n h)
    ∙ ap (λ (D : List (List ℕ)). D ++ pairs (words_of ds)) none_before

-- two of them, for one slot and reading: both go out
abbrev twice : List Due
twice =
    record { slot = 5; reading = 21600; words = 0xAA05 ∷ 7 ∷ [] } ∷ record { slot = 5; reading = 21600; words = 0xAA05 ∷ [] } ∷ []

right_twice : AllRight twice
right_twice = (
  record { in_board = omega arith; some = omega arith; most = omega arith; sixteen = (omega arith, (omega arith, tt)) },
  (record { in_board = omega arith; some = omega arith; most = omega arith; sixteen = (omega arith, tt) }, tt),
)

pub twice_budget : budget_for 0 twice ≡ 161
unfolding budget_for
twice_budget = refl

pub twice_shown : (read_line (sout_of layouts from (opening ++ shift_events twice (shifting empty_board (cleared 0) Taken 0 0) 161))).finished
    ≡ (0xAA05 ∷ 7 ∷ []) ∷ (0xAAF0 ∷ []) ∷ (0xAA05 ∷ []) ∷ (0xAAF0 ∷ []) ∷ []
unfolding words_of pairs
twice_shown = any_shown 0 twice 161 right_twice (omega (arith, twice_budget))

-- In the maker's layout (02 item 7), where a host first writes SPICTRL with CRC-16/XMODEM chosen, and then clears POR by that algorithm.
abbrev makers : Config
makers = power_on true Makers (replicate 512 0) (replicate 256 0)

pub choosing : List Event
choosing = given (frame_of Makers (start_by false) (RegWr 1) (0x00A4 ∷ [])) ++ given (frame_of Makers (start_by true) (RegWr 7) (0x8000 ∷ []))

abbrev pub chosen : ℕ → Moment
chosen delay = record { at = end_of layouts makers choosing; chain = replicate delay true; oldest = 0 }

pub by_xmodem : is_xmodem (chosen 0).at.bridge.control.regs ≡ true
unfolding meets choosing given
by_xmodem = refl

rest_makers : (delay : ℕ) → AtRest (chosen delay)
unfolding meets choosing given
rest_makers delay =
    record {
      free = record { normal = refl; clear = refl; unblocked = refl; idle_frame = refl };
      none_queued = refl;
      sender = refl;
      reader = refl;
      chain_idle = ap (λ (n : ℕ). replicate n true) (sym (length-replicate {A = Bool} delay true));
      cells = λ i. zero_cells 512 i;
    }

meets_choosing : Premises layouts makers choosing
unfolding meets choosing given
meets_choosing = are_premises layouts makers choosing refl

none_chosen : accepted_in layouts makers choosing ≡ []
unfolding meets choosing given
none_chosen = refl

pub makers_shown : (delay : ℕ) (ds : List Due) (budget : ℕ) → AllRight ds → budget_for delay ds ≤ budget
    → (read_line (sout_of layouts makers (choosing ++ shift_events ds (shifting empty_board (chosen delay) Taken 0 0) budget))).finished ≡ pairs (words_of ds)
makers_shown delay ds budget a h =
    let n : length (replicate delay true) ≡ delay = length-replicate {A = Bool} delay true in
    call_up_board.shift_shown true Makers (replicate 512 0) (replicate 256 0) choosing empty_board (chosen delay) ds budget (record { tx_is = length-replicate {A = ℕ} 512 0; rx_is = length-replicate {A = ℕ} 256 0 }) meets_choosing refl (rest_makers delay) a (rw n h)
    ∙ ap (λ (D : List (List ℕ)). D ++ pairs (words_of ds)) none_chosen
