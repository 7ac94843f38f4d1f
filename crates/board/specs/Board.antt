-- The call-up board (02 item 13): forty slots, and what a call-up does. Assumes nothing.
use Rattle.std.specs.Prelude.{◌≡◌, List, [], ◌∷◌, ℕ, ◌+◌, length, set, replicate}
use Rattle.std.proofs.Common.{sym, ◌∙◌, ap}
use Rattle.base.specs.Pick.{pick}
use Rattle.command.specs.Layouts.{layouts}
use Rattle.state.specs.declared.Bridge.{Bridge}
use Rattle.bridge.specs.Runs.{Config, end_of}
use Rattle.verdict.specs.Verdicts.{call_up_most, slot_count, is_taken, verdict_by, Verdict, Taken}
use Rattle.callup.specs.CallUp.{call_up_to}
use Rattle.board.specs.declared.Board.{Board}
use Rattle.board.specs.declared.Slot.{Slot}
use Rattle.board.specs.declared.Called.{Called}

-- an answer and both stores as they are left
pub record Outcome : Type 0 where
  pub answer : Called
  pub tx : List ℕ
  pub rx : List ℕ

abbrev pub called : Called → List ℕ → List ℕ → Outcome
called r tx rx = record { answer = r; tx = tx; rx = rx }

-- two answers with their stores that satisfy one contract are the same
pub one_answer : (o : Outcome) (a b : Called) (t u r s : List ℕ) → called a t r ≡ o → called b u s ≡ o → (a ≡ b) × ((t ≡ u) × (r ≡ s))
one_answer o a b t u r s p q =
    (ap (λ (x : Outcome). x.answer) (p ∙ sym q), (ap (λ (x : Outcome). x.tx) (p ∙ sym q), ap (λ (x : Outcome). x.rx) (p ∙ sym q)))

-- words put into cells from the i-th on
unfoldable pub poured : List ℕ → ℕ → List ℕ → List ℕ
poured cells i [] = cells
poured cells i (w ∷ ws) = poured (set cells i w) (i + 1) ws

-- a slot has room for thirty words; those of the call-up are the first `count`
unfoldable pub slot_of : ℕ → List ℕ → Slot
slot_of reading ws = record { reading = reading; count = length ws; words = poured (replicate call_up_most 0) 0 ws }

-- before its first call-up
unfoldable pub empty_slot : Slot
empty_slot = slot_of 0 []

unfoldable pub empty_board : Board
empty_board = record { slots = replicate slot_count empty_slot }

-- "a slot shows its last"
unfoldable pub showing : Board → ℕ → ℕ → List ℕ → Board
showing board slot reading ws = record { slots = set board.slots slot (slot_of reading ws) }

-- the verdict on a call-up of so many words
abbrev pub verdict_of : Config → ℕ → ℕ → Verdict
verdict_of c slot n = verdict_by (length c.tx) (length c.rx) c.bridge slot n

-- "board and bridge unchanged"
abbrev pub refusal : Board → Bridge → Verdict → Called
refusal board b v = record { board = board; bridge = b; verdict = v }

abbrev pub refused_in : Board → Config → Verdict → Outcome
refused_in board c v = called (refusal board c.bridge v) c.tx c.rx

-- "It goes out when taken; the reading is only kept."
unfoldable pub taken_of : Board → Config → ℕ → ℕ → List ℕ → Outcome
taken_of board c slot reading ws =
    called (record { board = showing board slot reading ws; bridge = (end_of layouts c (call_up_to c ws)).bridge; verdict = Taken })
    (end_of layouts c (call_up_to c ws)).tx (end_of layouts c (call_up_to c ws)).rx

unfoldable pub call_up_of : Board → Config → ℕ → ℕ → List ℕ → Outcome
call_up_of board c slot reading ws =
    pick (is_taken (verdict_of c slot (length ws))) (taken_of board c slot reading ws) (refused_in board c (verdict_of c slot (length ws)))
