-- Draining told by `step`, tick by tick (01 The line, "Draining"; What the contracts have to say: "An invented drain count fails against the
-- states stepped through"). Assumes nothing.
use Rattle.std.specs.Prelude.{◌≡◌, true, false, ℕ, zero, suc, ◌+◌, ◌≤◌, ◌<◌, replicate}
use Rattle.base.specs.Pick.{pick}
use Rattle.command.specs.Layouts.{Layouts}
use Rattle.state.specs.Notes.{note_number}
use Rattle.state.specs.declared.Note.{Note}
use Rattle.state.specs.declared.Note.TheVariants.{Done}
use Rattle.events.specs.declared.Event.TheVariants.{Tick}
use Rattle.bridge.specs.Runs.{Config, refuses, out_of, end_of}
use Rattle.drain.specs.Drain.{End, at_rest}

-- after so many "ticks with SIN 1"
abbrev pub after : Layouts → Config → ℕ → Config
after l c n = end_of l c (replicate n (Tick true))

-- the note that the next one has
abbrev pub note_at : Layouts → Config → ℕ → Note
note_at l c n = (out_of l (after l c n) (Tick true)).answer.note

-- the note of the last of n
unfoldable pub last_note : Layouts → Config → ℕ → Note
last_note l c zero = Done
last_note l c (suc n) = note_at l c n

-- the state and the stores that draining leaves
abbrev pub left_at : End → Config
left_at e = record { bridge = e.drained.state; tx = e.tx; rx = e.rx }

pub record Stepped (l : Layouts) (c : Config) (budget : ℕ) (e : End) : Type 0 where
  -- so many steps, and what they leave
  pub left : left_at e ≡ after l c e.drained.ticks
  -- "until the sender is idle and nothing may start, a note other than 0, or the budget's end"
  pub awake : (m : ℕ) → m < e.drained.ticks → at_rest (after l c m).bridge ≡ false
  pub silent : (m : ℕ) → m + 1 < e.drained.ticks → note_number (note_at l c m) ≡ 0
  pub most : e.drained.ticks ≤ budget
  pub stops : at_rest e.drained.state ≡ false → note_number e.drained.note ≡ 0 → e.drained.ticks ≡ budget
  -- "refused ones (1, 2) not counted"
  pub uncounted : refuses (note_at l c 0) ≡ true → e.drained.ticks ≡ 0
  -- the last tick's note, or the refusal's
  pub note : e.drained.note ≡ pick (refuses (note_at l c 0)) (note_at l c 0) (last_note l c e.drained.ticks)
