-- How many words must be ahead (02 item 2: "A host too slow for it will see note 13, so the host guide says how many words must be ahead").
-- A command of n words has its start bit out, TX holds a words, and the host goes on giving words. Assumes nothing.
use Rattle.std.specs.Prelude.{◌≡◌, Bool, false, List, [], ◌∷◌, ◌++◌, ◌≢◌, ℕ, ◌+◌, ◌-◌, ◌*◌, ◌/◌, ◌≤◌, ◌<◌, Option, None, Some}
use Rattle.command.specs.Layouts.{Layouts}
use Rattle.line.specs.Format.{group_length}
use Rattle.line.specs.declared.Piece.TheVariants.{StartBit}
use Rattle.state.specs.declared.Note.{Note}
use Rattle.state.specs.declared.Note.TheVariants.{TxEmpty}
use Rattle.next.specs.Next.{may_start, choose}
use Rattle.next.specs.declared.Next.TheVariants.{LoadWord}
use Rattle.events.specs.declared.Event.{Event}
use Rattle.events.specs.declared.Event.TheVariants.{Tick}
use Rattle.bridge.specs.Runs.{Config, Whole, out_of, next, end_of, ticks_in}
use Rattle.order.specs.Accepted.{plan_of}
use Rattle.order.specs.Premises.{losing}

-- the tick that takes word k, from 0, as so many ticks after the start bit's: a word with its check bit is 17 bits, and "The sender takes a
-- word from TX at that word's first bit". 01 The line
unfoldable pub taken_at : ℕ → ℕ
taken_at k = group_length * k + 1

-- the words that must be in TX when the start bit goes out, of n, if the host gives one more every p ticks: by the last word's tick
-- (17 (n - 1) + 1) / p have come. ours (02 item 2; docs/HOST-GUIDE.md 4)
unfoldable pub ahead : ℕ → ℕ → ℕ
ahead n p = n - taken_at (n - 1) / p

-- A command begins: its start bit is out and none of its n words; a words are in TX. Neither note 1 nor 2 is due. 01 The line
pub record Begun (c : Config) (n a : ℕ) : Type 0 where
  pub whole : Whole c
  pub start_bit : c.bridge.sending.sender.piece ≡ StartBit
  pub words : c.bridge.sending.sender.left ≡ n
  pub tx_holds : c.bridge.sending.tx.count ≡ a

-- EVENTS since the start bit's tick: the number of the next tick, 1 for the first, and the words that the host has stored meanwhile.
unfoldable pub tick_after : List Event → ℕ
tick_after es = ticks_in es + 1

unfoldable pub puts : Option ℕ → ℕ
puts None = 0
puts (Some w) = 1

unfoldable pub stored_in : Layouts → Config → List Event → ℕ
stored_in l c [] = 0
stored_in l c (e ∷ es) = puts (plan_of l c e).store + stored_in l (next l c e) es

-- what holds of each event, with those before it
abbrev pub Each : List Event → (List Event → Event → Type 0) → Type 0
Each es P = (before : List Event) (e : Event) (after : List Event) → es ≡ before ++ (e ∷ after) → P before e

-- the command is not cut: no transmit clear, soft reset or power-up. 01 Registers; What the bridge is
abbrev pub Uncut : Layouts → Config → List Event → Type 0
Uncut l c es = Each es (λ before e. losing l (end_of l c before) e ≡ false)

abbrev pub note_after : Layouts → Config → List Event → Event → Note
note_after l c before e = (out_of l (end_of l c before) e).answer.note

-- note 13 does not come. 01 Notes
abbrev pub Fed : Layouts → Config → List Event → Type 0
Fed l c es = Each es (λ before e. note_after l c before e ≢ TxEmpty)

-- one more at least every p ticks, as long as fewer than m have come: before tick p one, before tick 2 p two, and so on. ours (docs/DECISIONS.md)
abbrev pub AtLeastEvery : ℕ → Layouts → Config → ℕ → List Event → Type 0
AtLeastEvery p l c m es =
    (before : List Event) (sin : Bool) (after : List Event) → es ≡ before ++ (Tick sin ∷ after) → stored_in l c before < m
    → tick_after before / p ≤ stored_in l c before

-- the next tick takes word k of n. 01 The line
pub record Takes (c : Config) (n k : ℕ) : Type 0 where
  pub does : choose c.bridge.sending (may_start c.bridge.control) ≡ LoadWord
  pub left : c.bridge.sending.sender.left ≡ n - k

-- Any events of a command under way: host words, releases, line bits of any kind and clock readings.
pub record WordsAhead (l : Layouts) (c : Config) (n a : ℕ) (es : List Event) : Type 0 where
  -- WHEN A WORD IS TAKEN. Word k is taken at its tick if more than k words have been in TX since the start bit; if not, that tick is note 13.
  pub in_time : Fed l c es → (k : ℕ) → k < n → tick_after es ≡ taken_at k → k < a + stored_in l c es → Takes (end_of l c es) n k
  pub too_late : Fed l c es → (k : ℕ) → k < n → tick_after es ≡ taken_at k → a + stored_in l c es ≤ k → (sin : Bool) → note_after l c es (Tick sin) ≡ TxEmpty
  -- HOW MANY MUST BE AHEAD. With that many, at least one, and a host that keeps its pace, note 13 does not come, up to the tick of the last word.
  pub enough : (p : ℕ) → 0 < p → 0 < a → ahead n p ≤ a → AtLeastEvery p l c (n - a) es → ticks_in es ≤ taken_at (n - 1) → Fed l c es
  -- With fewer, and at most one word every p ticks by then, it comes: at the tick of the last word, if not before.
  pub too_few : (p : ℕ) → 0 < p → a < ahead n p → Fed l c es → tick_after es ≡ taken_at (n - 1) → stored_in l c es ≤ tick_after es / p → (sin : Bool)
      → note_after l c es (Tick sin) ≡ TxEmpty

abbrev pub HowManyAhead : Layouts → Type 0
HowManyAhead l = (c : Config) (n a : ℕ) (es : List Event) → Begun c n a → Uncut l c es → WordsAhead l c n a es

-- A host of a word every 17 ticks, or faster, needs one.
abbrev pub FastEnough : Type 0
FastEnough = (n p : ℕ) → 0 < p → p ≤ group_length → ahead n p ≤ 1
