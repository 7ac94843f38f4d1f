-- What to write into TXFFLVL (02 item 2; 01 Frames: "Release: .. when TX holds at least TXFFLVL + 1 words just after one of this frame's is stored,
-- or when all data words have come"). Assumes nothing.
use Rattle.std.specs.Prelude.{◌≡◌, Bool, true, false, List, ℕ, ◌+◌, ◌-◌, ◌≤◌, ◌<◌}
use Rattle.command.specs.Layouts.{Layouts}
use Rattle.command.specs.declared.Command.TheVariants.{Forward}
use Rattle.state.specs.declared.Phase.TheVariants.{Collecting}
use Rattle.state.specs.Rings.{tx_size}
use Rattle.state.specs.declared.Deed.TheVariants.{Enqueue}
use Rattle.state.specs.declared.Place.{Place}
use Rattle.state.specs.Queue.{new_place, lacks, waiting, words_of}
use Rattle.next.specs.Next.{may_start, choose, is_start}
use Rattle.events.specs.declared.Event.{Event}
use Rattle.events.specs.declared.Event.TheVariants.{Power, Word, Release, Tick, Clock as ClockReading}
use Rattle.bridge.specs.Runs.{Config, Whole, next, end_of, ticks_in}
use Rattle.order.specs.Accepted.{plan_of}
use Rattle.ahead.specs.Ahead.{taken_at, ahead, Begun, Each, Uncut, Fed, AtLeastEvery}

-- whether the start bit of a command with words goes out at this event. 01 The line
abbrev pub starts : Config → Event → Bool
starts c (Power good layout) = false
starts c (Word w) = false
starts c Release = false
starts c (Tick sin) = is_start (choose c.bridge.sending (may_start c.bridge.control))
starts c (ClockReading reading) = false

-- No word of an earlier command is still to be taken: TX holds the words of one frame alone. An END, extra ENDs, and ENDs alone may still go out.
-- Event e queues that frame's command, and so many events later its start bit goes out, at a tick. 01 Frames; The line
pub record Alone (l : Layouts) (c : Config) (e : Event) (q : Place) (es : List Event) (sin : Bool) : Type 0 where
  pub whole : Whole c
  pub none_left : c.bridge.sending.sender.left ≡ 0
  pub none_waits : words_of (waiting c.bridge.sending.queue) ≡ 0
  pub queues : (plan_of l c e).deed ≡ Enqueue q
  pub with_words : 0 < q.words
  pub uncut : Uncut l (next l c e) es
  pub waits : Each es (λ before x. starts (end_of l (next l c e) before) x ≡ false)
  pub then_starts : starts (end_of l (next l c e) es) (Tick sin) ≡ true

-- where its start bit has just gone out
abbrev pub start_of : Layouts → Config → Event → List Event → Bool → Config
start_of l c e es sin = next l (end_of l (next l c e) es) (Tick sin)

abbrev pub in_tx : Config → ℕ
in_tx c = c.bridge.sending.tx.count

-- TXFFLVL. 01 Registers
abbrev pub level : Config → ℕ
level c = c.bridge.control.regs.txfflvl

pub record LevelAhead (l : Layouts) (c : Config) (e : Event) (q : Place) (es : List Event) (sin : Bool) : Type 0 where
  -- A command of that many words begins; a is what TX holds.
  pub begun : Begun (start_of l c e es sin) q.words (in_tx (start_of l c e es sin))
  -- THE LEVEL'S WORDS ARE AHEAD: TXFFLVL + 1 of them at least, or all.
  pub level_ahead : in_tx (start_of l c e es sin) < q.words → level c + 1 ≤ in_tx (start_of l c e es sin)
  -- WHAT TO WRITE. A host of a word every p ticks that has TXFFLVL at the words that must be ahead, less one, or higher, sees no note 13.
  pub level_enough : (p : ℕ) → 0 < p → ahead q.words p ≤ level c + 1 → (more : List Event) → Uncut l (start_of l c e es sin) more
      → AtLeastEvery p l (start_of l c e es sin) (q.words - in_tx (start_of l c e es sin)) more → ticks_in more ≤ taken_at (q.words - 1)
      → Fed l (start_of l c e es sin) more

abbrev pub WhatToWrite : Layouts → Type 0
WhatToWrite l = (c : Config) (e : Event) (q : Place) (es : List Event) (sin : Bool) → Alone l c e q es sin → LevelAhead l c e q es sin

-- AND NO LATER. A data word of a plain forward, neither blocked nor queued before, with which TX holds TXFFLVL + 1 words queues it, where TX has
-- room for that word and the queue as many places as it needs. 01 Frames; 02 item 3
abbrev pub NoLater : Layouts → Type 0
NoLater l = (c : Config) (words ends got sum mine : ℕ) (reads : Bool) (w : ℕ)
    → c.bridge.frame.phase ≡ Collecting (Forward false words ends reads) got sum mine false false → got < words
    → level c + 1 ≤ in_tx c + 1 → in_tx c < tx_size → lacks c.bridge.sending.queue (new_place words ends reads) ≡ false
    → (plan_of l c (Word w)).deed ≡ Enqueue (new_place words ends reads)
