-- "so line bits stay as they were" (02 item 3). The sending side by the rule of places as it is, and by 01's as it was (OnePlace.antt): whatever the reader
-- marks and frees in either, the same ticks and the same deeds of the host give the same bits. What a tick of the bridge sends is `tick_sender`'s (`ticked` of
-- `ticks`). Assumes nothing.
use Rattle.std.specs.Prelude.{◌≡◌, Bool, List, [], ◌∷◌, ℕ, ◌≤◌, ◌<◌, length, Option}
use Rattle.command.specs.Layout.{most_words, most_ends}
use Rattle.registers.specs.declared.Flags.{Flags}
use Rattle.state.specs.Facts.{RingFit, QueueFit}
use Rattle.state.specs.Queue.{places, place_at, waiting}
use Rattle.state.specs.Rings.{rx_size}
use Rattle.state.specs.Sending.{stored, done}
use Rattle.state.specs.declared.Deed.{Deed}
use Rattle.state.specs.declared.Deed.TheVariants.{Leave, Enqueue, TakeBack, ClearAll, ResetAll}
use Rattle.state.specs.declared.Place.{Place}
use Rattle.state.specs.declared.Queue.{Queue}
use Rattle.state.specs.declared.Receiving.{Receiving}
use Rattle.state.specs.declared.Sending.{Sending}
use Rattle.sender.specs.Sender.{tick_sender}
use Rattle.reader.specs.Reader.{tick_reader}
use Rattle.same_bits.specs.OnePlace.{returned_as_one, left_as_one, bit_as_one}

-- a queue within its limits, as every state reached has (docs/RECORD-RULES.md)
pub record Fit (q : Queue) : Type 0 where
  pub ranges : QueueFit q
  pub eight : length q.places ≡ places

-- what has begun is marked or freed, and the same commands wait
pub record SameWait (q r : Queue) : Type 0 where
  pub fit : Fit r
  pub waits : waiting r ≡ waiting q

-- The two sides send alike: the same words in TX, the same piece under way, the same commands waiting. What has begun is each one's own.
pub record Alike (s t : Sending) : Type 0 where
  pub fits : Fit s.queue
  pub others_fit : Fit t.queue
  pub tx : s.tx ≡ t.tx
  pub sender : s.sender ≡ t.sender
  pub waits : waiting s.queue ≡ waiting t.queue

-- What comes from outside: a tick, with whether a start is allowed and the oldest word of TX; the store and the deed of a host word or of a chip select release
-- (`performed` of `plan`); the reader's half of a tick, with the queue that it leaves by the one rule and by the other. A power-up begins both anew.
pub data Act : Type 0 where
  ticked : Bool → ℕ → Act
  hosted : Option ℕ → Deed → Act
  heard : Queue → Queue → Act

-- a deed for which the array has a record
abbrev pub Holds : Sending → Deed → Type 0
Holds s Leave = Unit {0}
Holds s (Enqueue p) = (s.queue.used < places) × (p.words ≤ most_words) × (p.ends ≤ most_ends)
Holds s (TakeBack n) = Unit {0}
Holds s ClearAll = Unit {0}
Holds s ResetAll = Unit {0}

abbrev pub with_queue : Sending → Queue → Sending
with_queue s q = record { tx = s.tx; queue = q; sender = s.sender }

-- the bits that these acts send, by the rule as it is
unfoldable pub bits_now : Sending → List Act → List Bool
bits_now s [] = []
bits_now s (ticked may w ∷ acts) = (tick_sender s may w).sout ∷ bits_now (tick_sender s may w).sending acts
bits_now s (hosted st d ∷ acts) = bits_now (done (stored s st) d) acts
bits_now s (heard now before ∷ acts) = bits_now (with_queue s now) acts

-- and as it was
unfoldable pub bits_before : Sending → List Act → List Bool
bits_before s [] = []
bits_before s (ticked may w ∷ acts) = bit_as_one s may w ∷ bits_before (left_as_one s may w) acts
bits_before s (hosted st d ∷ acts) = bits_before (done (stored s st) d) acts
bits_before s (heard now before ∷ acts) = bits_before (with_queue s before) acts

-- Any acts: deeds that either side can hold (note 9 apart, which comes sooner now), and marks that either reader can make.
abbrev pub Allowed : Sending → Sending → List Act → Type 0
Allowed s t [] = Unit {0}
Allowed s t (ticked may w ∷ acts) = Allowed (tick_sender s may w).sending (left_as_one t may w) acts
Allowed s t (hosted st d ∷ acts) = Holds s d × Holds t d × Allowed (done (stored s st) d) (done (stored t st) d) acts
Allowed s t (heard now before ∷ acts) = SameWait s.queue now × SameWait t.queue before × Allowed (with_queue s now) (with_queue t before) acts

pub record SameBits : Type 0 where
  -- LINE BITS STAY AS THEY WERE.
  pub same_bits : (s t : Sending) (acts : List Act) → Alike s t → Allowed s t acts → bits_now s acts ≡ bits_before t acts
  -- The reader's half is such an act; and so is, by 01's rule, a command that has begun and is marked or freed.
  pub reader_hears : (r : Receiving) (q : Queue) (f : Flags) (sin : Bool) → RingFit rx_size r.rx → Fit q → SameWait q (tick_reader r q f sin).queue
  pub one_hears : (q : Queue) (i : ℕ) (p : Place) → Fit q → i < q.begun → p.words ≤ (place_at q i).words → p.ends ≤ (place_at q i).ends
      → SameWait q (returned_as_one q i p).queue
