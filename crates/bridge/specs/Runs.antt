-- Runs of the bridge (01 What the bridge is): a state with both stores, from one event to the next, each event lent the stores as the last
-- one left them. Assumes nothing.
use Rattle.std.specs.Prelude.{◌≡◌, Bool, true, ◌&&◌, ◌||◌, List, [], ◌∷◌, ◌++◌, ℕ, suc, eqb, length}
use Rattle.command.specs.Layouts.{Layouts}
use Rattle.layout.specs.declared.Layout.{Layout}
use Rattle.rules.specs.Sound.{sound}
use Rattle.state.specs.Notes.{note_number}
use Rattle.state.specs.Queue.{places}
use Rattle.state.specs.Rings.{tx_size, rx_size}
use Rattle.state.specs.Sending.{idle}
use Rattle.state.specs.declared.Bridge.{Bridge}
use Rattle.state.specs.declared.Note.{Note}
use Rattle.state.specs.declared.Sending.{Sending}
use Rattle.events.specs.Events.{powered}
use Rattle.bridge.specs.Step.{step}
use Rattle.events.specs.Turn.{Out}
use Rattle.events.specs.declared.Event.{Event}
use Rattle.events.specs.declared.Event.TheVariants.{Power, Word, Release, Tick, Clock as ClockReading}

pub record Config : Type 0 where
  pub bridge : Bridge
  pub tx : List ℕ
  pub rx : List ℕ

-- "TX 512, RX 256"
pub record RightStores (tx rx : List ℕ) : Type 0 where
  pub tx_is : length tx ≡ tx_size
  pub rx_is : length rx ≡ rx_size

-- neither note 1 nor 2 is due. The code's type has an array of eight places.
pub record Whole (c : Config) : Type 0 where
  pub stores : RightStores c.tx c.rx
  pub rules : sound c.bridge ≡ true
  pub eight : length c.bridge.sending.queue.places ≡ places

-- notes 1 and 2: the event is refused. 01 Notes
unfoldable pub refuses : Note → Bool
refuses n = eqb (note_number n) 1 || eqb (note_number n) 2

-- notes 8, 9 and 13: those of TXFFOVF, QUEUE_OVF and TXFFUVF. 01 Notes
unfoldable pub faults : Note → Bool
faults n = eqb (note_number n) 8 || eqb (note_number n) 9 || eqb (note_number n) 13

-- what an event gives there
unfoldable pub out_of : Layouts → Config → Event → Out
out_of l c e = step l c.bridge c.tx c.rx e

abbrev pub left_by : Out → Config
left_by o = record { bridge = o.answer.state; tx = o.tx; rx = o.rx }

unfoldable pub next : Layouts → Config → Event → Config
next l c e = left_by (out_of l c e)

-- the end of a run
unfoldable pub end_of : Layouts → Config → List Event → Config
end_of l c [] = c
end_of l c (e ∷ es) = end_of l (next l c e) es

-- the line has a bit at a tick and at no other event
unfoldable pub line_bit : Event → Bool → List Bool
line_bit (Power good layout) b = []
line_bit (Word w) b = []
line_bit Release b = []
line_bit (Tick sin) b = b ∷ []
line_bit (ClockReading reading) b = []

-- the line ticks among events
unfoldable pub ticks_in : List Event → ℕ
ticks_in [] = 0
ticks_in (Power good layout ∷ es) = ticks_in es
ticks_in (Word w ∷ es) = ticks_in es
ticks_in (Release ∷ es) = ticks_in es
ticks_in (Tick sin ∷ es) = suc (ticks_in es)
ticks_in (ClockReading reading ∷ es) = ticks_in es

-- the SOUT bits of a run
unfoldable pub sout_of : Layouts → Config → List Event → List Bool
sout_of l c [] = []
sout_of l c (e ∷ es) = line_bit e (out_of l c e).answer.sout ++ sout_of l (next l c e) es

-- power-up in a layout, with whatever the stores hold
unfoldable pub power_on : Bool → Layout → List ℕ → List ℕ → Config
power_on good layout tx rx = record { bridge = powered good layout; tx = tx; rx = rx }

-- "once all are sent": nothing under way, no END owed, no place waiting
unfoldable pub all_sent : Sending → Bool
all_sent s = idle s.sender && eqb s.queue.begun s.queue.used

pub record AllSent (s : Sending) : Type 0 where
  pub idle_sender : idle s.sender ≡ true
  pub none_waits : s.queue.begun ≡ s.queue.used
