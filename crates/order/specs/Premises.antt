-- What demand 3 asks of a run: "no transmit or queue fault, no transmit clear, soft reset or second power-up, and no frame cut short". That
-- speaks of flags, notes and deeds alone (`AskedPremises`). The theorems need less (`Premises`): frames may be cut short, and what clears may
-- come once all is sent. Assumes nothing.
use Rattle.std.specs.Prelude.{◌≡◌, Bool, true, false, not, ◌&&◌, ◌||◌, List, [], ◌∷◌, ◌≢◌, ℕ, ◌<◌, ltb}
use Rattle.base.specs.Bits.{word_end}
use Rattle.command.specs.Layouts.{Layouts}
use Rattle.registers.specs.Registers.{blocking}
use Rattle.state.specs.Notes.{note_number}
use Rattle.forwards.specs.Forward.{clears}
use Rattle.events.specs.declared.Event.{Event}
use Rattle.events.specs.declared.Event.TheVariants.{Power, Word, Release, Tick, Clock as ClockReading}
use Rattle.bridge.specs.Runs.{Config, faults, out_of, next, all_sent, AllSent}
use Rattle.order.specs.Accepted.{plan_of}

-- words and readings are of sixteen bits
abbrev pub Typed : Event → Type 0
Typed (Power good layout) = Unit {0}
Typed (Word w) = w < word_end
Typed Release = Unit {0}
Typed (Tick sin) = Unit {0}
Typed (ClockReading reading) = reading < word_end

unfoldable pub is_power : Event → Bool
is_power (Power good layout) = true
is_power (Word w) = false
is_power Release = false
is_power (Tick sin) = false
is_power (ClockReading reading) = false

-- a transmit clear or a soft reset
abbrev pub clearing : Layouts → Config → Event → Bool
clearing l c e = clears (plan_of l c e).deed

-- what would lose what is accepted and not yet sent: a power-up too
abbrev pub losing : Layouts → Config → Event → Bool
losing l c e = is_power e || clearing l c e

-- What the theorems ask of an event: no transmit or queue fault; a power-up, transmit clear or soft reset only where nothing accepted is
-- unsent.
pub record Fair (l : Layouts) (c : Config) (e : Event) : Type 0 where
  pub typed : Typed e
  pub no_fault : faults (out_of l c e).answer.note ≡ false
  pub no_loss : losing l c e ≡ true → AllSent c.bridge.sending

abbrev pub Premises : Layouts → Config → List Event → Type 0
Premises l c [] = Unit {0}
Premises l c (e ∷ es) = Fair l c e × Premises l (next l c e) es

-- note 12: "chip select released before the CRC word". 01 Notes
abbrev pub cut_short : ℕ
cut_short = 12

-- What demand 3 itself asks, in its own order; it is more than `Fair`. `blocking` flags are TXFFOVF, TXFFUVF and QUEUE_OVF.
pub record FairAsAsked (l : Layouts) (c : Config) (e : Event) : Type 0 where
  pub typed : Typed e
  pub no_fault : blocking (next l c e).bridge.control.flags ≡ false
  pub no_clear : clearing l c e ≡ false
  pub no_power : is_power e ≡ false
  pub no_cut : note_number (out_of l c e).answer.note ≢ cut_short

abbrev pub AskedPremises : Layouts → Config → List Event → Type 0
AskedPremises l c [] = Unit {0}
AskedPremises l c (e ∷ es) = FairAsAsked l c e × AskedPremises l (next l c e) es

-- `Premises` as a test, for runs that are computed.
unfoldable pub typed : Event → Bool
typed (Power good layout) = true
typed (Word w) = ltb w word_end
typed Release = true
typed (Tick sin) = true
typed (ClockReading reading) = ltb reading word_end

unfoldable pub fair : Layouts → Config → Event → Bool
fair l c e = typed e && not (faults (out_of l c e).answer.note) && (not (losing l c e) || all_sent c.bridge.sending)

unfoldable pub premises : Layouts → Config → List Event → Bool
premises l c [] = true
premises l c (e ∷ es) = fair l c e && premises l (next l c e) es
