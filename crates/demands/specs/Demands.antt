-- The three demands, over the real `bridge::step`: what was ordered, in the order's words, which stand here in quotes; 01 names the second and
-- the third (What the contracts have to say). Read this file from top to bottom; `proofs/Demands.antt` cites the theorem behind each. docs/DEMANDS.md says
-- the same in plain words. Assumes nothing.
use Rattle.std.specs.Prelude.{◌≡◌, Bool, true, false, List, ℕ, length}
use Rattle.layout.specs.declared.Layout.{Layout}
use Rattle.command.specs.Layouts.{layouts}
use Rattle.rules.specs.Sound.{sound}
use Rattle.state.specs.Queue.{places}
use Rattle.state.specs.declared.Bridge.{Bridge}
use Rattle.state.specs.declared.Note.TheVariants.{WrongStores, BrokenRecord}
use Rattle.events.specs.Turn.{out, turn}
use Rattle.events.specs.declared.Answer.{Answer}
use Rattle.events.specs.declared.Event.{Event}
use Rattle.bridge.specs.Step.{step, refused}
use Rattle.bridge.specs.Runs.{RightStores, refuses, power_on}
use Rattle.bridge.proofs.step.Statement.{statement}
use Rattle.order.specs.Demand.{Faithful}
use Rattle.order.specs.Premises.{AskedPremises}

-- THE CODE. Lent any record, any two stores and any event, the function `bridge::step` returns, and what it returns, with the stores as
-- it leaves them, is `step layouts` of what it was lent. It has no `requires`: nothing is asked of the caller. `statement` is this sentence about
-- the code itself, made by the toolchain of the contract in crates/bridge/src/lib.rt. What follows is about `step layouts`, and so about the code.
abbrev pub TheCode : Type 1 → Type 2
TheCode M = statement M

-- DEMAND 1. "Every event in every state gets an answer and ends. The library itself refuses wrong stores and broken states, and then state and
-- both stores are exactly as lent." That it answers and ends is `TheCode`. `refused` is the record and the two stores as lent, and the note.
pub record Answered (b : Bridge) (tx rx : List ℕ) (e : Event) : Type 0 where
  -- stores of other lengths than 512 and 256: note 1, whatever the record
  pub wrong_stores : (RightStores tx rx → ⊥) → step layouts b tx rx e ≡ refused b tx rx WrongStores
  -- a record that breaks one of the rules of docs/RECORD-RULES.md: note 2
  pub broken_record : RightStores tx rx → sound b ≡ false → step layouts b tx rx e ≡ refused b tx rx BrokenRecord
  -- nothing else is refused: the event's rule is carried out
  pub carried_out : RightStores tx rx → sound b ≡ true → step layouts b tx rx e ≡ turn layouts b tx rx e

-- And what is carried out leaves all fit for the next event. The code's type has an array of eight places.
pub record FitAgain (b : Bridge) (tx rx : List ℕ) (e : Event) : Type 0 where
  pub not_refused : refuses (step layouts b tx rx e).answer.note ≡ false
  pub record_again : sound (step layouts b tx rx e).answer.state ≡ true
  pub stores_again : RightStores (step layouts b tx rx e).tx (step layouts b tx rx e).rx

pub record Demand1 : Type 0 where
  pub answered : (b : Bridge) (tx rx : List ℕ) (e : Event) → Answered b tx rx e
  pub again : (b : Bridge) (tx rx : List ℕ) (e : Event) → length b.sending.queue.places ≡ places → RightStores tx rx → sound b ≡ true
      → FitAgain b tx rx e

-- DEMAND 2. "Each event does what document 01 says, for bits sent and bits read back: same bit, same answer word, same flags, same stores." What
-- 01 says is `turn` (crates/events/specs; docs/TRACE.md leads there sentence by sentence). That the code does it is `TheCode` with
-- `carried_out`; and it leaves no choice: two answers with the stores they leave, both as the contract says, are equal part by part.
abbrev pub Demand2 : Type 0
Demand2 = (b : Bridge) (tx rx : List ℕ) (e : Event) (a c : Answer) (t u r s : List ℕ) → out a t r ≡ step layouts b tx rx e
    → out c u s ≡ step layouts b tx rx e → (a ≡ c) × ((t ≡ u) × (r ≡ s))

-- DEMAND 3. "From power-up, mix host words, chip-select releases, line bits and clock readings in any order. With stores lent as they were left, no
-- transmit or queue fault, no transmit clear, soft reset or second power-up, and no frame cut short, the commands finished on the line, read by
-- the CCSI format, are the first so many accepted commands that carry words, in order, every word unchanged; one under way shows the first
-- words of the next; once all are sent the line shows them all."
-- `power_on` is the power-up value, good or bad OTP, with any words in the stores, and each event is lent the stores as the last one left them.
-- `AskedPremises` are the premises of the sentence. `Faithful` is the rest of it, about the bits that `step` put on the line and the commands
-- that it accepted: `in_order` at every moment, `all_sent` once all are sent, and that the bits are exactly those of these commands.
abbrev pub Demand3 : Type 0
Demand3 = (good : Bool) (layout : Layout) (tx rx : List ℕ) → RightStores tx rx → (es : List Event) → AskedPremises layouts (power_on good layout tx rx) es
    → Faithful layouts (power_on good layout tx rx) es
