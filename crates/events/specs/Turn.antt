-- One event's rule carried out on the stores (01 What the bridge is). Assumes nothing.
use Rattle.std.specs.Prelude.{◌≡◌, true, List, ℕ, length}
use Rattle.std.proofs.Common.{sym, ◌∙◌, ap}
use Rattle.command.specs.Layouts.{Layouts}
use Rattle.state.specs.Rings.{tx_size, rx_size, oldest, written}
use Rattle.rules.specs.Sound.{sound}
use Rattle.state.specs.declared.Bridge.{Bridge}
use Rattle.events.specs.Events.{reacted}
use Rattle.events.specs.declared.Answer.{Answer}
use Rattle.ticks.specs.declared.Did.{Did}
use Rattle.events.specs.declared.Event.{Event}

-- an answer and both stores as they are left
pub record Out : Type 0 where
  pub answer : Answer
  pub tx : List ℕ
  pub rx : List ℕ

abbrev pub out : Answer → List ℕ → List ℕ → Out
out a tx rx = record { answer = a; tx = tx; rx = rx }

-- stores and record as a turn needs them
pub record Ready (b : Bridge) (tx rx : List ℕ) : Type 0 where
  pub tx_length : length tx ≡ tx_size
  pub rx_length : length rx ≡ rx_size
  pub rules : sound b ≡ true

-- what an event did, with its words stored
unfoldable pub turned : Bridge → List ℕ → List ℕ → Did → Out
turned b tx rx d =
    out (record { state = d.bridge; sdo = d.sdo; sout = d.sout; note = d.note }) (written tx_size tx b.sending.tx d.tx)
    (written rx_size rx b.receiving.rx d.rx)

unfoldable pub turn : Layouts → Bridge → List ℕ → List ℕ → Event → Out
turn l b tx rx e = turned b tx rx (reacted l b e (oldest tx b.sending.tx) (oldest rx b.receiving.rx))

-- two answers with their stores that satisfy one contract are the same
pub one_outcome : (o : Out) (a b : Answer) (t u r s : List ℕ) → out a t r ≡ o → out b u s ≡ o → (a ≡ b) × ((t ≡ u) × (r ≡ s))
one_outcome o a b t u r s p q =
    (ap (λ (x : Out). x.answer) (p ∙ sym q), (ap (λ (x : Out). x.tx) (p ∙ sym q), ap (λ (x : Out). x.rx) (p ∙ sym q)))
