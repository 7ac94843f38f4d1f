-- How the events and the stores make a turn, as the functions' proofs ask it. Assumes nothing.
use mathlib.Core.Path.{◌≡◌, refl, sym, ◌∙◌, ap}
use mathlib.Core.Bool.{Bool}
use mathlib.Core.List.{List}
use Prim.Native.Nat.{ℕ, ◌<◌}
use lib.ListN.{length, get_or}
use Rattle.layout.specs.declared.Layout.{Layout}
use Rattle.command.specs.Layouts.{Layouts, layouts}
use Rattle.state.specs.Facts.{RingFit, HostFit}
use Rattle.state.specs.Rings.{written}
use Rattle.state.specs.declared.Bridge.{Bridge}
use Rattle.rules.proofs.Facts.{host_fit}
use Rattle.events.specs.Events.{powered, reacted}
use Rattle.ticks.specs.Ticks.{quietly}
use Rattle.events.specs.Turn.{out, Ready, turned, turn}
use Rattle.ticks.specs.declared.Did.{Did}
use Rattle.events.specs.declared.Event.{Event}

-- an arm knows the event
pub to_event : (l : Layouts) (b : Bridge) (e v : Event) (w x : ℕ) (d : Did) → v ≡ e → d ≡ reacted l b e w x → d ≡ reacted l b v w x
to_event l b e v w x d h k = k ∙ ap (λ (u : Event). reacted l b u w x) (sym h)

pub to_powered : (good : Bool) (layout : Layout) (p : Bridge) (d : Did) → p ≡ powered good layout → d ≡ quietly p → d ≡ quietly (powered good layout)
to_powered good layout p d e h = h ∙ ap (λ (q : Bridge). quietly q) e

-- what a turn is lent
module _ (b : Bridge) (tx rx : List ℕ) (r : Ready b tx rx) where
  pub ready_fit : HostFit b
  ready_fit = host_fit b r.rules

  pub ready_tx : RingFit (length tx) b.sending.tx
  ready_tx = rw r.tx_length ready_fit.sending.tx

  pub ready_rx : RingFit (length rx) b.receiving.rx
  ready_rx = rw r.rx_length ready_fit.rx

  pub tx_head : b.sending.tx.head < length tx
  tx_head = ready_tx.head

  pub rx_head : b.receiving.rx.head < length rx
  rx_head = ready_rx.head

  pub to_turn : (e : Event) (d : Did) (t u : List ℕ) → d ≡ reacted layouts b e (get_or tx b.sending.tx.head 0) (get_or rx b.receiving.rx.head 0)
      → t ≡ written (length tx) tx b.sending.tx d.tx → u ≡ written (length rx) rx b.receiving.rx d.rx
      → out (record { state = d.bridge; sdo = d.sdo; sout = d.sout; note = d.note }) t u ≡ turn layouts b tx rx e
  unfolding turn turned
  to_turn e d t u h k m = rw (k, m, r.tx_length, r.rx_length, h) refl
