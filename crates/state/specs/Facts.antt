-- The record rules as facts, for the functions inside. What tests them is `sound`.
use Rattle.std.specs.Prelude.{◌≡◌, true, ℕ, ◌+◌, ◌≤◌, ◌<◌}
use Rattle.command.specs.Layout.{most_words, most_ends}
use Rattle.line.specs.Format.{end_length}
use Rattle.state.specs.Queue.{places, place_at, places_of, in_use}
use Rattle.state.specs.Rings.{tx_size, rx_size}
use Rattle.state.specs.Frame.{mine_of, phase_sound}
use Rattle.state.specs.declared.Ring.{Ring}
use Rattle.state.specs.declared.Queue.{Queue}
use Rattle.state.specs.declared.Sending.{Sending}
use Rattle.state.specs.declared.Bridge.{Bridge}
use Rattle.state.specs.declared.Deed.{Deed}
use Rattle.state.specs.declared.Deed.TheVariants.{Leave, Enqueue, TakeBack, ClearAll, ResetAll}

pub record RingFit (size : ℕ) (r : Ring) : Type 0 where
  pub head : r.head < size
  pub count : r.count ≤ size

pub record QueueFit (q : Queue) : Type 0 where
  pub order : q.begun ≤ q.used
  pub most : q.used ≤ places
  pub words : (i : ℕ) → i < q.used → (place_at q i).words ≤ most_words
  pub ends : (i : ℕ) → i < q.used → (place_at q i).ends ≤ most_ends

pub record SendFit (s : Sending) : Type 0 where
  pub tx : RingFit tx_size s.tx
  pub queue : QueueFit s.queue
  pub gone : s.sender.gone ≤ end_length

pub record HostFit (b : Bridge) : Type 0 where
  pub sending : SendFit b.sending
  pub rx : RingFit rx_size b.receiving.rx
  pub phase : phase_sound b.frame.phase ≡ true
  pub mine : mine_of b.frame.phase ≤ b.sending.tx.count

-- what a deed asks: as many free places as the command needs, or as many words as it takes back
abbrev pub Doable : Sending → Deed → Type 0
Doable s Leave = Unit {0}
Doable s (Enqueue p) = in_use s.queue + places_of p ≤ places
Doable s (TakeBack n) = n ≤ s.tx.count
Doable s ClearAll = Unit {0}
Doable s ResetAll = Unit {0}
