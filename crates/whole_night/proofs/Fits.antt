-- What the run of a list is lent and leaves, as the functions' proofs ask it. Assumes nothing.
use mathlib.Core.Path.{◌≡◌, refl, sym, ◌∙◌, ap}
use mathlib.Core.Bool.{Bool, true}
use mathlib.Core.List.{List}
use Prim.Native.Nat.{ℕ, ◌+◌, ◌-◌, ◌*◌, ◌/◌, ◌<◌, ◌≤◌}
use native.Mathlib.Omega.{arith}
use lib.ListN.{length}
use Rattle.rules.specs.Sound.{sound}
use Rattle.state.specs.Rings.{tx_size, rx_size}
use Rattle.state.specs.declared.Bridge.{Bridge}
use Rattle.bridge.specs.Fit.{Fit}
use Rattle.bridge.proofs.Keeping.{is_ready_lem}
use Rattle.listing.specs.Records.{all_events}
use Rattle.listing.specs.Run.{moment, list_of, Listable, Gone}
use Rattle.listing.proofs.Laws.{to_end, joined}
use Rattle.night_parts.specs.Parts.{Onward}

pub is_fit : (t : Bool) (b : Bridge) (tx rx : List ℕ) → length tx ≡ tx_size → length rx ≡ rx_size → t ≡ sound b → t ≡ true
    → length b.sending.queue.places ≡ 8 → Fit b tx rx
is_fit t b tx rx h k o f e = record { ready = is_ready_lem t b tx rx h k o f; eight = e }

pub is_listable : (records s : List ℕ) (many : ℕ) → all_events records many ≡ true → many * 3 ≤ length records → many ≤ length s / 4
    → Listable records s many
is_listable records s many a h k = record { events = a; bytes = h; room = omega arith }

pub starts : (records : List ℕ) (many : ℕ) (b : Bridge) (tx rx s : List ℕ) → Fit b tx rx → Listable records s many
    → Gone records many 0 b tx rx s 0 b tx rx s
starts records many b tx rx s f l = record { whole = refl; fit = f; least = omega arith; within = omega arith; list = l; size = refl }

module _ (records : List ℕ) (many : ℕ) (b₀ : Bridge) (tx₀ rx₀ s₀ : List ℕ) (k : ℕ) (b : Bridge) (tx rx s : List ℕ)
    (v : Gone records many 0 b₀ tx₀ rx₀ s₀ k b tx rx s) where
  pub to_moment : many ≤ k → moment b tx rx s ≡ list_of records many 0 b₀ tx₀ rx₀ s₀
  unfolding list_of
  to_moment h =
      let z : many - 0 ≡ many = omega arith in
      to_end records many 0 b₀ tx₀ rx₀ s₀ k b tx rx s v h ∙ ap (λ (m : ℕ). list_of records m 0 b₀ tx₀ rx₀ s₀) z

  module _ (f : Fit b₀ tx₀ rx₀) where
    pub tx_kept : length tx ≡ length tx₀
    tx_kept = v.fit.ready.tx_length ∙ sym f.ready.tx_length

    pub rx_kept : length rx ≡ length rx₀
    rx_kept = v.fit.ready.rx_length ∙ sym f.ready.rx_length
