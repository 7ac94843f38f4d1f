-- What a part of a list says of itself: its events are done, one at least. No rule. Assumes nothing.
use Rattle.std.specs.Prelude.{◌≡◌, List, ℕ, ◌<◌, ◌≤◌, length}
use Rattle.state.specs.declared.Bridge.{Bridge}
use Rattle.bridge.specs.Fit.{Fit}
use Rattle.listing.specs.Run.{Listable, Gone}

pub record Onward (records : List ℕ) (many from : ℕ) (b₀ : Bridge) (tx₀ rx₀ s₀ : List ℕ) (k : ℕ) (b : Bridge) (tx rx s : List ℕ) : Type 0 where
  pub gone : Gone records many from b₀ tx₀ rx₀ s₀ k b tx rx s
  pub some : from < k

-- the same of events that touch neither store
pub record Apart (records : List ℕ) (many from : ℕ) (b₀ : Bridge) (s₀ : List ℕ) (k : ℕ) (b : Bridge) (s : List ℕ) : Type 0 where
  pub each : (tx rx : List ℕ) → Fit b₀ tx rx → Gone records many from b₀ tx rx s₀ k b tx rx s
  pub least : from ≤ k
  pub list : Listable records s many
  pub size : length s ≡ length s₀

pub record Further (records : List ℕ) (many from : ℕ) (b₀ : Bridge) (s₀ : List ℕ) (k : ℕ) (b : Bridge) (s : List ℕ) : Type 0 where
  pub apart : Apart records many from b₀ s₀ k b s
  pub some : from < k
