-- What a run of quiet ticks says of itself: so many `turn`s. Assumes nothing.
use Rattle.std.specs.Prelude.{◌≡◌, Bool, false, List, ℕ, ◌-◌, ◌≤◌, ltb, length}
use Rattle.state.specs.declared.Bridge.{Bridge}
use Rattle.bridge.specs.Fit.{Fit}
use Rattle.lull.specs.Lull.{hot_of, laid_by}
use Rattle.lull.specs.declared.Hot.{Hot}
use Rattle.listing.specs.Run.{list_of}

-- events `from` to k were quiet ticks: what is left of the list, from the record that they leave, is the list from `from` on
pub record Hush (records : List ℕ) (many : ℕ) (b : Bridge) (from : ℕ) (s₀ : List ℕ) (k : ℕ) (still : Bool) (h : Hot) (s : List ℕ) : Type 0 where
  pub whole : (tx rx : List ℕ) → list_of records (many - k) k (laid_by (ltb from k) b still h) tx rx s ≡ list_of records (many - from) from b tx rx s₀
  pub fit : (tx rx : List ℕ) → Fit b tx rx → Fit (laid_by (ltb from k) b still h) tx rx
  pub least : from ≤ k
  pub most : k ≤ many
  pub size : length s ≡ length s₀
  pub first : ltb from k ≡ false → h ≡ hot_of b
  pub gone : h.gone ≤ 18
