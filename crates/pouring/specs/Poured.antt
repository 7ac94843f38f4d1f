-- What a run of such words says of itself: so many `turn`s. Assumes nothing.
use Rattle.std.specs.Prelude.{◌≡◌, false, List, ℕ, ◌-◌, ◌≤◌, ltb, length}
use Rattle.state.specs.declared.Bridge.{Bridge}
use Rattle.bridge.specs.Fit.{Fit}
use Rattle.listing.specs.Run.{list_of}
use Rattle.pouring.specs.Pour.{stream_of, poured_by}
use Rattle.pouring.specs.declared.Stream.{Stream}

-- events `from` to k were such words: what is left of the list, from the record that they leave, is the list from `from` on
pub record Poured (records : List ℕ) (many : ℕ) (b : Bridge) (from : ℕ) (tx₀ s₀ : List ℕ) (k : ℕ) (st : Stream) (tx s : List ℕ) : Type 0 where
  pub whole : (rx : List ℕ) → list_of records (many - k) k (poured_by (ltb from k) b st) tx rx s ≡ list_of records (many - from) from b tx₀ rx s₀
  pub fit : (rx : List ℕ) → Fit b tx₀ rx → Fit (poured_by (ltb from k) b st) tx rx
  pub least : from ≤ k
  pub most : k ≤ many
  pub size : length s ≡ length s₀
  pub cells : length tx ≡ length tx₀
  pub first : ltb from k ≡ false → st ≡ stream_of b.frame.phase b.sending.tx.count
  pub few : st.count ≤ 512
  pub own : st.mine ≤ st.count
