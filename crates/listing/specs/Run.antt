-- A list's run from event to event, each lent what the last one left, and what a part of it says of itself. No rule: each event is `turn`.
-- Assumes nothing.
use Rattle.std.specs.Prelude.{◌≡◌, Bool, true, List, ℕ, zero, suc, ◌+◌, ◌-◌, ◌*◌, ◌≤◌, ◌<◌, length}
use Rattle.command.specs.Layouts.{layouts}
use Rattle.state.specs.Notes.{note_number}
use Rattle.state.specs.declared.Bridge.{Bridge}
use Rattle.events.specs.Turn.{Out, turn}
use Rattle.events.specs.declared.Answer.{Answer}
use Rattle.bridge.specs.Fit.{Fit}
use Rattle.listing.specs.Records.{event_at, all_events}
use Rattle.listing.specs.Results.{put}

-- the state, both stores and the results between two events
pub record Moment : Type 0 where
  pub bridge : Bridge
  pub tx : List ℕ
  pub rx : List ℕ
  pub results : List ℕ

abbrev pub moment : Bridge → List ℕ → List ℕ → List ℕ → Moment
moment b tx rx s = record { bridge = b; tx = tx; rx = rx; results = s }

abbrev pub put_answer : List ℕ → ℕ → Answer → List ℕ
put_answer s k a = put s k (note_number a.note) a.sdo a.sout

-- so many events left, the next is number k
unfoldable pub list_of : List ℕ → ℕ → ℕ → Bridge → List ℕ → List ℕ → List ℕ → Moment
list_of records zero k b tx rx s = moment b tx rx s
list_of records (suc left) k b tx rx s =
    list_of records left (k + 1) (turn layouts b tx rx (event_at records k)).answer.state (turn layouts b tx rx (event_at records k)).tx
    (turn layouts b tx rx (event_at records k)).rx (put_answer s k (turn layouts b tx rx (event_at records k)).answer)

-- the records are events, and the results have room
pub record Listable (records s : List ℕ) (many : ℕ) : Type 0 where
  pub events : all_events records many ≡ true
  pub bytes : many * 3 ≤ length records
  pub room : many * 4 ≤ length s

-- the list has an event k
pub record Ahead (records s : List ℕ) (k many : ℕ) : Type 0 where
  pub list : Listable records s many
  pub one : k < many

-- what a part of the list is lent: its first event is number `from`
pub record Lent (records : List ℕ) (many from : ℕ) (b : Bridge) (tx rx s : List ℕ) : Type 0 where
  pub list : Listable records s many
  pub fit : Fit b tx rx
  pub one : from < many

-- events `from` to k are done: what is left of the list from there is what was left of it
pub record Gone (records : List ℕ) (many from : ℕ) (b₀ : Bridge) (tx₀ rx₀ s₀ : List ℕ) (k : ℕ) (b : Bridge) (tx rx s : List ℕ) : Type 0 where
  pub whole : list_of records (many - k) k b tx rx s ≡ list_of records (many - from) from b₀ tx₀ rx₀ s₀
  pub fit : Fit b tx rx
  pub least : from ≤ k
  pub within : k ≤ many
  pub list : Listable records s many
  pub size : length s ≡ length s₀
