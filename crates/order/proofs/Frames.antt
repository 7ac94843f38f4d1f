-- The host's frames: what the open frame and the accepted list say of the words stored and the places queued, and that every plan that meets
-- no fault keeps it. Assumes nothing.
use Rattle.std.specs.Prelude.{Option, None}
use mathlib.Core.Path.{◌≡◌, refl, sym, ◌∙◌}
use mathlib.Core.Bool.{Bool, true, false, ◌||◌}
use mathlib.Core.List.{List, [], ◌∷◌, ◌++◌, append-nil}
use Prim.Native.Nat.{ℕ, zero, suc, ◌≤◌}
use native.Mathlib.Omega.{arith}
use lib.Dec.{ltb}
use borrow.Author.Tests.{lt-ltb}
use lib.ListN.{length}
use lib.Seq.{take_all}
use Rattle.command.specs.declared.Command.{Command}
use Rattle.command.specs.declared.Command.TheVariants.{Filler, Malformed, Forward, DataRead, RegisterWrite, RegisterRead, SoftReset}
use Rattle.state.specs.Rings.{ring_after}
use Rattle.state.specs.Sending.{stored}
use Rattle.state.specs.declared.Deed.{Deed}
use Rattle.state.specs.declared.Deed.TheVariants.{Leave, ClearAll, ResetAll}
use Rattle.state.specs.declared.Phase.{Phase}
use Rattle.state.specs.declared.Phase.TheVariants.{Idle, Collecting, Answering, Discarding}
use Rattle.state.specs.declared.Sending.{Sending}
use Rattle.plan.specs.declared.Plan.{Plan}
use Rattle.bridge.specs.Runs.{AllSent}
use Rattle.order.specs.Accepted.{Log, came, accepts, collects, joined, settle, listed}
use Rattle.base.specs.Truth.{or_none}
use Rattle.order.proofs.Account.{counted, assign, concat, lengths, assign_done}
use Rattle.order.proofs.Sending.{less_by, more_by, Storable, Feasible}

-- Outside a forward.
pub record Shut (g : Log) (S K : List ℕ) : Type 0 where
  pub no_words : g.words ≡ []
  pub not_accepted : g.accepted ≡ false
  pub stored_are : S ≡ concat g.closed
  pub counts_are : K ≡ lengths g.closed

-- In a forward of k words of which so many came, not yet queued.
pub record Pending (crc : Bool) (k got mine : ℕ) (g : Log) (S K : List ℕ) : Type 0 where
  pub not_accepted : g.accepted ≡ false
  pub stored_are : S ≡ concat g.closed ++ g.words
  pub counts_are : K ≡ lengths g.closed
  pub came_are : length g.words ≡ got
  pub few : got ≤ k
  pub mine_are : mine ≡ got
  pub waits : crc ≡ false → got ≡ k → k ≡ 0

-- In one that is queued.
pub record Released (crc : Bool) (k got : ℕ) (g : Log) (S K : List ℕ) : Type 0 where
  pub accepted_is : g.accepted ≡ ltb 0 k
  pub stored_are : S ≡ concat g.closed ++ g.words
  pub counts_are : K ≡ lengths g.closed ++ counted k []
  pub came_are : length g.words ≡ got
  pub few : got ≤ k
  pub by_words : crc ≡ false

unfoldable pub Open : Bool → ℕ → ℕ → ℕ → Bool → Log → List ℕ → List ℕ → Type 0
Open crc k got mine true g S K = Released crc k got g S K
Open crc k got mine false g S K = Pending crc k got mine g S K

unfoldable pub InFrame : Command → ℕ → ℕ → Bool → Bool → Log → List ℕ → List ℕ → Type 0
InFrame Filler got mine released blocked g S K = Shut g S K × (mine ≡ 0)
InFrame Malformed got mine released blocked g S K = Shut g S K × (mine ≡ 0)
InFrame (Forward crc k ends reads) got mine released blocked g S K = Open crc k got mine released g S K × (blocked ≡ false)
InFrame (DataRead crc k) got mine released blocked g S K = Shut g S K × (mine ≡ 0)
InFrame (RegisterWrite crc address count) got mine released blocked g S K = Shut g S K × (mine ≡ 0)
InFrame (RegisterRead crc address count) got mine released blocked g S K = Shut g S K × (mine ≡ 0)
InFrame SoftReset got mine released blocked g S K = Shut g S K × (mine ≡ 0)

unfoldable pub Kept : Phase → Log → List ℕ → List ℕ → Type 0
Kept Idle g S K = Shut g S K
Kept (Collecting command got sum mine released blocked) g S K = InFrame command got mine released blocked g S K
Kept (Answering reply sum) g S K = Shut g S K
Kept Discarding g S K = Shut g S K

-- The accepted list is what the words and the counts say.
assign_all : (D : List (List ℕ)) (ws : List ℕ) → assign (lengths D) (concat D ++ ws) ≡ D
assign_all D ws =
    rw (← (append-nil (lengths D))) (assign_done D [] ws ∙ unfold assign in append-nil D)

assign_last : (D : List (List ℕ)) (k : ℕ) (ws : List ℕ) → length ws ≤ k
    → joined (ltb 0 k) D ws ≡ assign (lengths D ++ counted k []) (concat D ++ ws)
unfolding counted joined
assign_last D zero ws h = rw (append-nil (lengths D)) (sym (assign_all D ws))
assign_last D (suc k) ws h =
    rw (lt-ltb 0 (suc k) (omega arith), assign_done D (suc k ∷ []) ws) (unfold assign in rw (take_all (suc k) ws h))

listed_shut : (g : Log) (S K : List ℕ) → Shut g S K → listed g ≡ assign K S
unfolding listed joined
listed_shut g S K h =
    rw (h.not_accepted, h.stored_are, h.counts_are, ← (append-nil (concat g.closed))) (sym (assign_all g.closed []))

listed_open : (crc : Bool) (k got mine : ℕ) (released : Bool) (g : Log) (S K : List ℕ) → Open crc k got mine released g S K
    → listed g ≡ assign K S
unfolding Open listed
listed_open crc k got mine true g S K h =
    rw (h.accepted_is, h.stored_are, h.counts_are) (assign_last g.closed k g.words (omega (arith, h.came_are, h.few)))
listed_open crc k got mine false g S K h =
    rw (h.not_accepted, h.stored_are, h.counts_are) (unfold joined in sym (assign_all g.closed g.words))

listed_frame : (command : Command) (got mine : ℕ) (released blocked : Bool) (g : Log) (S K : List ℕ)
    → InFrame command got mine released blocked g S K → listed g ≡ assign K S
unfolding InFrame
listed_frame Filler got mine released blocked g S K h = listed_shut g S K h.0
listed_frame Malformed got mine released blocked g S K h = listed_shut g S K h.0
listed_frame (Forward crc k ends reads) got mine released blocked g S K h = listed_open crc k got mine released g S K h.0
listed_frame (DataRead crc k) got mine released blocked g S K h = listed_shut g S K h.0
listed_frame (RegisterWrite crc address count) got mine released blocked g S K h = listed_shut g S K h.0
listed_frame (RegisterRead crc address count) got mine released blocked g S K h = listed_shut g S K h.0
listed_frame SoftReset got mine released blocked g S K h = listed_shut g S K h.0

pub listed_kept : (ph : Phase) (g : Log) (S K : List ℕ) → Kept ph g S K → listed g ≡ assign K S
unfolding Kept
listed_kept Idle g S K h = listed_shut g S K h
listed_kept (Collecting command got sum mine released blocked) g S K h = listed_frame command got mine released blocked g S K h
listed_kept (Answering reply sum) g S K h = listed_shut g S K h
listed_kept Discarding g S K h = listed_shut g S K h

-- What a plan asks, with no fault, and the frame that it leaves.
pub record Goes (s : Sending) (g : Log) (S K : List ℕ) (ph : Phase) (st : Option ℕ) (d : Deed) (status : Bool) : Type 0 where
  pub storable : Storable s st
  pub feasible : Feasible (stored s st) d
  pub kept : Kept ph (settle (collects ph) g.closed (came g.words st) (g.accepted || accepts d)) (less_by (came S st) d) (more_by K d)
  pub ends : status ≡ true → ph ≡ Idle

abbrev pub GoesBy : Sending → Log → List ℕ → List ℕ → Plan → Type 0
GoesBy s g S K p = Goes s g S K p.phase p.store p.deed p.status

-- A phase outside of forwards.
abbrev pub Rests : Phase → Type 0
Rests ph = (g : Log) (S K : List ℕ) → Shut g S K → Kept ph g S K

pub rests_idle : Rests Idle
unfolding Kept
rests_idle g S K h = h

pub rests_answering : (reply : _) (sum : ℕ) → Rests (Answering reply sum)
unfolding Kept
rests_answering reply sum g S K h = h

pub rests_discarding : Rests Discarding
unfolding Kept
rests_discarding g S K h = h

-- A frame that is over, with what was accepted in it, and one that goes on with nothing.
shut_settled : (t : Bool) (g : Log) (S K : List ℕ) → Shut g S K → Shut (settle t g.closed g.words (g.accepted || false)) S K
unfolding settle joined
shut_settled true g S K h =
    record {
      no_words = h.no_words;
      not_accepted = or_none g.accepted false refl ∙ h.not_accepted;
      stored_are = h.stored_are;
      counts_are = h.counts_are;
    }
shut_settled false g S K h =
    record {
      no_words = refl;
      not_accepted = refl;
      stored_are = rw (or_none g.accepted false refl, h.not_accepted) h.stored_are;
      counts_are = rw (or_none g.accepted false refl, h.not_accepted) h.counts_are;
    }

module _ (s : Sending) (g : Log) (S K : List ℕ) where
  pub goes_quiet : (ph : Phase) (status : Bool) → Rests ph → (status ≡ true → ph ≡ Idle) → Shut g S K → Goes s g S K ph None Leave status
  unfolding came accepts less_by more_by
  goes_quiet ph status r e h =
      record { storable = tt; feasible = tt; kept = r _ S K (shut_settled (collects ph) g S K h); ends = e }

  -- A transmit clear and a soft reset once all is sent.
  module _ (ph : Phase) (status : Bool) (r : Rests ph) (e : status ≡ true → ph ≡ Idle) (h : Shut g S K) (a : AllSent s) (z : s.tx.count ≡ 0) where
    pub goes_cleared : Goes s g S K ph None ClearAll status
    unfolding came accepts less_by more_by stored ring_after
    goes_cleared = record { storable = tt; feasible = (a, z); kept = r _ S K (shut_settled (collects ph) g S K h); ends = e }

    pub goes_reset : Goes s g S K ph None ResetAll status
    unfolding came accepts less_by more_by stored ring_after
    goes_reset = record { storable = tt; feasible = (a, z); kept = r _ S K (shut_settled (collects ph) g S K h); ends = e }

  -- An event that leaves the frame alone.
  pub kept_same : (ph : Phase) → Kept ph g S K → Kept ph (settle (collects ph) g.closed g.words (g.accepted || false)) S K
  unfolding Kept collects
  kept_same Idle h = shut_settled false g S K h
  kept_same (Collecting command got sum mine released blocked) h = rw (or_none g.accepted false refl) (unfold settle in h)
  kept_same (Answering reply sum) h = shut_settled false g S K h
  kept_same Discarding h = shut_settled false g S K h
