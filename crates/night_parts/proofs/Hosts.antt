-- Host words that are done in place, as the functions' proofs ask them. Assumes nothing.
use Rattle.std.specs.Prelude.{Option, None, Some}
use mathlib.Core.Path.{◌≡◌, refl, sym, ◌∙◌, ap, subst}
use mathlib.Core.Bool.{Bool, true, false}
use mathlib.Core.List.{List}
use Prim.Native.Nat.{ℕ, ◌+◌, ◌*◌, ◌<◌, ◌≤◌}
use lib.ListN.{length, get_or}
use Rattle.command.specs.Layouts.{Layouts, layouts}
use Rattle.registers.specs.declared.Control.{Control}
use Rattle.state.specs.Facts.{RingFit, SendFit, Doable, HostFit}
use Rattle.state.specs.Notes.{note_number}
use Rattle.state.specs.Rings.{tx_size, rx_size, oldest, written, ring_after}
use Rattle.state.specs.Sending.{stored, done}
use Rattle.state.specs.declared.Bridge.{Bridge}
use Rattle.state.specs.declared.Clock.{Clock}
use Rattle.state.specs.declared.Deed.{Deed}
use Rattle.state.specs.declared.Deed.TheVariants.{Leave, Enqueue, TakeBack, ClearAll, ResetAll}
use Rattle.state.specs.declared.Phase.{Phase}
use Rattle.state.specs.declared.Receiving.{Receiving}
use Rattle.state.specs.declared.Ring.{Ring}
use Rattle.plan.specs.Plan.{settled, marked, cleared_away, received, concluded, xmodem_after, performed}
use Rattle.plan.specs.declared.Plan.{Plan}
use Rattle.host.specs.Frames.{planned}
use Rattle.rules.proofs.Facts.{host_fit}
use Rattle.kept.proofs.Doable.{doable_planned}
use Rattle.events.specs.Events.{reacted}
use Rattle.events.specs.Turn.{out, turned, turn}
use Rattle.events.specs.declared.Event.TheVariants.{Word}
use Rattle.script.specs.Script.{value_of}
use Rattle.listing.specs.Results.{put}
use Rattle.listing.specs.Run.{Gone}
use Rattle.listing.proofs.Records.{word_at}
use Rattle.listing.proofs.Laws.{again, event_now}
use Rattle.night_parts.specs.Place.{acts, count_after}

pub to_count : (st v : Option ℕ) (n x : ℕ) → st ≡ v → x ≡ count_after n v → x ≡ count_after n st
to_count st v n x h e = rw h e

leaves : (d : Deed) → acts d ≡ false → d ≡ Leave
leaves Leave h = refl
leaves (Enqueue p) h = cc
leaves (TakeBack n) h = cc
leaves ClearAll h = cc
leaves ResetAll h = cc

ring_after_lem : (r : Ring) (st : Option ℕ) → ring_after r st ≡ record { head = r.head; count = count_after r.count st }
unfolding ring_after
ring_after_lem r None = refl
ring_after_lem r (Some w) = refl

-- the record that a plan without a deed leaves
abbrev left : Layouts → Bridge → Clock → Plan → Bridge
left l b clock p = record {
  control = settled p.control (received b.receiving p.receive).rx.count false;
  sending = record {
    tx = record { head = b.sending.tx.head; count = count_after b.sending.tx.count p.store };
    queue = b.sending.queue;
    sender = b.sending.sender;
  };
  receiving = received b.receiving p.receive;
  frame = record {
    phase = concluded l b.frame.xmodem p.status (settled p.control (received b.receiving p.receive).rx.count false) p.phase;
    held = p.held;
    xmodem = xmodem_after b p.phase;
  };
  clock = clock;
}

performed_left : (l : Layouts) (b : Bridge) (clock : Clock) (p : Plan) → p.deed ≡ Leave → performed l b clock p ≡ left l b clock p
unfolding performed stored done cleared_away
performed_left l b clock p d = rw (d, ring_after_lem) refl

module _ (records : List ℕ) (many from : ℕ) (b₀ : Bridge) (tx₀ rx₀ s₀ : List ℕ) (k : ℕ) (b : Bridge) (tx rx s : List ℕ)
    (v : Gone records many from b₀ tx₀ rx₀ s₀ k b tx rx s) where
  fits : HostFit b
  fits = host_fit b v.fit.ready.rules

  pub tx_fits : RingFit (length tx) b.sending.tx
  tx_fits = rw v.fit.ready.tx_length fits.sending.tx

  pub tx_few : b.sending.tx.count ≤ 512
  tx_few = fits.sending.tx.count

  pub rx_fits : RingFit rx_size b.receiving.rx
  rx_fits = fits.rx

  pub rx_head : b.receiving.rx.head < length rx
  rx_head = rw v.fit.ready.rx_length fits.rx.head

  -- a plan can be carried out
  pub performable : (w : ℕ) (p : Plan) → p ≡ planned layouts b w (get_or rx b.receiving.rx.head 0)
      → (SendFit b.sending) × (Doable (stored b.sending p.store) p.deed) × (RingFit rx_size b.receiving.rx)
  performable w p e =
      (fits.sending, subst (λ (q : Plan). Doable (stored b.sending q.store) q.deed) (sym e) (doable_planned layouts b fits w _), fits.rx)

  module _ (h : k < many) where
    module _ (kind : ℕ) (kinds : kind ≡ get_or records (k * 3) 0) (e : kind ≡ 1) (w : ℕ) (we : w ≡ value_of (get_or records (k * 3 + 1) 0) (get_or records (k * 3 + 2) 0))
        (p : Plan) (pe : p ≡ planned layouts b w (get_or rx b.receiving.rx.head 0)) (clock : Clock) (ke : clock ≡ marked b.clock)
        (u : List ℕ) (ue : u ≡ put s k (note_number p.note) p.sdo true)
        (t : List ℕ) (te : t ≡ written (length tx) tx b.sending.tx p.store) where
      turned_word : out (record { state = performed layouts b clock p; sdo = p.sdo; sout = true; note = p.note }) t rx ≡ turn layouts b tx rx (Word w)
      unfolding turn turned reacted written
      turned_word = rw (te, v.fit.ready.tx_length, ke, pe) refl

      -- with a deed
      pub word_done : (x : Bridge) → x ≡ performed layouts b clock p → Gone records many from b₀ tx₀ rx₀ s₀ (k + 1) x t rx u
      word_done x xe =
          again records many from b₀ tx₀ rx₀ s₀ k b tx rx s v h (Word w)
          (ap Word we ∙ word_at records k (event_now records many from b₀ tx₀ rx₀ s₀ k b tx rx s v h) (sym kinds ∙ e))
          (record { state = x; sdo = p.sdo; sout = true; note = p.note }) t rx u (rw xe turned_word) ue

      -- with none
      pub word_left : (q : Bool) → q ≡ acts p.deed → q ≡ false → (count : ℕ) → count ≡ count_after b.sending.tx.count p.store
          → (receiving : Receiving) → receiving ≡ received b.receiving p.receive
          → (control : Control) → control ≡ settled p.control receiving.rx.count false
          → (ended : Phase) → ended ≡ concluded layouts b.frame.xmodem p.status control p.phase → (x : Bool) → x ≡ xmodem_after b p.phase
          → Gone records many from b₀ tx₀ rx₀ s₀ (k + 1)
          (record {
            control = control;
            sending = record { tx = record { head = b.sending.tx.head; count = count }; queue = b.sending.queue; sender = b.sending.sender };
            receiving = receiving;
            frame = record { phase = ended; held = p.held; xmodem = x };
            clock = clock;
          })
          t
          rx
          u
      word_left q qe qf count ne receiving re control ce ended de x xe =
          word_done _ (sym (performed_left layouts b clock p (leaves p.deed (sym qe ∙ qf)) ∙ rw (← ne, ← re, ← ce, ← de, ← xe) refl))
