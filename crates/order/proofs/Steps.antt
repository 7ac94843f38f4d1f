-- Every event of a run under the premises keeps the line exact and the accepted list in step with it. Assumes nothing.
use mathlib.Core.Path.{◌≡◌, refl, ◌∙◌}
use mathlib.Core.Bool.{Bool, true, false}
use mathlib.Core.List.{List, [], ◌∷◌, ◌++◌, append-nil}
use Prim.Native.Nat.{ℕ, ◌+◌, ◌≤◌}
use native.Mathlib.Omega.{arith}
use lib.ListN.{length}
use Rattle.layout.specs.declared.Layout.{Layout}
use Rattle.base.specs.Pick.{pick, pick_keeps}
use Rattle.command.specs.Layouts.{Layouts}
use Rattle.line.specs.declared.Piece.TheVariants.{Pause}
use Rattle.registers.specs.Registers.{blocking, power_up_control, power_up_flags}
use Rattle.registers.specs.declared.Control.{Control}
use Rattle.state.specs.Power.{power_up_in, bad_control, power_up_bad_in}
use Rattle.state.specs.Queue.{waiting}
use Rattle.state.specs.Rings.{oldest, written}
use Rattle.state.specs.declared.Clock.{Clock}
use Rattle.state.specs.declared.Phase.{Phase}
use Rattle.state.specs.declared.Phase.TheVariants.{Idle}
use Rattle.next.specs.Next.{may_start, choose}
use Rattle.sender.specs.Sender.{advanced, sent_by, tick_sender}
use Rattle.reader.specs.Reader.{tick_reader}
use Rattle.plan.specs.Plan.{settled, concluded, marked, performed}
use Rattle.plan.specs.declared.Plan.{Plan}
use Rattle.events.specs.Events.{powered, hosted, reacted}
use Rattle.ticks.specs.Ticks.{flags_sent, phase_after, control_ticked, tick_ends, tick_hears, ticked}
use Rattle.clock.specs.Clock.{clocked}
use Rattle.events.specs.Turn.{Out, turned, turn}
use Rattle.events.specs.declared.Event.{Event}
use Rattle.events.specs.declared.Event.TheVariants.{Power, Word, Release, Tick, Clock as ClockReading}
use Rattle.bridge.specs.Runs.{Config, RightStores, faults, left_by, line_bit, power_on, AllSent}
use Rattle.bridge.proofs.Plans.{tame_word, tame_release}
use Rattle.bridge.proofs.Reached.{length_written}
use Rattle.order.specs.Accepted.{plan_of, Log, came, accepts, collects, settle, logged, listed}
use Rattle.sender.specs.declared.Sent.{Sent as SentBits}
use Rattle.order.specs.Premises.{Typed, is_power, losing}
use Rattle.base.specs.Truth.{never, or_none}
use Rattle.order.proofs.Ring.{view, length_view}
use Rattle.order.proofs.Waiting.{leaves_then}
use Rattle.order.proofs.Account.{counts_of, concat, lengths, sum, still_there}
use Rattle.order.proofs.Exact.{Exact, sends, exact_again}
use Rattle.order.proofs.Sending.{Holds, in_tx, none_counted, at_rest, holds_stored, holds_spent, holds_done, holds_queue, leaves_finished, holds_tick}
use Rattle.order.proofs.Hearing.{leaves_heard}
use Rattle.order.proofs.Faults.{not_starved, tick_calm, clock_calm}
use Rattle.order.proofs.Frames.{Shut, Kept, GoesBy, kept_same, listed_kept}
use Rattle.order.proofs.Plans.{goes_word, goes_release}

-- What holds between two events. S and K are the words stored and the counts queued so far.
pub record Between (c : Config) (bits : List Bool) (g : Log) : Type 0 where
  pub S : List ℕ
  pub K : List ℕ
  pub holds : Holds c.bridge.sending c.tx bits S K
  pub kept : Kept c.bridge.frame.phase g S K
  pub no_fault : blocking c.bridge.control.flags ≡ false
  pub rx_is : length c.rx ≡ 256

-- Power-up, with these commands on the line and accepted.
holds_power : (good : Bool) (layout : Layout) (tx : List ℕ) (bits : List Bool) (S K : List ℕ) → length tx ≡ 512 → Exact (sends Pause 0 0 0) [] [] bits S K
    → Holds (powered good layout).sending tx bits S K
unfolding powered pick power_up_in power_up_bad_in view waiting counts_of
holds_power true layout tx bits S K t x =
    record { exact = x; head = omega arith; cells_are = t; queue = record { order = omega arith; most = omega arith; eight = refl } }
holds_power false layout tx bits S K t x =
    record { exact = x; head = omega arith; cells_are = t; queue = record { order = omega arith; most = omega arith; eight = refl } }

idle_power : (good : Bool) (layout : Layout) (g : Log) (S K : List ℕ) → Shut g S K → Kept (powered good layout).frame.phase g S K
unfolding powered pick power_up_in power_up_bad_in Kept
idle_power true layout g S K h = h
idle_power false layout g S K h = h

clear_power : (good : Bool) (layout : Layout) → blocking (powered good layout).control.flags ≡ false
unfolding powered pick power_up_in power_up_bad_in power_up_control power_up_flags bad_control blocking
clear_power true layout = refl
clear_power false layout = refl

-- a log with these commands and no frame
abbrev pub log_of : List (List ℕ) → Log
log_of D = record { closed = D; words = []; accepted = false }

pub between_fresh : (good : Bool) (layout : Layout) (tx rx : List ℕ) (bits : List Bool) (D : List (List ℕ)) → RightStores tx rx
    → Exact (sends Pause 0 0 0) [] [] bits (concat D) (lengths D) → Between (power_on good layout tx rx) bits (log_of D)
unfolding power_on
between_fresh good layout tx rx bits D r x =
    record {
      S = concat D;
      K = lengths D;
      holds = holds_power good layout tx bits _ _ r.tx_is x;
      kept = idle_power good layout (log_of D) _ _ (record { no_words = refl; not_accepted = refl; stored_are = refl; counts_are = refl });
      no_fault = clear_power good layout;
      rx_is = r.rx_is;
    }

-- The phase after a plan.
kept_concluded : (l : Layouts) (xmodem status : Bool) (c : Control) (ph : Phase) (g : Log) (S K : List ℕ) → (status ≡ true → ph ≡ Idle)
    → Kept ph g S K → Kept (concluded l xmodem status c ph) g S K
unfolding concluded Kept
kept_concluded l xmodem status c ph g S K e h =
    pick_keeps (λ (q : Phase). Kept q g S K) _ _ _
    (λ t. pick_keeps (λ (q : Phase). Kept q g S K) _ _ _ (λ u. rw (e t) at h) (λ u. rw (e t) at h)) (λ t. h)

module _ (l : Layouts) (c : Config) (bits : List Bool) (g : Log) (i : Between c bits g) where
  reach : (D : List (List ℕ)) (ws : List ℕ) → i.S ≡ concat D ++ ws → i.K ≡ lengths D → length ws ≤ c.bridge.sending.tx.count
  reach D ws s k =
      omega (
        arith,
        still_there _ _ _ (in_tx c.bridge.sending c.tx) _ i.S i.K D ws i.holds.exact.account s k,
        length_view 512 c.tx c.bridge.sending.tx.head c.bridge.sending.tx.count,
      )

  spent : AllSent c.bridge.sending → length i.S ≡ sum i.K + c.bridge.sending.tx.count
  spent = holds_spent c.bridge.sending c.tx bits i.S i.K i.holds

  -- A plan carried out.
  between_hosted : (clock : Clock) (p : Plan) → GoesBy c.bridge.sending g i.S i.K p
      → blocking p.control.flags ≡ false
      → Between (left_by (turned c.bridge c.tx c.rx (hosted l c.bridge clock p))) bits (logged g p)
  unfolding performed settled turned logged written
  between_hosted clock p h f =
      record {
        S = _;
        K = _;
        holds =
            holds_done _ _ bits _ i.K (holds_stored c.bridge.sending c.tx bits i.S i.K i.holds p.store h.storable)
            p.deed h.feasible;
        kept = kept_concluded l _ p.status _ p.phase _ _ _ h.ends h.kept;
        no_fault = f;
        rx_is = i.rx_is;
      }

  between_tick : (sin : Bool) → faults (ticked c.bridge sin (oldest c.tx c.bridge.sending.tx)).note ≡ false
      → Between (left_by (turned c.bridge c.tx c.rx (ticked c.bridge sin (oldest c.tx c.bridge.sending.tx))))
      (bits ++ ((ticked c.bridge sin (oldest c.tx c.bridge.sending.tx)).sout ∷ [])) (logged g (plan_of l c (Tick sin)))
  unfolding ticked tick_hears tick_ends phase_after control_ticked tick_sender sent_by turned settled plan_of logged came accepts written
  between_tick sin n =
      let b = c.bridge in
      let w = oldest c.tx b.sending.tx in
      let s : SentBits = tick_sender b.sending (may_start b.control) w in
      let z : s.starved ≡ false = not_starved b sin w n in
      let h = holds_tick b.sending c.tx bits i.S i.K i.holds (may_start b.control) z in
      let v = leaves_finished (advanced (choose b.sending (may_start b.control)) b.sending w) h.queue in
      record {
        S = i.S;
        K = i.K;
        holds = holds_queue _ _ _ _ _ h _ (leaves_then _ _ _ v (leaves_heard b.receiving s.sending.queue _ sin v.ok));
        kept =
            pick_keeps (λ (q : Phase). Kept q (logged g (plan_of l c (Tick sin))) i.S i.K) _ _ _ (λ t. never s.starved t z)
            (λ t. kept_same b.sending g i.S i.K b.frame.phase i.kept);
        no_fault = tick_calm b sin w i.no_fault z;
        rx_is =
            length_written 256 c.rx b.receiving.rx
            (tick_reader b.receiving s.sending.queue (flags_sent b.control.flags s) sin).store ∙ i.rx_is;
      }

  between_clock : (reading : ℕ)
      → Between (left_by (turned c.bridge c.tx c.rx (clocked c.bridge reading))) bits (logged g (plan_of l c (ClockReading reading)))
  unfolding clocked turned written plan_of logged came accepts
  between_clock reading =
      record {
        S = i.S;
        K = i.K;
        holds = i.holds;
        kept = kept_same c.bridge.sending g i.S i.K c.bridge.frame.phase i.kept;
        no_fault = clock_calm c.bridge reading i.no_fault;
        rx_is = i.rx_is;
      }

  -- A power-up once all is sent: the accepted list is what the line shows.
  between_again : (good : Bool) (layout : Layout) → AllSent c.bridge.sending → Between (power_on good layout c.tx c.rx) bits (log_of (listed g))
  between_again good layout a =
      let s = c.bridge.sending in
      let r = at_rest s.sender a.idle_sender in
      between_fresh good layout c.tx c.rx bits (listed g) (record { tx_is = i.holds.cells_are; rx_is = i.rx_is })
      (rw (listed_kept c.bridge.frame.phase g _ _ i.kept)
      (exact_again s.sender (in_tx s c.tx) bits _ _ (rw (none_counted s a) at i.holds.exact) r.0 r.1 r.2))

  -- Any event, by its rule.
  pub between_turn : (e : Event) (o : Out) → o ≡ turn l c.bridge c.tx c.rx e → Typed e → faults o.answer.note ≡ false
      → (losing l c e ≡ true → AllSent c.bridge.sending)
      → Between (left_by o) (bits ++ line_bit e o.answer.sout) (logged g (plan_of l c e))
  unfolding turn turned reacted line_bit is_power plan_of
  between_turn (Power good layout) o q t n k =
      rw (q, append-nil) (unfold power_on written logged came accepts collects settle listed in (rw (or_none g.accepted false refl) (between_again good layout (k refl))))
  between_turn (Word w) o q t n k =
      let x = oldest c.rx c.bridge.receiving.rx in
      let f : faults (plan_of l c (Word w)).note ≡ false = rw q at n in
      rw (q, append-nil)
      (between_hosted (marked c.bridge.clock) (plan_of l c (Word w))
      (goes_word c.bridge g i.S i.K spent l w x t reach i.no_fault i.kept (record { no_fault = f; no_loss = k }))
      ((tame_word c.bridge l w x).calm i.no_fault f))
  between_turn Release o q t n k =
      rw (q, append-nil)
      (between_hosted c.bridge.clock (plan_of l c Release)
      (goes_release c.bridge g i.S i.K spent c.bridge.frame.phase reach i.kept k)
      ((tame_release c.bridge c.bridge.frame.phase).calm i.no_fault (rw q at n)))
  between_turn (Tick sin) o q t n k = rw q (between_tick sin (rw q at n))
  between_turn (ClockReading reading) o q t n k = rw (q, append-nil) (between_clock reading)
