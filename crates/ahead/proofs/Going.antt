-- A command under way, by the number of the next tick: which of its bits is due, and how many of its words TX lacks; and that every event keeps
-- this (01 The line). Assumes nothing.
use Rattle.std.specs.Prelude.{Option, None, Some}
use mathlib.Core.Path.{◌≡◌, refl, ◌∙◌}
use mathlib.Core.Bool.{Bool, true, false}
use mathlib.Core.List.{[], ◌∷◌}
use mathlib.Core.Logic.{◌≢◌}
use Prim.Native.Nat.{ℕ, ◌+◌, ◌-◌, ◌*◌, ◌≤◌, ◌<◌}
use native.Mathlib.Omega.{arith}
use Rattle.base.specs.Pick.{pick}
use Rattle.base.specs.Truth.{never}
use Rattle.command.specs.Layouts.{Layouts}
use Rattle.line.specs.Format.{group_length, piece_length}
use Rattle.state.specs.Frame.{to_come}
use Rattle.state.specs.Rings.{ring_after}
use Rattle.state.specs.Sending.{stored, done}
use Rattle.state.specs.declared.Bridge.{Bridge}
use Rattle.state.specs.declared.Clock.{Clock}
use Rattle.state.specs.declared.Deed.{Deed}
use Rattle.state.specs.declared.Deed.TheVariants.{Leave, Enqueue, TakeBack, ClearAll, ResetAll}
use Rattle.state.specs.declared.Note.TheVariants.{TxEmpty}
use Rattle.state.specs.declared.Phase.{Phase}
use Rattle.state.specs.declared.Queue.{Queue}
use Rattle.state.specs.declared.Sending.{Sending}
use Rattle.next.specs.Next.{may_start, choose, is_starve}
use Rattle.next.specs.declared.Next.{Next}
use Rattle.next.specs.declared.Next.TheVariants.{GoOn, LoadWord, Starve, LoadEnd, StartWords, StartEnds, Stay}
use Rattle.sender.specs.Sender.{sender_after, advanced, sent_by, tick_sender}
use Rattle.forwards.specs.Forward.{clears}
use Rattle.plan.specs.Plan.{performed}
use Rattle.plan.specs.declared.Plan.{Plan}
use Rattle.kept.specs.Rules.{BridgeRules}
use Rattle.kept.proofs.Fits.{LayoutFit}
use Rattle.kept.proofs.Sender.{Chosen, chosen}
use Rattle.ticks.specs.Ticks.{tick_note, tick_ends, tick_hears, ticked}
use Rattle.clock.specs.Clock.{clocked}
use Rattle.events.specs.Events.{reacted}
use Rattle.events.specs.Turn.{turned, turn}
use Rattle.events.specs.declared.Event.{Event}
use Rattle.events.specs.declared.Event.TheVariants.{Power, Word, Release, Tick, Clock as ClockReading}
use Rattle.events.proofs.Keeps.{rules_keep}
use Rattle.bridge.specs.Runs.{Config, out_of, next, ticks_in}
use Rattle.bridge.proofs.Reached.{Obeys, obeyed_turn}
use Rattle.order.specs.Accepted.{plan_of}
use Rattle.order.specs.Premises.{is_power, losing}
use Rattle.ahead.specs.Ahead.{taken_at, puts}
use Rattle.ahead.proofs.Plans.{Orderly, OrderlyBy, orderly_word, orderly_release, concluded_to_come, idle_to_come}

-- of n words; tick `due` comes next, and so many of the words left are not in TX
pub record Going (s : Sending) (n due lacks : ℕ) : Type 0 where
  pub time : group_length * s.sender.left + (piece_length s.sender.piece - s.sender.gone) + due ≡ group_length * n + 1
  pub bits : piece_length s.sender.piece - s.sender.gone < group_length
  pub short : s.sender.left - s.tx.count ≡ lacks

pub going_as : (s : Sending) (n due lacks due' lacks' : ℕ) → due ≡ due' → lacks ≡ lacks' → Going s n due lacks → Going s n due' lacks'
going_as s n due lacks due' lacks' e f g =
    record { time = omega (arith, g.time, e); bits = g.bits; short = g.short ∙ f }

-- up to the tick of the last word there is a word to take
pub busy : (s : Sending) (n due lacks : ℕ) → Going s n due lacks → 0 < n → due ≤ taken_at (n - 1) → 0 < s.sender.left
unfolding taken_at
busy s n due lacks g p h = omega (arith, g.time, g.bits, h, p)

-- A tick.
goes_tick : (s : Sending) (w n due lacks : ℕ) → Going s n due lacks → 0 < s.sender.left → (x : Next) → Chosen s x → is_starve x ≡ false
    → Going (advanced x s w) n (due + 1) lacks
unfolding advanced sender_after
goes_tick s w n due lacks g b GoOn h f =
    record { time = omega (arith, g.time, h); bits = omega (arith, g.bits); short = g.short }
goes_tick s w n due lacks g b LoadWord h f =
    record { time = omega (arith, g.time, g.bits, h.0, b); bits = omega arith; short = omega (arith, g.short, h.1, h.2) }
goes_tick s w n due lacks g b Starve h f = never true refl f
goes_tick s w n due lacks g b LoadEnd h f = absurd (omega (arith, h.1, b))
goes_tick s w n due lacks g b StartWords h f = absurd (omega (arith, h.1, b))
goes_tick s w n due lacks g b StartEnds h f = absurd (omega (arith, h.1, b))
goes_tick s w n due lacks g b Stay h f = absurd (omega (arith, h.1, b))

goes_requeued : (s : Sending) (q : Queue) (n due lacks : ℕ) → Going s n due lacks
    → Going (record { tx = s.tx; queue = q; sender = s.sender }) n due lacks
goes_requeued s q n due lacks g = record { time = g.time; bits = g.bits; short = g.short }

goes_ticked : (b : Bridge) (sin : Bool) (w n due lacks : ℕ) → Going b.sending n due lacks → 0 < b.sending.sender.left
    → is_starve (choose b.sending (may_start b.control)) ≡ false → Going (ticked b sin w).bridge.sending n (due + 1) lacks
unfolding ticked tick_hears tick_ends tick_sender sent_by
goes_ticked b sin w n due lacks g p f =
    goes_requeued (advanced (choose b.sending (may_start b.control)) b.sending w) _ n (due + 1) lacks
    (goes_tick b.sending w n due lacks g p _ (chosen b.sending (may_start b.control)) f)

-- A plan of the host's that clears nothing.
goes_stored : (s : Sending) (n due lacks : ℕ) → Going s n due lacks → (st : Option ℕ) → Going (stored s st) n due (lacks - puts st)
unfolding stored ring_after puts
goes_stored s n due lacks g None = record { time = g.time; bits = g.bits; short = omega (arith, g.short) }
goes_stored s n due lacks g (Some w) = record { time = g.time; bits = g.bits; short = omega (arith, g.short) }

-- what is taken back is none of the words that the command has still to take
abbrev Spares : Sending → Deed → Type 0
Spares s Leave = Unit {0}
Spares s (Enqueue p) = Unit {0}
Spares s (TakeBack x) = s.sender.left ≤ s.tx.count - x
Spares s ClearAll = Unit {0}
Spares s ResetAll = Unit {0}

-- by the sum of the record rules: where words are taken back, none is to come
spares : (s : Sending) (d : Deed) (ph : Phase) (least count coming waiting mine : ℕ) → Orderly least count d ph → coming ≤ to_come ph
    → (done s d).tx.count + coming ≡ (done s d).sender.left + waiting + mine → Spares s d
unfolding done
spares s Leave ph least count coming waiting mine v z h = tt
spares s (Enqueue p) ph least count coming waiting mine v z h = tt
spares s (TakeBack x) ph least count coming waiting mine v z h = omega (arith, h, z, idle_to_come ph v)
spares s ClearAll ph least count coming waiting mine v z h = tt
spares s ResetAll ph least count coming waiting mine v z h = tt

goes_done : (s : Sending) (n due lacks : ℕ) → Going s n due lacks → (d : Deed) → clears d ≡ false → Spares s d → Going (done s d) n due lacks
unfolding done clears
goes_done s n due lacks g Leave c h = g
goes_done s n due lacks g (Enqueue p) c h = record { time = g.time; bits = g.bits; short = g.short }
goes_done s n due lacks g (TakeBack x) c h = record { time = g.time; bits = g.bits; short = omega (arith, g.short, h) }
goes_done s n due lacks g ClearAll c h = never true refl c
goes_done s n due lacks g ResetAll c h = never true refl c

goes_performed : (l : Layouts) (b : Bridge) (clock : Clock) (p : Plan) (n due lacks : ℕ) → Going b.sending n due lacks → clears p.deed ≡ false
    → OrderlyBy b p → BridgeRules (performed l b clock p) → Going (performed l b clock p).sending n due (lacks - puts p.store)
unfolding performed
goes_performed l b clock p n due lacks g c v r =
    goes_done (stored b.sending p.store) n due _ (goes_stored b.sending n due lacks g p.store) p.deed c
    (spares (stored b.sending p.store) p.deed p.phase _ _ _ _ _ v (concluded_to_come l _ _ _ p.phase) r.sending.sum)

-- Any event.
starved_told : (starved full : Bool) → tick_note starved full ≢ TxEmpty → starved ≡ false
unfolding tick_note pick
starved_told true full h = absurd (h refl)
starved_told false full h = refl

tick_fed : (b : Bridge) (sin : Bool) (w : ℕ) → (ticked b sin w).note ≢ TxEmpty → is_starve (choose b.sending (may_start b.control)) ≡ false
unfolding ticked tick_hears tick_ends tick_sender sent_by
tick_fed b sin w h = starved_told _ _ h

module _ (l : Layouts) (fits : LayoutFit l) (c : Config) (n due lacks : ℕ) (o : Obeys c) (g : Going c.bridge.sending n due lacks) where
  pub goes_on : (e : Event) → 0 < n → due + ticks_in (e ∷ []) ≤ taken_at (n - 1) + 1 → losing l c e ≡ false → (out_of l c e).answer.note ≢ TxEmpty
      → Going (next l c e).bridge.sending n (due + ticks_in (e ∷ [])) (lacks - puts (plan_of l c e).store)
  unfolding next turn turned reacted plan_of ticks_in puts is_power
  goes_on (Power good layout) p t h f = never true refl h
  goes_on (Word w) p t h f =
      rw (obeyed_turn l fits c (Word w) o)
      (going_as _ n due _ _ _ (omega arith) refl
      (goes_performed l c.bridge _ _ n due lacks g h (orderly_word c.bridge l w _) (rules_keep l fits c.bridge (Word w) 0 _ o.rules)))
  goes_on Release p t h f =
      rw (obeyed_turn l fits c Release o)
      (going_as _ n due _ _ _ (omega arith) refl
      (goes_performed l c.bridge _ _ n due lacks g h (orderly_release c.bridge _) (rules_keep l fits c.bridge Release 0 0 o.rules)))
  goes_on (Tick sin) p t h f =
      rw (obeyed_turn l fits c (Tick sin) o)
      (going_as _ n (due + 1) lacks _ _ (omega arith) (omega arith)
      (goes_ticked c.bridge sin _ n due lacks g (busy c.bridge.sending n due lacks g p (omega (arith, t)))
      (tick_fed c.bridge sin _ (rw (obeyed_turn l fits c (Tick sin) o) at f))))
  goes_on (ClockReading reading) p t h f =
      rw (obeyed_turn l fits c (ClockReading reading) o) (unfold clocked in going_as _ n due lacks _ _ (omega arith) (omega arith) g)
