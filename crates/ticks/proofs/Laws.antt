-- How the halves of a tick make a tick, and laws as the functions' proofs ask them. Assumes nothing.
use Rattle.std.specs.Prelude.{None}
use Rattle.std.proofs.Math.Bool.{beq}
use mathlib.Core.Path.{◌≡◌, refl, sym, ◌∙◌, ap, subst}
use mathlib.Core.Bool.{Bool, true, false, not, ◌||◌}
use Prim.Native.Nat.{ℕ}
use lib.ListN.{length, length-set}
use Rattle.command.specs.declared.Command.{Command}
use Rattle.state.specs.Facts.{QueueFit, SendFit}
use Rattle.state.specs.Frame.{is_forward}
use Rattle.state.specs.declared.Bridge.{Bridge}
use Rattle.state.specs.declared.Clock.{Clock}
use Rattle.state.specs.declared.Note.{Note}
use Rattle.state.specs.declared.Phase.{Phase}
use Rattle.state.specs.declared.Phase.TheVariants.{Collecting}
use Rattle.registers.specs.Raising.{raised}
use Rattle.registers.specs.declared.Control.{Control}
use Rattle.registers.specs.declared.Flag.TheVariants.{LineCrc}
use Rattle.registers.specs.declared.Flags.{Flags}
use Rattle.sender.specs.declared.Sent.{Sent}
use Rattle.base.specs.Pick.{pick_true, pick_keeps}
use Rattle.ticks.specs.Ticks.{quietly, blocked_in, same, watched, starved_flags, flags_sent, phase_after, control_ticked, tick_note, tick_ends, tick_hears, ticked}
use Rattle.state.specs.declared.Queue.{Queue}
use Rattle.state.specs.declared.Sending.{Sending}
use Rattle.next.specs.Next.{may_start, choose}
use Rattle.sender.specs.Sender.{queue_sent, advanced, sent_by, tick_sender}
use Rattle.next.specs.declared.Next.{Next}
use Rattle.next.specs.declared.Next.TheVariants.{GoOn, LoadWord, Starve, LoadEnd, StartWords, StartEnds, Stay}
use Rattle.next.proofs.Laws.{choose_room}
use Rattle.sender.proofs.Laws.{advanced_fit}
use Rattle.reader.specs.Reader.{tick_reader}
use Rattle.reader.specs.declared.Taken.{Taken}
use Rattle.plan.specs.Plan.{no_answer}
use Rattle.kept.proofs.Sender.{kept_finished}
use Rattle.ticks.specs.declared.Did.{Did}

-- an arm knows the constructor
pub to_blocked : (p q : Phase) (x : Phase) → p ≡ q → x ≡ blocked_in q → x ≡ blocked_in p
to_blocked p q x e f = f ∙ ap blocked_in (sym e)

pub to_collecting : (p : Phase) (command : Command) (got sum mine : ℕ) (released blocked t : Bool)
    → p ≡ Collecting command got sum mine released blocked → t ≡ is_forward command
    → Collecting command got sum mine released (t || blocked) ≡ blocked_in p
unfolding blocked_in
to_collecting p command got sum mine released blocked t e h = rw (e, h)

pub to_same : (a b : Bool) → beq a b ≡ same a b
unfolding same
to_same true true = refl
to_same true false = refl
to_same false true = refl
to_same false false = refl

pub to_differs : (f g x : Flags) (s : Sent) → g ≡ starved_flags f s.starved → s.differs ≡ true → x ≡ raised g LineCrc → x ≡ flags_sent f s
unfolding flags_sent
to_differs f g x s e d h = pick_true _ x _ _ d (h ∙ ap (λ (k : Flags). raised k LineCrc) e)

-- eight places stay eight
eight_sent : (q : Queue) (left w : ℕ) → length q.places ≡ 8 → length (queue_sent q left w).places ≡ 8
unfolding queue_sent
eight_sent q left w h = pick_keeps (λ (r : Queue). length r.places ≡ 8) _ _ _ (λ k. simp length-set h) (λ k. h)

eight_advanced : (n : Next) (s : Sending) (w : ℕ) → length s.queue.places ≡ 8 → length (advanced n s w).queue.places ≡ 8
unfolding advanced
eight_advanced GoOn s w h = h
eight_advanced LoadWord s w h = eight_sent s.queue s.sender.left w h
eight_advanced Starve s w h = h
eight_advanced LoadEnd s w h = h
eight_advanced StartWords s w h = h
eight_advanced StartEnds s w h = h
eight_advanced Stay s w h = h

sent_fit : (s : Sending) (may : Bool) (w : ℕ) → SendFit s → length s.queue.places ≡ 8 → QueueFit (tick_sender s may w).sending.queue
unfolding tick_sender sent_by
sent_fit s may w f h =
    (kept_finished (advanced (choose s may) s w) (advanced_fit (choose s may) s w (choose_room s may) f) (eight_advanced (choose s may) s w h)).fit

-- what the reader's half is lent
pub tick_fit : (s : Sending) (may : Bool) (w : ℕ) (t : Sent) → t ≡ tick_sender s may w → SendFit s → length s.queue.places ≡ 8
    → QueueFit t.sending.queue
tick_fit s may w t e f h = subst (λ (u : Sent). QueueFit u.sending.queue) (sym e) (sent_fit s may w f h)

-- the whole tick, by the parts that its functions told
pub to_ends : (b : Bridge) (s : Sent) (t : Taken) (sin : Bool) (control : Control) (phase : Phase) (clock : Clock) (note : Note) (q : Did)
    → control ≡ control_ticked b.control t → phase ≡ phase_after b.frame.phase s.starved → clock ≡ watched b.clock s.started sin
    → note ≡ tick_note s.starved t.full
    → q ≡ quietly (record {
      control = control;
      sending = record { tx = s.sending.tx; queue = t.queue; sender = s.sending.sender };
      receiving = t.receiving;
      frame = record { phase = phase; held = b.frame.held; xmodem = b.frame.xmodem };
      clock = clock;
    })
    → ◌≡◌ {A = Did} (record { bridge = q.bridge; sdo = q.sdo; sout = s.sout; note = note; tx = q.tx; rx = t.store }) (tick_ends b s t sin)
unfolding tick_ends
to_ends b s t sin control phase clock note q e f g h k = rw (k, e, f, g, h)

pub to_ticked : (b : Bridge) (sin may : Bool) (w : ℕ) (s : Sent) (f : Flags) (t : Taken) (x : Did)
    → may ≡ may_start b.control → s ≡ tick_sender b.sending may w → f ≡ flags_sent b.control.flags s
    → t ≡ tick_reader b.receiving s.sending.queue f sin → x ≡ tick_ends b s t sin → x ≡ ticked b sin w
unfolding ticked tick_hears
to_ticked b sin may w s f t x m e g h k = cc
