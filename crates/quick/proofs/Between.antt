-- A tick that moves only the bit under way, or finds the line at rest: the definitions give the short way's record. Assumes nothing.
use Rattle.std.specs.Prelude.{None}
use mathlib.Core.Path.{◌≡◌, refl, sym}
use mathlib.Core.Bool.{Bool, true, false, ◌&&◌}
use mathlib.Core.List.{List}
use Prim.Native.Nat.{ℕ, ◌+◌, ◌≤◌, ◌<◌}
use native.Mathlib.Omega.{arith}
use lib.Dec.{ltb, leb}
use borrow.Author.Tests.{ltb-true, leb-true, eqb-true, lt-leb, ltb-false}
use Rattle.base.specs.Pick.{pick, pick_lt, pick_not_lt, pick_keeps, and_l, and_r}
use Rattle.base.specs.Truth.{denied, allowed, chosen_by, chosen, and_first, and_none}
use Rattle.command.specs.Layouts.{layouts}
use Rattle.line.specs.Format.{piece_length}
use Rattle.line.specs.Reader.{hear}
use Rattle.line.specs.declared.Found.{Found}
use Rattle.line.specs.declared.Found.TheVariants.{Nothing, Start, Word as WordFound, End, CheckError, Over}
use Rattle.line.specs.declared.Heard.{Heard}
use Rattle.registers.specs.declared.Control.{Control}
use Rattle.state.specs.Queue.{under_way}
use Rattle.state.specs.Rings.{written}
use Rattle.state.specs.Sending.{idle}
use Rattle.state.specs.declared.Bridge.{Bridge}
use Rattle.state.specs.declared.Clock.{Clock}
use Rattle.state.specs.declared.Note.TheVariants.{Done}
use Rattle.state.specs.declared.Queue.{Queue}
use Rattle.state.specs.declared.Receiving.{Receiving}
use Rattle.state.specs.declared.Returned.{Returned}
use Rattle.state.specs.declared.Sender.{Sender}
use Rattle.state.specs.declared.Sending.{Sending}
use Rattle.next.specs.Next.{may_start, choose, bit_sent}
use Rattle.sender.specs.Sender.{sender_after, advanced, finished, sent_by, tick_sender}
use Rattle.next.specs.declared.Next.{Next}
use Rattle.next.specs.declared.Next.TheVariants.{GoOn, Stay}
use Rattle.rules.proofs.Facts.{piece_most}
use Rattle.sender.specs.declared.Sent.{Sent}
use Rattle.sender.proofs.Laws.{to_kept}
use Rattle.reader.specs.Reader.{with_ear, taken_by, tick_reader}
use Rattle.plan.specs.Plan.{no_answer, settled}
use Rattle.ticks.specs.Ticks.{watched, starved_flags, flags_sent, phase_after, control_ticked, tick_note, tick_ends, tick_hears, ticked}
use Rattle.events.specs.Events.{reacted}
use Rattle.quick.specs.Passing.{is_nothing, in_piece, rests, passes_by, passes}
use Rattle.events.specs.Turn.{out, turned, turn}
use Rattle.events.specs.declared.Answer.{Answer}
use Rattle.ticks.specs.declared.Did.{Did}
use Rattle.events.specs.declared.Event.{Event}
use Rattle.events.specs.declared.Event.TheVariants.{Tick}

pub to_heard : (b : Bridge) (h k : Heard) (x : Bool) → h ≡ k → x ≡ passes_by b h.found → x ≡ passes_by b k.found
to_heard b h k x e f = rw (← e) f

pub to_rests : (s : Sending) (may m r : Bool) → may ≡ m → r ≡ rests s may → r ≡ rests s m
to_rests s may m r e h = rw (← e) h

-- what the sender chooses
module _ (s : Sending) (may : Bool) where
  goes_on : in_piece s.sender ≡ true → choose s may ≡ GoOn
  unfolding choose
  goes_on h =
      let l : s.sender.gone + 1 < piece_length s.sender.piece = ltb-true _ _ h in
      sym (pick_lt s.sender.gone (piece_length s.sender.piece) GoOn _ _ (omega arith) refl)

  stays : rests s may ≡ true → choose s may ≡ Stay
  unfolding choose
  stays h =
      let u : may ≡ true → s.queue.used ≤ s.queue.begun = λ k. ltb-false _ _ (and_first _ _ (denied _ _ h) k) in
      let i : idle s.sender ≡ true = allowed _ _ (allowed _ _ h) in
      let g : piece_length s.sender.piece ≤ s.sender.gone = leb-true _ _ (search (and_l, and_r)) in
      let l : s.sender.left ≡ 0 = eqb-true _ _ (search (and_l, and_r)) in
      let e : s.sender.ends ≡ 0 = eqb-true _ _ (search (and_l, and_r)) in
      sym
      (pick_not_lt s.sender.gone (piece_length s.sender.piece) Stay _ _ g
      (pick_not_lt 0 s.sender.left Stay _ _ (omega arith)
      (pick_not_lt 0 s.sender.ends Stay _ _ (omega arith)
      (pick_keeps (λ (n : Next). Stay ≡ n) may _ _ (λ k. pick_not_lt s.queue.begun s.queue.used Stay _ _ (u k) refl) (λ k. refl)))))

-- the sender's half, where no place is begun or sent
abbrev pub moved : Next → Sending → ℕ → Sending
moved n s w = record { tx = s.tx; queue = s.queue; sender = sender_after n s w }

abbrev pub plain : Next → Sending → ℕ → Sent
plain n s w = record { sending = moved n s w; sout = bit_sent n s.sender w; starved = false; started = false; differs = false }

abbrev pub unsent : Queue → Returned
unsent q = record { queue = q; differs = false }

module _ (s : Sending) (may : Bool) (w : ℕ) where
  pub unfinished : (n : Next) → (idle (sender_after n s w) && under_way s.queue) ≡ false → leb 18 (sender_after n s w).gone ≡ false
      → finished (moved n s w) ≡ unsent s.queue
  unfinished n h k = sym (to_kept (moved n s w) _ _ refl refl _ refl h (rw k refl))

  not_over : in_piece s.sender ≡ true → finished (moved GoOn s w) ≡ unsent s.queue
  unfolding sender_after
  not_over h =
      let l : s.sender.gone + 1 < piece_length s.sender.piece = ltb-true _ _ h in
      let z : leb (piece_length s.sender.piece) (s.sender.gone + 1) ≡ false = lt-leb _ _ l in
      unfinished GoOn (rw z) (lt-leb 18 (s.sender.gone + 1) (omega (arith, piece_most s.sender.piece)))

  none_over : rests s may ≡ true → finished (moved Stay s w) ≡ unsent s.queue
  none_over h =
      let u : under_way s.queue ≡ false = denied _ (idle s.sender) (allowed (ltb s.queue.begun s.queue.used && may) _ h) in
      unfinished Stay (and_none (idle (sender_after Stay s w)) _ u) (unfold sender_after in refl)

  sent_on : in_piece s.sender ≡ true → tick_sender s may w ≡ plain GoOn s w
  unfolding tick_sender sent_by advanced
  sent_on h = rw (goes_on s may h, not_over h) refl

  pub sent_none : rests s may ≡ true → tick_sender s may w ≡ plain Stay s w
  unfolding tick_sender sent_by advanced
  sent_none h = rw (stays s may h, none_over h) refl

-- the whole tick
abbrev pub short : Bridge → Bool → Next → ℕ → Did
short b sin n w = record {
  bridge = record {
    control = settled b.control b.receiving.rx.count false;
    sending = moved n b.sending w;
    receiving = with_ear b.receiving (hear b.receiving.reader.ear sin).ear;
    frame = b.frame;
    clock = watched b.clock false sin;
  };
  sdo = no_answer;
  sout = bit_sent n b.sending.sender w;
  note = Done;
  tx = None;
  rx = None;
}

pub ticked_short : (b : Bridge) (sin : Bool) (w : ℕ) (n : Next) → tick_sender b.sending (may_start b.control) w ≡ plain n b.sending w
    → (hear b.receiving.reader.ear sin).found ≡ Nothing → ticked b sin w ≡ short b sin n w
unfolding ticked tick_hears tick_ends tick_reader taken_by flags_sent starved_flags control_ticked settled phase_after tick_note pick
ticked_short b sin w n e h = rw (e, h) refl

pub heard_none : (f : Found) → is_nothing f ≡ true → f ≡ Nothing
heard_none Nothing h = refl
heard_none Start h = cc
heard_none (WordFound w) h = cc
heard_none End h = cc
heard_none (CheckError n) h = cc
heard_none Over h = cc

abbrev goes : Sender → Next
goes s = pick (in_piece s) GoOn Stay

sent_by_lem : (s : Sending) (may : Bool) (w : ℕ) (c : Bool) → in_piece s.sender ≡ c → pick c true (rests s may) ≡ true
    → tick_sender s may w ≡ plain (pick c GoOn Stay) s w
unfolding pick
sent_by_lem s may w true e h = sent_on s may w e
sent_by_lem s may w false e h = sent_none s may w h

tick_short : (b : Bridge) (sin : Bool) (w : ℕ) → passes_by b (hear b.receiving.reader.ear sin).found ≡ true
    → ticked b sin w ≡ short b sin (goes b.sending.sender) w
unfolding passes_by
tick_short b sin w h =
    ticked_short b sin w _ (sent_by_lem b.sending (may_start b.control) w _ refl (chosen _ _ h)) (heard_none _ (chosen_by _ _ h))

sender_by : (c : Bool) (s : Sending) (w : ℕ) → sender_after (pick c GoOn Stay) s w ≡ pick c (sender_after GoOn s 0) (sender_after Stay s 0)
unfolding pick sender_after
sender_by true s w = refl
sender_by false s w = refl

bit_by : (c : Bool) (s : Sender) (w : ℕ) → bit_sent (pick c GoOn Stay) s w ≡ pick c (bit_sent GoOn s 0) (bit_sent Stay s 0)
unfolding pick bit_sent
bit_by true s w = refl
bit_by false s w = refl

-- the short way's answer, by the parts that its functions told
pub to_passed : (b : Bridge) (sin : Bool) (heard : Heard) (receiving : Receiving) (sender : Sender) (sout : Bool)
    (control : Control) (clock : Clock) (tx rx : List ℕ)
    → passes b (Tick sin) ≡ true → heard ≡ hear b.receiving.reader.ear sin → receiving ≡ with_ear b.receiving heard.ear
    → sender ≡ pick (in_piece b.sending.sender) (sender_after GoOn b.sending 0) (sender_after Stay b.sending 0)
    → sout ≡ pick (in_piece b.sending.sender) (bit_sent GoOn b.sending.sender 0) (bit_sent Stay b.sending.sender 0)
    → control ≡ settled b.control b.receiving.rx.count false → clock ≡ watched b.clock false sin
    → out
    (record {
      state = record {
        control = control;
        sending = record { tx = b.sending.tx; queue = b.sending.queue; sender = sender };
        receiving = receiving;
        frame = b.frame;
        clock = clock;
      };
      sdo = no_answer;
      sout = sout;
      note = Done;
    })
    tx
    rx
    ≡ turn layouts b tx rx (Tick sin)
unfolding passes turn turned reacted written
to_passed b sin heard receiving sender sout control clock tx rx p h r s o c k =
    rw (tick_short b sin _ p, r, h, s, o, c, k, sender_by, bit_by) refl

-- an arm knows the event
pub to_short : (b : Bridge) (e v : Event) (a : Answer) (tx rx : List ℕ) → v ≡ e → ((t u : List ℕ) → out a t u ≡ turn layouts b t u e)
    → out a tx rx ≡ turn layouts b tx rx v
to_short b e v a tx rx h f = rw h (f tx rx)
