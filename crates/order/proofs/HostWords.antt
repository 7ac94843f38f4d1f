-- A host word, by the plan that is made of it: it begins a frame, is stored behind the open frame's words, or is passed over. Assumes nothing.
use Rattle.std.specs.Prelude.{Option, None, Some}
use mathlib.Core.Path.{◌≡◌, refl, ◌∙◌, ap}
use mathlib.Core.Bool.{Bool, true, false, ◌&&◌, ◌||◌}
use mathlib.Core.List.{List, [], ◌∷◌, ◌++◌, append_assoc, append-nil}
use Prim.Native.Nat.{ℕ, ◌+◌, ◌<◌}
use native.Mathlib.Omega.{arith}
use lib.ListN.{length, get_or, length-append}
use borrow.Author.Tests.{ltb-true}
use Rattle.base.specs.Pick.{pick, pick_keeps, and_l}
use Rattle.layout.specs.declared.Layout.{Layout}
use Rattle.layout.specs.declared.Layout.TheVariants.{Ours}
use Rattle.command.specs.Layouts.{Layouts}
use Rattle.command.specs.declared.Command.{Command}
use Rattle.command.specs.declared.Command.TheVariants.{Filler, Malformed, Forward, DataRead, RegisterWrite, RegisterRead, SoftReset}
use Rattle.registers.specs.Registers.{blocking}
use Rattle.state.specs.Frame.{fwd, progress, data_words}
use Rattle.state.specs.declared.Bridge.{Bridge}
use Rattle.state.specs.declared.Deed.{Deed}
use Rattle.state.specs.declared.Deed.TheVariants.{Leave, ClearAll}
use Rattle.state.specs.declared.Note.{Note}
use Rattle.state.specs.declared.Phase.{Phase}
use Rattle.state.specs.declared.Phase.TheVariants.{Idle, Collecting, Answering, Discarding}
use Rattle.state.specs.declared.Reply.{Reply}
use Rattle.state.specs.declared.Reply.TheVariants.{Status, Data, Registers, Check}
use Rattle.forwards.specs.Forward.{just_begun, word_counted, asks_store, granted, guard, clears, forwarded, forward_word, forward_begun}
use Rattle.host.specs.Frames.{opened, data_word, planned_in}
use Rattle.writes.specs.Writes.{held_word, register_word}
use Rattle.closing.specs.Closing.{wrong_crc, forward_closed, registers_closed, read_closed, reset_closed, crc_due}
use Rattle.answers.specs.Answers.{answer_with, data_answered, register_answered, answered}
use Rattle.forwards.specs.declared.Granted.{Granted}
use Rattle.state.specs.declared.Progress.{Progress}
use Rattle.plan.specs.declared.Plan.{Plan}
use Rattle.forwards.specs.declared.Wish.{Wish}
use Rattle.order.specs.Accepted.{Log, came, accepts, collects, joined, settle}
use Rattle.order.specs.Framed.{Framed}
use Rattle.base.specs.Truth.{never, or_none}
use Rattle.state.specs.declared.Queue.{Queue}
use Rattle.order.proofs.Behind.{Shut, Open, InFrame, Stands, on, shut_more, framed_open, framed_shut}

-- what is sent next stands behind what was dropped, or behind what was stored where nothing was dropped
glue : (before words dropped : List ℕ) (word w : ℕ)
    → (before ++ (word ∷ (words ++ dropped))) ++ (w ∷ []) ≡ before ++ (word ∷ (words ++ (dropped ++ (w ∷ []))))
glue before words dropped word w =
    append_assoc before (word ∷ (words ++ dropped)) (w ∷ []) ∙ ap (λ (z : List ℕ). before ++ (word ∷ z)) (append_assoc words dropped (w ∷ []))

unblocked : (blocked : Bool) → (blocked && true) ≡ false → blocked ≡ false
unblocked true h = h
unblocked false h = refl

-- Notes 5 and 8 drop the word and leave the frame blocked; else it is stored, and the frame was not blocked.
guarded : (P : Granted → Type 0) (blocked : Bool) (count : ℕ) (q : Queue) (w : Wish)
    → ((d : Deed) (n : Note) → (clears d || blocked) ≡ true → P (granted None d n))
    → ((d : Deed) (n : Note) → (blocked && (asks_store w.store || w.release)) ≡ false → P (granted w.store d n))
    → P (guard blocked count q w)
unfolding guard clears
guarded P blocked count q w drops stores =
    pick_keeps P _ _ _ (λ t. drops _ _ (and_l blocked _ t))
    (λ t. pick_keeps P _ _ _ (λ u. drops _ _ refl)
    (λ u. pick_keeps P _ _ _ (λ v. pick_keeps P _ _ _ (λ x. stores _ _ t) (λ x. stores _ _ t)) (λ v. stores _ _ t)))

-- what a plan leaves, by its parts
pub record After (l : Layouts) (spoken : List Layout) (g : Log) (hs : List ℕ) (ph : Phase) (st : Option ℕ) (d : Deed) (status : Bool) : Type 0 where
  pub stands : Stands l spoken ph (settle (collects ph) g.closed (came g.words st) (g.accepted || accepts d)) hs
  pub ends : status ≡ true → ph ≡ Idle

abbrev pub AfterBy : Layouts → List Layout → Log → List ℕ → Plan → Type 0
AfterBy l spoken g hs p = After l spoken g hs p.phase p.store p.deed p.status

-- a phase outside of forwards
abbrev Rests : Layouts → List Layout → Phase → Type 0
Rests l spoken ph = (g : Log) (hs : List ℕ) → Shut l spoken g hs → Stands l spoken ph g hs

module _ (l : Layouts) (spoken : List Layout) (b : Bridge) (g : Log) (hs : List ℕ) where
  abbrev Good : Plan → Type 0
  Good p = AfterBy l spoken g hs p

  -- A frame that is over, with what was accepted in it.
  over : (ph : Phase) (d : Deed) (status : Bool) → Rests l spoken ph → collects ph ≡ false → (status ≡ true → ph ≡ Idle)
      → Framed l spoken (joined (g.accepted || accepts d) g.closed g.words) hs → After l spoken g hs ph None d status
  unfolding came settle
  over ph d status r c e f =
      record { stands = rw c (r _ hs (record { no_words = refl; not_accepted = refl; closed_are = f })); ends = e }

  rests_idle : Rests l spoken Idle
  unfolding Stands
  rests_idle i xs h = h

  rests_answering : (reply : Reply) (sum : ℕ) → Rests l spoken (Answering reply sum)
  unfolding Stands
  rests_answering reply sum i xs h = h

  pub closes : (d : Deed) (status : Bool) → Framed l spoken (joined (g.accepted || accepts d) g.closed g.words) hs → After l spoken g hs Idle None d status
  unfolding collects
  closes d status f = over Idle d status rests_idle refl (λ e. refl) f

  -- Plans outside of forwards.
  module _ (h : Shut l spoken g hs) where
    none : (d : Deed) → accepts d ≡ false → Framed l spoken (joined (g.accepted || accepts d) g.closed g.words) hs
    none d e = framed_shut l spoken g hs h _ (or_none _ _ e ∙ h.not_accepted)

    idles : (d : Deed) (status : Bool) → accepts d ≡ false → After l spoken g hs Idle None d status
    idles d status e = closes d status (none d e)

    answers : (reply : Reply) (sum : ℕ) → After l spoken g hs (Answering reply sum) None Leave false
    unfolding collects accepts
    answers reply sum = over _ Leave false (rests_answering reply sum) refl (λ e. never false e refl) (none Leave refl)

    discards : After l spoken g hs Discarding None Leave false
    unfolding Stands collects accepts
    discards = over Discarding Leave false (λ i xs k. k) refl (λ e. never false e refl) (none Leave refl)

    -- a frame that goes on
    goes : (command : Command) (got sum mine : ℕ) (released blocked : Bool) (d : Deed) → accepts d ≡ false
        → ((i : Log) (xs : List ℕ) → Shut l spoken i xs → InFrame l spoken command got blocked i xs)
        → After l spoken g hs (Collecting command got sum mine released blocked) None d false
    unfolding Stands collects settle came
    goes command got sum mine released blocked d e r =
        record {
          stands = r _ hs (record { no_words = h.no_words; not_accepted = or_none _ _ e ∙ h.not_accepted; closed_are = h.closed_are });
          ends = λ k. never false k refl;
        }

    wrong_crc_lem : (crc : Bool) (mine : ℕ) → Good (wrong_crc b crc mine)
    unfolding wrong_crc accepts
    wrong_crc_lem crc mine = pick_keeps Good _ _ _ (λ t. idles _ true refl) (λ t. idles _ true refl)

    effects : (t : Bool) → accepts (pick t ClearAll Leave) ≡ false
    unfolding accepts
    effects t = pick_keeps (λ (d : Deed). accepts d ≡ false) t _ _ (λ u. refl) (λ u. refl)

    read_closed_lem : (crc right : Bool) (reply : Reply) → Good (read_closed l b crc right reply)
    unfolding read_closed accepts
    read_closed_lem crc right reply =
        pick_keeps Good _ _ _ (λ t. answers _ _) (λ t. pick_keeps Good _ _ _ (λ u. idles _ false refl) (λ u. answers _ _))

    answered_word : (reply : Reply) (sum x : ℕ) → Good (answered l b reply sum x)
    unfolding answered answer_with data_answered register_answered accepts
    answered_word (Status w) sum x = answers _ _
    answered_word (Data left) sum x = pick_keeps Good _ _ _ (λ t. answers _ _) (λ t. answers _ _)
    answered_word (Registers address left) sum x = answers _ _
    answered_word Check sum x = idles _ false refl

  -- The command word of a forward: nothing is stored, whatever is granted.
  begun : (before : List ℕ) (w : ℕ) → hs ≡ before ++ (w ∷ []) → Shut l spoken g before → (crc : Bool) (most ends : ℕ) (reads : Bool)
      → l.decode (get_or spoken (length before) Ours) w ≡ Forward crc most ends reads → (sum mine : ℕ) (released blocked : Bool) (d : Deed)
      → After l spoken g hs (Collecting (Forward crc most ends reads) 0 sum mine released blocked) None d false
  unfolding Stands InFrame collects settle came
  begun before w s h crc most ends reads f sum mine released blocked d =
      record {
        stands = record {
          before = before;
          word = w;
          dropped = [];
          closed_are = h.closed_are;
          forward_is = f;
          sent_are = rw h.no_words s;
          few = rw h.no_words (omega arith);
          due = omega arith;
          all_stored = λ e. refl;
        };
        ends = λ k. never false k refl;
      }

  opened_word : (before : List ℕ) (w : ℕ) → hs ≡ before ++ (w ∷ []) → Shut l spoken g before → Shut l spoken g hs → (command : Command)
      → l.decode (get_or spoken (length before) Ours) w ≡ command → (sum : ℕ) → Good (opened b command sum)
  unfolding opened forward_begun forwarded accepts InFrame
  opened_word before w s h k Filler f sum = idles k _ false refl
  opened_word before w s h k Malformed f sum = discards k
  opened_word before w s h k (Forward crc most ends reads) f sum =
      guarded (λ (r : Granted). Good (forwarded b (fwd crc most ends reads) (just_begun sum (blocking b.control.flags)) r)) _ _ _ _
      (λ d n t. begun before w s h crc most ends reads f sum _ _ _ d) (λ d n t. begun before w s h crc most ends reads f sum _ _ _ d)
  opened_word before w s h k (DataRead crc words) f sum = goes k _ _ _ _ _ _ _ refl (λ i xs p. p)
  opened_word before w s h k (RegisterWrite crc address count) f sum = goes k _ _ _ _ _ _ _ refl (λ i xs p. p)
  opened_word before w s h k (RegisterRead crc address count) f sum = goes k _ _ _ _ _ _ _ refl (λ i xs p. p)
  opened_word before w s h k SoftReset f sum = goes k _ _ _ _ _ _ _ refl (λ i xs p. p)

-- A word in a forward, hs before it.
module _ (l : Layouts) (spoken : List Layout) (b : Bridge) (g : Log) (hs : List ℕ) (w : ℕ) (crc : Bool) (most ends : ℕ) (reads : Bool) (got : ℕ) (blocked : Bool)
    (h : Open l spoken crc most ends reads got blocked g hs) where
  module _ (d : got < most) where
    dropped_word : (sum mine : ℕ) (released now : Bool) (deed : Deed) → now ≡ true
        → After l spoken g (hs ++ (w ∷ [])) (Collecting (Forward crc most ends reads) (got + 1) sum mine released now) None deed false
    unfolding Stands InFrame collects settle came
    dropped_word sum mine released now deed e =
        record {
          stands = record {
            before = h.before;
            word = h.word;
            dropped = h.dropped ++ (w ∷ []);
            closed_are = h.closed_are;
            forward_is = h.forward_is;
            sent_are = rw h.sent_are (glue h.before g.words h.dropped h.word w);
            few = omega (arith, h.few);
            due = omega arith;
            all_stored = λ k. never now e k;
          };
          ends = λ k. never false k refl;
        }

    stored_word : blocked ≡ false → (sum mine : ℕ) (released now : Bool) (deed : Deed)
        → After l spoken g (hs ++ (w ∷ [])) (Collecting (Forward crc most ends reads) (got + 1) sum mine released now) (Some w) deed false
    unfolding Stands InFrame collects settle came
    stored_word u sum mine released now deed =
        record {
          stands = record {
            before = h.before;
            word = h.word;
            dropped = [];
            closed_are = h.closed_are;
            forward_is = h.forward_is;
            sent_are =
                rw (h.sent_are, append-nil (g.words ++ (w ∷ [])))
                (glue h.before g.words h.dropped h.word w ∙ rw (h.all_stored u) refl);
            few = rw (length-append g.words (w ∷ [])) (omega (arith, h.few));
            due = omega arith;
            all_stored = λ k. refl;
          };
          ends = λ k. never false k refl;
        }

    forward_word_lem : (sum mine : ℕ) (released : Bool)
        → AfterBy l spoken g (hs ++ (w ∷ [])) (forward_word b (fwd crc most ends reads) (progress got sum mine released blocked) w)
    unfolding forward_word forwarded asks_store
    forward_word_lem sum mine released =
        guarded
        (λ (r : Granted). AfterBy l spoken g (hs ++ (w ∷ []))
        (forwarded b (fwd crc most ends reads) (word_counted (progress got sum mine released blocked)) r))
        _ _ _ _ (λ deed n t. dropped_word sum _ _ _ deed t) (λ deed n t. stored_word (unblocked blocked t) sum _ _ _ deed)

  -- the CRC word
  crc_word_lem : (deed : Deed) (status : Bool) → After l spoken g (hs ++ (w ∷ [])) Idle None deed status
  crc_word_lem deed status =
      closes l spoken b g (hs ++ (w ∷ [])) deed status (on l spoken _ hs (w ∷ []) (framed_open l spoken g hs crc most ends reads got blocked h _))

  forward_crc : (mine : ℕ) (right : Bool)
      → AfterBy l spoken g (hs ++ (w ∷ [])) (pick right (forward_closed b crc most ends reads blocked) (wrong_crc b crc mine))
  unfolding forward_closed wrong_crc
  forward_crc mine right =
      pick_keeps (AfterBy l spoken g (hs ++ (w ∷ []))) _ _ _ (λ t. kept_idle)
      (λ t. pick_keeps (AfterBy l spoken g (hs ++ (w ∷ []))) _ _ _ (λ u. crc_word_lem _ true) (λ u. crc_word_lem _ true))
    where
      kept_idle : AfterBy l spoken g (hs ++ (w ∷ [])) (forward_closed b crc most ends reads blocked)
      kept_idle = crc_word_lem _ true

module _ (l : Layouts) (spoken : List Layout) (b : Bridge) (g : Log) (hs : List ℕ) (w : ℕ) where
  abbrev sent : List ℕ
  sent = hs ++ (w ∷ [])

  data_word_lem : (command : Command) (at : Progress) → at.got < data_words command → InFrame l spoken command at.got at.blocked g hs
      → AfterBy l spoken g sent (data_word b command at w)
  unfolding data_word InFrame register_word held_word accepts
  data_word_lem Filler at d h = idles l spoken b g sent (shut_more l spoken g hs _ h) _ false refl
  data_word_lem Malformed at d h = idles l spoken b g sent (shut_more l spoken g hs _ h) _ false refl
  data_word_lem (Forward crc most ends reads) at d h =
      forward_word_lem l spoken b g hs w crc most ends reads at.got at.blocked h d at.crc at.mine at.released
  data_word_lem (DataRead crc words) at d h = idles l spoken b g sent (shut_more l spoken g hs _ h) _ false refl
  data_word_lem (RegisterWrite crc address count) at d h =
      let k : Shut l spoken g sent = shut_more l spoken g hs _ h in
      pick_keeps (AfterBy l spoken g sent) _ _ _ (λ t. goes l spoken b g sent k _ _ _ _ _ _ _ refl (λ i xs p. p))
      (λ t. goes l spoken b g sent k _ _ _ _ _ _ _ (effects l spoken b g sent k _) (λ i xs p. p))
  data_word_lem (RegisterRead crc address count) at d h = idles l spoken b g sent (shut_more l spoken g hs _ h) _ false refl
  data_word_lem SoftReset at d h = idles l spoken b g sent (shut_more l spoken g hs _ h) _ false refl

  crc_due_lem : (command : Command) (got mine : ℕ) (blocked right : Bool) → InFrame l spoken command got blocked g hs
      → AfterBy l spoken g sent (crc_due l b command mine blocked right)
  unfolding crc_due InFrame registers_closed reset_closed accepts
  crc_due_lem Filler got mine blocked right h = idles l spoken b g sent (shut_more l spoken g hs _ h) _ false refl
  crc_due_lem Malformed got mine blocked right h = idles l spoken b g sent (shut_more l spoken g hs _ h) _ false refl
  crc_due_lem (Forward crc most ends reads) got mine blocked right h = forward_crc l spoken b g hs w crc most ends reads got blocked h mine right
  crc_due_lem (DataRead crc words) got mine blocked right h = read_closed_lem l spoken b g sent (shut_more l spoken g hs _ h) crc right _
  crc_due_lem (RegisterWrite crc address count) got mine blocked right h =
      let k : Shut l spoken g sent = shut_more l spoken g hs _ h in
      pick_keeps (AfterBy l spoken g sent) _ _ _
      (λ t. pick_keeps (AfterBy l spoken g sent) _ _ _ (λ u. idles l spoken b g sent k _ true (effects l spoken b g sent k _)) (λ u. idles l spoken b g sent k _ true refl))
      (λ t. wrong_crc_lem l spoken b g sent k crc mine)
  crc_due_lem (RegisterRead crc address count) got mine blocked right h = read_closed_lem l spoken b g sent (shut_more l spoken g hs _ h) crc right _
  crc_due_lem SoftReset got mine blocked right h =
      let k : Shut l spoken g sent = shut_more l spoken g hs _ h in
      pick_keeps (AfterBy l spoken g sent) _ _ _
      (λ t. pick_keeps (AfterBy l spoken g sent) _ _ _ (λ u. idles l spoken b g sent k _ true refl) (λ u. idles l spoken b g sent k _ true refl))
      (λ t. wrong_crc_lem l spoken b g sent k true mine)

  pub word_after : get_or spoken (length hs) Ours ≡ b.control.regs.layout → (ph : Phase) (x : ℕ) → Stands l spoken ph g hs → AfterBy l spoken g sent (planned_in l b ph w x)
  unfolding planned_in Stands
  word_after k Idle x h =
      opened_word l spoken b g sent hs w refl h (shut_more l spoken g hs _ h) (l.decode b.control.regs.layout w)
      (ap (λ (m : Layout). l.decode m w) k) _
  word_after k (Collecting command got sum mine released blocked) x h =
      pick_keeps (AfterBy l spoken g sent) _ _ _ (λ t. data_word_lem command _ (ltb-true _ _ t) h)
      (λ t. crc_due_lem command got mine blocked _ h)
  word_after k (Answering reply sum) x h = answered_word l spoken b g sent (shut_more l spoken g hs _ h) reply sum x
  word_after k Discarding x h = discards l spoken b g sent (shut_more l spoken g hs _ h)
