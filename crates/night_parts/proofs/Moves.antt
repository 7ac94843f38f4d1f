-- Host events that move the phase and nothing else, as the functions' proofs ask them. Assumes nothing.
use mathlib.Core.Path.{◌≡◌, refl, sym, ◌∙◌, ap}
use mathlib.Core.Bool.{Bool, true, false}
use mathlib.Core.List.{List}
use Prim.Native.Nat.{ℕ, ◌+◌, ◌*◌, ◌<◌}
use native.Mathlib.Omega.{arith}
use lib.Dec.{eqb}
use lib.ListN.{get_or}
use borrow.Author.Tests.{eqb-true}
use Rattle.base.specs.Pick.{pick, pick_eq, pick_ne}
use Rattle.command.specs.Layouts.{layouts}
use Rattle.crc16.specs.Crc.{crc_word}
use Rattle.registers.specs.declared.Control.{Control}
use Rattle.state.specs.Rings.{written, ring_after}
use Rattle.state.specs.Sending.{stored, done}
use Rattle.state.specs.declared.Bridge.{Bridge}
use Rattle.state.specs.declared.Note.TheVariants.{Done}
use Rattle.state.specs.declared.Phase.{Phase}
use Rattle.state.specs.declared.Phase.TheVariants.{Idle, Collecting, Answering, Discarding}
use Rattle.state.specs.declared.Reply.{Reply}
use Rattle.state.specs.declared.Reply.TheVariants.{Status, Data, Registers, Check}
use Rattle.plan.specs.Plan.{no_answer, settled, cleared_away, received, concluded, performed}
use Rattle.answers.specs.Answers.{answer_with, answered}
use Rattle.host.specs.Frames.{planned, planned_in}
use Rattle.release.specs.Release.{released_in}
use Rattle.events.specs.Events.{reacted}
use Rattle.events.specs.Turn.{out, turned, turn}
use Rattle.events.specs.declared.Answer.{Answer}
use Rattle.events.specs.declared.Event.TheVariants.{Word, Release}
use Rattle.listing.specs.Records.{event_at, is_event}
use Rattle.listing.specs.Results.{put}
use Rattle.listing.specs.Run.{Lent, Gone}
use Rattle.listing.proofs.Records.{word_at, release_at}
use Rattle.listing.proofs.Laws.{begins, again, event_now}
use Rattle.night_parts.specs.Moving.{move, no_move, release_move, reply_move, word_move, move_of}
use Rattle.night_parts.specs.Parts.{Onward}
use Rattle.night_parts.specs.declared.moving.Move.{Move}

-- an arm knows the phase, or the reply
pub to_released : (ph v : Phase) (m : Move) → ph ≡ v → m ≡ release_move v → m ≡ release_move ph
to_released ph v m h e = rw h e

pub to_replied : (r v : Reply) (n : ℕ) (m : Move) → r ≡ v → m ≡ reply_move v n → m ≡ reply_move r n
to_replied r v n m h e = rw h e

pub to_status : (r : Reply) (status n x : ℕ) → r ≡ Status status → x ≡ crc_word n status → move true status (Answering Check x) ≡ reply_move r n
unfolding reply_move
to_status r status n x h e = rw (h, e)

pub to_answered : (ph v : Phase) (m : Move) → ph ≡ v → m ≡ word_move v → m ≡ word_move ph
to_answered ph v m h e = rw h e

-- by the kind
module _ (x : ℕ) (ph : Phase) (m : Move) where
  pub to_word_move : x ≡ 1 → m ≡ word_move ph → m ≡ move_of x ph
  unfolding move_of
  to_word_move h e = pick_eq x 1 m _ _ h e

  pub to_release_move : (x ≡ 1 → ⊥) → x ≡ 2 → m ≡ release_move ph → m ≡ move_of x ph
  unfolding move_of
  to_release_move n h e = pick_ne x 1 m _ _ n (pick_eq x 2 m _ _ h e)

  pub to_no_move : (x ≡ 1 → ⊥) → (x ≡ 2 → ⊥) → m ≡ no_move → m ≡ move_of x ph
  unfolding move_of
  to_no_move n l e = pick_ne x 1 m _ _ n (pick_ne x 2 m _ _ l e)

-- what such an event leaves, and answers
abbrev left : Bridge → Control → ℕ → Phase → Bridge
left b control mark phase = record {
  control = control;
  sending = b.sending;
  receiving = b.receiving;
  frame = record { phase = phase; held = b.frame.held; xmodem = b.frame.xmodem };
  clock = record {
    reading = b.clock.reading;
    mark = mark;
    watching = b.clock.watching;
    watch_mark = b.clock.watch_mark;
    sin = b.clock.sin;
  };
}

abbrev says : Bridge → ℕ → Move → Answer
says b mark m = record { state = left b (settled b.control b.receiving.rx.count false) mark m.phase; sdo = m.sdo; sout = true; note = Done }

module _ (b : Bridge) (tx rx : List ℕ) where
  word_moves : (w : ℕ) (ph : Phase) → ph ≡ b.frame.phase → (word_move ph).moves ≡ true
      → out (says b b.clock.reading (word_move ph)) tx rx ≡ turn layouts b tx rx (Word w)
  unfolding turn turned reacted planned planned_in answered answer_with performed stored done cleared_away received concluded ring_after written pick word_move reply_move
  word_moves w Idle e h = cc
  word_moves w (Collecting command got sum mine released blocked) e h = cc
  word_moves w (Answering (Status status) sum) e h = rw (← e) refl
  word_moves w (Answering (Data left) sum) e h = cc
  word_moves w (Answering (Registers address left) sum) e h = cc
  word_moves w (Answering Check sum) e h = rw (← e) refl
  word_moves w Discarding e h = cc

  release_moves : (ph : Phase) → ph ≡ b.frame.phase → (release_move ph).moves ≡ true
      → out (says b b.clock.mark (release_move ph)) tx rx ≡ turn layouts b tx rx Release
  unfolding turn turned reacted released_in performed stored done cleared_away received concluded ring_after written pick release_move
  release_moves Idle e h = rw (← e) refl
  release_moves (Collecting command got sum mine released blocked) e h = cc
  release_moves (Answering reply sum) e h = rw (← e) refl
  release_moves Discarding e h = rw (← e) refl

  module _ (records : List ℕ) (k : ℕ) (g : is_event records k ≡ true) (x : ℕ) (xe : x ≡ get_or records (k * 3) 0) where
    abbrev moves_to : Bool → Bool → Move
    moves_to p q = pick p (word_move b.frame.phase) (pick q (release_move b.frame.phase) no_move)

    by_kind : (p q : Bool) → eqb x 1 ≡ p → eqb x 2 ≡ q → (moves_to p q).moves ≡ true
        → out (says b (pick p b.clock.reading b.clock.mark) (moves_to p q)) tx rx ≡ turn layouts b tx rx (event_at records k)
    unfolding pick
    by_kind true q e f h =
        word_moves _ b.frame.phase refl h ∙ ap (turn layouts b tx rx) (word_at records k g (sym xe ∙ eqb-true x 1 e))
    by_kind false true e f h =
        release_moves b.frame.phase refl h ∙ ap (turn layouts b tx rx) (release_at records k g (sym xe ∙ eqb-true x 2 f))
    by_kind false false e f h = cc

    moved : (move_of x b.frame.phase).moves ≡ true
        → out (says b (pick (eqb x 1) b.clock.reading b.clock.mark) (move_of x b.frame.phase)) tx rx ≡ turn layouts b tx rx (event_at records k)
    unfolding move_of
    moved h = by_kind (eqb x 1) (eqb x 2) refl refl h

module _ (records : List ℕ) (many from : ℕ) (b₀ : Bridge) (tx₀ rx₀ s₀ : List ℕ) (k : ℕ) (b : Bridge) (tx rx s : List ℕ)
    (v : Gone records many from b₀ tx₀ rx₀ s₀ k b tx rx s) (h : k < many) where
  pub move_again : (x : ℕ) → x ≡ get_or records (k * 3) 0 → (m : Move) → m ≡ move_of x b.frame.phase → m.moves ≡ true
      → (control : Control) → control ≡ settled b.control b.receiving.rx.count false
      → (mark : ℕ) → mark ≡ pick (eqb x 1) b.clock.reading b.clock.mark → (u : List ℕ) → u ≡ put s k 0 m.sdo true
      → Gone records many from b₀ tx₀ rx₀ s₀ (k + 1) (left b control mark m.phase) tx rx u
  move_again x xe m me ms control ce mark ke u ue =
      let g : is_event records k ≡ true = event_now records many from b₀ tx₀ rx₀ s₀ k b tx rx s v h in
      again records many from b₀ tx₀ rx₀ s₀ k b tx rx s v h (event_at records k) refl
      (record { state = left b control mark m.phase; sdo = m.sdo; sout = true; note = Done }) tx rx u
      (rw (ce, ke, me) (moved b tx rx records k g x xe (sym (ap (λ (y : Move). y.moves) me) ∙ ms))) ue

-- a release that is a part by itself
module _ (records : List ℕ) (many from : ℕ) (b : Bridge) (tx rx s : List ℕ) (l : Lent records many from b tx rx s)
    (e : get_or records (from * 3) 0 ≡ 2) where
  pub release_part : (m : Move) → m ≡ move_of 2 b.frame.phase → m.moves ≡ true
      → (control : Control) → control ≡ settled b.control b.receiving.rx.count false → (u : List ℕ) → u ≡ put s from 0 m.sdo true
      → Onward records many from b tx rx s (from + 1) (left b control b.clock.mark m.phase) tx rx u
  unfolding pick
  release_part m me ms control ce u ue = record {
    gone =
        move_again records many from b tx rx s from b tx rx s (begins records many from b tx rx s l) l.one 2 (sym e) m me ms control ce
        b.clock.mark refl u ue;
    some = omega arith;
  }
