-- What places and sender mean together is kept by every deed of a frame and by the sender's half of a tick. Assumes nothing.
use Rattle.std.specs.Prelude.{Option}
use mathlib.Core.Path.{◌≡◌, refl}
use mathlib.Core.Bool.{Bool, true, false, ◌&&◌}
use Prim.Native.Nat.{ℕ, ◌+◌, ◌-◌, ◌≤◌, ◌<◌}
use native.Mathlib.Omega.{arith}
use lib.Dec.{leb, eqb}
use lib.ListN.{length}
use borrow.Author.Tests.{ltb-true, leb-true, eqb-true, lt-ltb, le-leb, eq-eqb}
use Rattle.base.specs.Pick.{pick, pick_keeps, and_l, and_r}
use Rattle.base.specs.Truth.{and_none, and_first}
use Rattle.line.specs.Format.{piece_length}
use Rattle.rules.specs.Facts.{Standing, SenderFit}
use Rattle.place_rules.specs.Places.{waits}
use Rattle.line_rules.specs.Line.{end_sound, piece_sound}
use Rattle.next.specs.Next.{choose}
use Rattle.sender.specs.Sender.{word_sent, queue_sent, sender_after, advanced, place_sent, command_sent, words_over, finished, sent_by, tick_sender}
use Rattle.next.specs.declared.Next.{Next}
use Rattle.next.specs.declared.Next.TheVariants.{GoOn, LoadWord, Starve, LoadEnd, StartWords, StartEnds, Stay}
use Rattle.state.specs.Facts.{QueueFit}
use Rattle.state.specs.Queue.{place_at, queued, under_way, returned, last_begun, speaks, speaking, places_of, in_use}
use Rattle.state.specs.Sending.{owing, idle, stored, done}
use Rattle.state.specs.declared.Deed.{Deed}
use Rattle.state.specs.declared.Deed.TheVariants.{Leave, Enqueue, TakeBack, ClearAll, ResetAll}
use Rattle.state.specs.declared.Queue.{Queue}
use Rattle.state.specs.declared.Returned.{Returned}
use Rattle.state.specs.declared.Sender.{Sender}
use Rattle.state.specs.declared.Sending.{Sending}
use Rattle.queue.proofs.Laws.{busy_begun, speaking_begun, has_record}
use Rattle.kept.proofs.Freed.{sent_rests, words_spoken}
use Rattle.kept.proofs.Pieces.{fit_steady, piece_rests, piece_goes_on, piece_loaded, piece_ended, piece_starved, piece_over, piece_spoken}
use Rattle.kept.proofs.Sender.{over, Chosen, chosen, rules_advanced}
use Rattle.kept.proofs.Standing.{Alike, Steady, Unread, silent_rest, speaks_busy, waits_unsent, waits_ends, steady_same, unread_same, unread_trans, marked_steady, marked_unread, queued_steady, begun_standing, begun_busy, begun_last, begun_unread, emptied_standing}
use Rattle.kept.specs.Rules.{SendRules, Stands}

-- 1. The deeds of a frame.

-- what a deed asks: room for a command as it is queued, with something to send; for a soft reset an idle sender
abbrev pub Asks : Sending → Deed → Type 0
Asks s Leave = Unit {0}
Asks s (Enqueue p) = (in_use s.queue + places_of p ≤ 8) × (waits p ≡ true)
Asks s (TakeBack n) = Unit {0}
Asks s ClearAll = Unit {0}
Asks s ResetAll = idle s.sender ≡ true

idle_left : (s : Sender) → idle s ≡ true → (s.left ≡ 0) × (s.ends ≡ 0)
idle_left s h = (eqb-true _ _ (search (and_l, and_r)), eqb-true _ _ (and_r (leb (piece_length s.piece) s.gone && eqb s.left 0) _ h))

pub stands_done : (s : Sending) (st : Option ℕ) (d : Deed) → QueueFit s.queue → length s.queue.places ≡ 8 → Stands s → Asks s d
    → Stands (done (stored s st) d)
unfolding done stored owing piece_sound pick
stands_done s st Leave f l t a = record { standing = t.standing; sender = t.sender }
stands_done s st (Enqueue p) f l t a =
    let k : Steady s.queue (queued s.queue p) = queued_steady s.queue f l t.standing p (has_record s.queue p l a.0) a.1 a.0 in
    record { standing = k.standing; sender = fit_steady s.sender s.queue (queued s.queue p) k t.sender }
stands_done s st (TakeBack n) f l t a = record { standing = t.standing; sender = t.sender }
stands_done s st ClearAll f l t a = record {
  standing = emptied_standing s.queue;
  sender = record { piece = refl; rest = refl; over = refl };
}
stands_done s st ResetAll f l t a = record {
  standing = emptied_standing s.queue;
  sender = record {
    piece =
        piece_rests s.sender _ _ s.sender.piece _ t.sender.piece (idle_left s.sender a).0
        (idle_left s.sender a).1;
    rest = and_none (idle s.sender) false refl;
    over = and_none (leb 18 s.sender.gone) false refl;
  };
}

-- 2. The sender's half of a tick.

-- before its places may be sent, a tick leaves the piece's rule; an idle sender may still have its command under way
pub record Moves (s : Sending) : Type 0 where
  pub standing : Standing s.queue
  pub piece : piece_sound s.sender.piece s.sender (under_way s.queue) (last_begun s.queue) ≡ true

rests_idle : (s : Sending) → Stands s → over s → s.sender.left ≡ 0 → s.sender.ends ≡ 0 → under_way s.queue ≡ false
rests_idle s t o l e =
    let i : idle s.sender ≡ true = rw (le-leb _ _ o, l, e) in
    rw i at t.sender.rest

module _ (s : Sending) (w : ℕ) (f : QueueFit s.queue) (l : length s.queue.places ≡ 8) (t : Stands s) where
  word_alike : Alike (word_sent (place_at s.queue (s.queue.begun - 1)) s.sender.left w) (place_at s.queue (s.queue.begun - 1))
  unfolding word_sent
  word_alike = record { words = refl; ends = refl; sent = refl; read = refl; store = refl }

  sent_steady : Steady s.queue (queue_sent s.queue s.sender.left w)
  unfolding queue_sent
  sent_steady =
      pick_keeps (Steady s.queue) _ _ _
      (λ b. let z : 0 < s.queue.begun = ltb-true _ _ b in
      marked_steady s.queue (s.queue.begun - 1) _ f l (omega arith) word_alike t.standing)
      (λ b. steady_same s.queue t.standing)

  sent_unread : Unread s.queue (queue_sent s.queue s.sender.left w)
  unfolding queue_sent
  sent_unread =
      pick_keeps (Unread s.queue) _ _ _
      (λ b. let z : 0 < s.queue.begun = ltb-true _ _ b in
      marked_unread s.queue (s.queue.begun - 1) _ f l (omega arith) word_alike)
      (λ b. unread_same s.queue)

  first_waits : s.queue.begun < s.queue.used → waits (place_at s.queue s.queue.begun) ≡ true
  first_waits h = t.standing.fresh s.queue.begun (omega arith) h

  -- with an END gone its words are sent
  last_silent : 18 ≤ s.sender.gone → under_way s.queue ≡ true → speaks (last_begun s.queue) ≡ false
  last_silent g u =
      let k : (true && speaking s.queue) ≡ false = rw (le-leb 18 s.sender.gone g) at t.sender.over in
      rw (lt-ltb 0 s.queue.begun (busy_begun s.queue u)) at k

  pub moves_by : (n : Next) → Chosen s n → Moves (advanced n s w)
  unfolding advanced sender_after
  moves_by GoOn c = record {
    standing = t.standing;
    piece = piece_goes_on s.sender _ _ s.sender.piece t.sender.piece c;
  }
  moves_by LoadWord c =
      let k : SenderFit s.sender (queue_sent s.queue s.sender.left w) = fit_steady s.sender s.queue _ sent_steady t.sender in
      record {
        standing = sent_steady.standing;
        piece = piece_loaded s.sender _ _ s.sender.piece w k.piece c.1;
      }
  moves_by Starve c = record {
    standing = t.standing;
    piece = piece_starved s.sender _ _ s.sender.piece t.sender.piece c.1;
  }
  moves_by LoadEnd c = record {
    standing = t.standing;
    piece = piece_ended s.sender _ _ s.sender.piece t.sender.piece c.1 c.2 c.0 last_silent;
  }
  moves_by StartWords c =
      let u : under_way s.queue ≡ false = rests_idle s t c.0 c.1 c.2 in
      record {
        standing = begun_standing s.queue f l t.standing c.3 u;
        piece = rw (begun_busy s.queue f l t.standing c.3, begun_last s.queue f l t.standing c.3)
            (unfold piece_sound in
            rw (
              eq-eqb (place_at s.queue s.queue.begun).words _ refl,
              lt-ltb 0 (place_at s.queue s.queue.begun).words c.4,
              waits_unsent (place_at s.queue s.queue.begun) (first_waits c.3),
              eq-eqb ((place_at s.queue s.queue.begun).ends + 1) _ refl,
            ));
      }
  moves_by StartEnds c =
      let u : under_way s.queue ≡ false = rests_idle s t c.0 c.1 c.2 in
      record {
        standing = begun_standing s.queue f l t.standing c.3 u;
        piece = rw (begun_busy s.queue f l t.standing c.3, begun_last s.queue f l t.standing c.3)
            (unfold piece_sound end_sound pick in
            let m : 0 < (place_at s.queue s.queue.begun).ends = waits_ends (place_at s.queue s.queue.begun) (first_waits c.3) c.4 in
            rw (
              c.4,
              le-leb ((place_at s.queue s.queue.begun).ends - 1) (place_at s.queue s.queue.begun).ends (omega arith),
              lt-ltb ((place_at s.queue s.queue.begun).ends - 1) (place_at s.queue s.queue.begun).ends (omega arith),
            ));
      }
  moves_by Stay c = record { standing = t.standing; piece = unfold piece_sound in rw (rests_idle s t c.0 c.1 c.2) }

  pub unread_by_next : (n : Next) → Chosen s n → Unread s.queue (advanced n s w).queue
  unfolding advanced
  unread_by_next GoOn c = unread_same s.queue
  unread_by_next LoadWord c = sent_unread
  unread_by_next Starve c = unread_same s.queue
  unread_by_next LoadEnd c = unread_same s.queue
  unread_by_next StartWords c = begun_unread s.queue f l t.standing c.3
  unread_by_next StartEnds c = begun_unread s.queue f l t.standing c.3
  unread_by_next Stay c = unread_same s.queue

-- the command that has ended is sent, or its words are
abbrev with_queue : Sending → Queue → Sending
with_queue s q = record { tx = s.tx; queue = q; sender = s.sender }

pub record Ends (s : Sending) (q : Queue) : Type 0 where
  pub stands : Stands (with_queue s q)
  pub unread : Unread s.queue q

module _ (s : Sending) (f : QueueFit s.queue) (l : length s.queue.places ≡ 8) (m : Moves s) where
  command_ends : (idle s.sender && under_way s.queue) ≡ true
      → Ends s (returned s.queue (s.queue.begun - 1) (command_sent (last_begun s.queue))).queue
  unfolding command_sent
  command_ends b =
      let i : idle s.sender ≡ true = and_l _ (under_way s.queue) b in
      let z : 0 < s.queue.begun = busy_begun s.queue (and_r (idle s.sender) _ b) in
      let r = sent_rests s.queue f l m.standing z (command_sent (last_begun s.queue)) refl refl refl refl refl in
      record {
        stands = record {
          standing = r.standing;
          sender = record {
            piece = rw r.rest
                (piece_rests s.sender _ _ s.sender.piece _ m.piece (idle_left s.sender i).0
                (idle_left s.sender i).1);
            rest = and_none (idle s.sender) _ r.rest;
            over = and_none (leb 18 s.sender.gone) _ (silent_rest (returned s.queue (s.queue.begun - 1) (command_sent (last_begun s.queue))).queue r.rest);
          };
        };
        unread = r.unread;
      }

  quiet_last : (q : Queue) → under_way q ≡ true → speaking q ≡ false → speaks (last_begun q) ≡ false
  quiet_last q u h = rw (lt-ltb 0 q.begun (busy_begun q u)) at h

  words_end : (idle s.sender && under_way s.queue) ≡ false → words_over s ≡ true
      → Ends s (returned s.queue (s.queue.begun - 1) (place_sent (last_begun s.queue))).queue
  unfolding place_sent
  words_end b c =
      let v : speaking s.queue ≡ true = and_r (leb 18 s.sender.gone) _ c in
      let z : 0 < s.queue.begun = speaking_begun s.queue v in
      let u : under_way s.queue ≡ true = speaks_busy s.queue v in
      let i : idle s.sender ≡ false = and_first (idle s.sender) _ b u in
      let g : 18 ≤ s.sender.gone = leb-true _ _ (and_l _ (speaking s.queue) c) in
      let h : 0 < s.sender.ends = piece_over s.sender _ _ s.sender.piece refl m.piece g i in
      let k = piece_spoken s.sender _ _ s.sender.piece (last_begun s.queue) u m.piece g refl in
      let r = words_spoken s.queue f l m.standing z (place_sent (last_begun s.queue)) refl refl refl refl refl (omega (arith, h, k.0)) in
      record {
        stands = record {
          standing = r.standing;
          sender = record {
            piece = rw r.busy ((piece_spoken s.sender _ _ s.sender.piece _ u m.piece g r.ends).1 (quiet_last (returned s.queue (s.queue.begun - 1) (place_sent (last_begun s.queue))).queue r.busy r.silent));
            rest = rw i refl;
            over = and_none (leb 18 s.sender.gone) _ r.silent;
          };
        };
        unread = r.unread;
      }

  pub finished_ends : Ends s (finished s).queue
  unfolding finished
  finished_ends =
      pick_keeps (λ (r : Returned). Ends s r.queue) _ _ _ command_ends
      (λ b. pick_keeps (λ (r : Returned). Ends s r.queue) _ _ _ (words_end b)
      (λ c. record {
        stands = record { standing = m.standing; sender = record { piece = m.piece; rest = b; over = c } };
        unread = unread_same s.queue;
      }))

pub tick_stands : (s : Sending) (may : Bool) (w c m : ℕ) → SendRules s c m → Stands s
    → Stands (tick_sender s may w).sending × Unread s.queue (tick_sender s may w).sending.queue
unfolding tick_sender sent_by
tick_stands s may w c m r t =
    let n : Next = choose s may in
    let a = rules_advanced n s w c m r (chosen s may) in
    let e : Ends (advanced n s w) (finished (advanced n s w)).queue
    = finished_ends (advanced n s w) a.queue a.eight (moves_by s w r.queue r.eight t n (chosen s may)) in (
      e.stands,
      unread_trans s.queue (advanced n s w).queue (finished (advanced n s w)).queue
          (unread_by_next s w r.queue r.eight t n (chosen s may)) e.unread,
    )
