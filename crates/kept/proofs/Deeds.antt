-- What a frame does to the sending side keeps its rules, with what the frame then has to bring and has in TX. Assumes nothing.
use Rattle.std.specs.Prelude.{Option, None, Some}
use mathlib.Core.Path.{◌≡◌, refl}
use Prim.Native.Nat.{ℕ, suc, ◌+◌, ◌≤◌, ◌<◌}
use native.Mathlib.Omega.{arith}
use Rattle.line.specs.Format.{piece_length}
use Rattle.state.specs.Rings.{ring_after}
use Rattle.state.specs.Sending.{owing, stored, done}
use Rattle.state.specs.declared.Deed.TheVariants.{Enqueue, TakeBack, ClearAll, ResetAll}
use Rattle.state.specs.declared.Place.{Place}
use Rattle.state.specs.declared.Ring.{Ring}
use Rattle.state.specs.declared.Sending.{Sending}
use Rattle.kept.proofs.Queue.{fit_queued, eight_queued, fit_emptied, words_queued, words_emptied, some_queued, some_emptied, last_left_queued}
use Rattle.kept.specs.Rules.{SendRules}

-- a frame that has nothing to bring and nothing in TX may be forgotten
pub rules_none : (s : Sending) (c m : ℕ) → SendRules s c m → c ≡ 0 → m ≡ 0 → SendRules s 0 0
rules_none s c m r ec em = rw (ec, em) at r

pub rules_kept : (s : Sending) (c m : ℕ) → SendRules s c m → SendRules (stored s None) c m
unfolding stored ring_after
rules_kept s c m r = r

-- a word stored: one of the frame's own while it is not released, afterwards one less to bring
pub rules_put_mine : (s : Sending) (w m : ℕ) → SendRules s 0 m → s.tx.count < 512 → SendRules (stored s (Some w)) 0 (m + 1)
unfolding stored ring_after
rules_put_mine s w m r h = record {
  tx = record { head = r.tx.head; count = omega arith };
  queue = r.queue;
  eight = r.eight;
  gone = r.gone;
  left = r.left;
  ends = r.ends;
  sum = omega (arith, r.sum);
  room = omega arith;
  some = r.some;
  apart = λ z. absurd (omega arith);
}

pub rules_put_owed : (s : Sending) (w c m : ℕ) → SendRules s (suc c) m → s.tx.count < 512 → SendRules (stored s (Some w)) c m
unfolding stored ring_after
rules_put_owed s w c m r h = record {
  tx = record { head = r.tx.head; count = omega arith };
  queue = r.queue;
  eight = r.eight;
  gone = r.gone;
  left = r.left;
  ends = r.ends;
  sum = omega (arith, r.sum);
  room = omega (arith, r.room);
  some = r.some;
  apart = λ z. r.apart (omega arith);
}

-- the frame's words go to the place that it queues; what the place lacks of them is still to come
pub rules_enqueued : (s : Sending) (p : Place) (c m : ℕ) → SendRules s 0 m → s.queue.used < 8 → p.words ≤ 4096 → p.ends ≤ 127 → m + c ≡ p.words
    → 0 < p.words + p.ends → SendRules (done s (Enqueue p)) c 0
unfolding done
rules_enqueued s p c m r h w e n o = record {
  tx = r.tx;
  queue = fit_queued s.queue p r.queue h w e;
  eight = eight_queued s.queue p r.eight;
  gone = r.gone;
  left = r.left;
  ends = r.ends;
  sum = rw (words_queued s.queue p r.queue r.eight h) (omega (arith, r.sum));
  room = rw (last_left_queued s p r.queue r.eight h w e) (omega arith);
  some = some_queued s.queue p r.queue r.eight h r.some o;
  apart = λ z. refl;
}

pub rules_taken_back : (s : Sending) (m : ℕ) → SendRules s 0 m → SendRules (done s (TakeBack m)) 0 0
unfolding done
rules_taken_back s m r = record {
  tx = record { head = r.tx.head; count = omega (arith, r.tx.count) };
  queue = r.queue;
  eight = r.eight;
  gone = r.gone;
  left = r.left;
  ends = r.ends;
  sum = omega (arith, r.sum);
  room = omega arith;
  some = r.some;
  apart = λ z. refl;
}

-- a transmit clear, after a word stored or none
head_stays : (r : Ring) (st : Option ℕ) → (ring_after r st).head ≡ r.head
unfolding ring_after
head_stays r None = refl
head_stays r (Some w) = refl

pub rules_cleared : (s : Sending) (st : Option ℕ) (c m : ℕ) → SendRules s c m → SendRules (done (stored s st) ClearAll) 0 0
unfolding done stored owing
rules_cleared s st c m r = record {
  tx = record { head = rw (head_stays s.tx st) r.tx.head; count = omega arith };
  queue = fit_emptied s.queue r.queue;
  eight = r.eight;
  gone = omega arith;
  left = omega arith;
  ends = omega arith;
  sum = rw words_emptied (omega arith);
  room = omega arith;
  some = some_emptied s.queue;
  apart = λ z. refl;
}

-- a soft reset: refused unless the sender is idle
pub rules_reset : (s : Sending) (c m : ℕ) → SendRules s c m → s.sender.left ≡ 0 → SendRules (done s ResetAll) 0 0
unfolding done
rules_reset s c m r h = record {
  tx = record { head = r.tx.head; count = omega arith };
  queue = fit_emptied s.queue r.queue;
  eight = r.eight;
  gone = r.gone;
  left = r.left;
  ends = r.ends;
  sum = rw words_emptied (omega arith);
  room = omega arith;
  some = some_emptied s.queue;
  apart = λ z. refl;
}
