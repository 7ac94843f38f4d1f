-- A forward's words, as they are granted, keep the rules of the sending side and of the frame (01 Frames; notes 5, 8 and 9). Assumes nothing.
use Rattle.std.specs.Prelude.{Option, None, Some}
use mathlib.Core.Path.{◌≡◌, refl}
use mathlib.Core.Bool.{Bool, true, false, not, ◌&&◌, ◌||◌}
use Prim.Native.Nat.{ℕ, suc, ◌+◌, ◌-◌, ◌≤◌, ◌<◌}
use native.Mathlib.Omega.{arith}
use lib.Dec.{ltb, leb, eqb}
use borrow.Author.Tests.{leb-true, leb-false, eqb-true, lt-ltb, le-leb, eq-eqb}
use Rattle.base.specs.Pick.{pick, pick_keeps, and_l, and_r}
use Rattle.command.specs.declared.Command.TheVariants.{Forward}
use Rattle.forwards.specs.Forward.{wish, granted, asks_store, guard, mine_after, enqueues, clears}
use Rattle.forwards.specs.declared.Granted.{Granted}
use Rattle.state.specs.Frame.{fwd, progress, mine_of, owed_by, to_come, forward_sound, collect_sound, phase_sound}
use Rattle.state.specs.Queue.{new_place, lacks, in_use, places_of}
use Rattle.state.specs.Rings.{ring_after}
use Rattle.state.specs.Sending.{stored, done}
use Rattle.state.specs.declared.Deed.{Deed}
use Rattle.state.specs.declared.Deed.TheVariants.{Leave, Enqueue, ClearAll}
use Rattle.state.specs.declared.Fwd.{Fwd}
use Rattle.state.specs.declared.Note.TheVariants.{Done, TxFull, QueueFull}
use Rattle.state.specs.declared.Phase.{Phase}
use Rattle.state.specs.declared.Phase.TheVariants.{Idle, Collecting}
use Rattle.state.specs.declared.Progress.{Progress}
use Rattle.state.specs.declared.Sending.{Sending}
use Rattle.place_rules.specs.Places.{waits}
use Rattle.kept.proofs.Stands.{Asks}
use Rattle.kept.proofs.Deeds.{rules_none, rules_put_mine, rules_put_owed, rules_enqueued, rules_cleared}
use Rattle.kept.specs.Rules.{SendRules}
use Rattle.base.specs.Truth.{or_true}
use Rattle.queue.proofs.Laws.{has_places, has_record}
use Rattle.kept.proofs.Owed.{blocked_brings_none}

-- A word stored or none, then a deed, and the phase after them: rules kept.
pub record Leaves (s : Sending) (st : Option ℕ) (d : Deed) (p : Phase) : Type 0 where
  pub sending : SendRules (done (stored s st) d) (to_come p) (mine_of p)
  pub phase : phase_sound p ≡ true
  pub asks : Asks s d

-- the rules of a forward that is collected
pub record ForwardFit (f : Fwd) (at : Progress) : Type 0 where
  pub come : at.got ≤ f.words
  pub words_most : f.words ≤ 4096
  pub ends_most : f.ends ≤ 127
  pub own : at.mine ≡ pick (at.released || at.blocked) 0 at.got
  pub unchecked : not (at.released && f.crc) ≡ true
  pub timely : (f.crc || at.released || at.blocked || ltb at.got f.words || (eqb f.words 0 && eqb f.ends 0)) ≡ true

pub forward_facts : (f : Fwd) (at : Progress) → forward_sound f at ≡ true → ForwardFit f at
forward_facts f at s = record {
  come = leb-true _ _ (search (and_l, and_r) depth 9);
  words_most = leb-true _ _ (search (and_l, and_r) depth 9);
  ends_most = leb-true _ _ (search (and_l, and_r) depth 9);
  own = eqb-true _ _ (search (and_l, and_r) depth 9);
  unchecked = search (and_l, and_r) depth 9;
  timely = search (and_l, and_r) depth 9;
}

pub forward_passes : (f : Fwd) (at : Progress) → ForwardFit f at → forward_sound f at ≡ true
forward_passes f at k =
    let n : eqb at.mine (pick (at.released || at.blocked) 0 at.got) ≡ true = eq-eqb _ _ k.own in
    rw (le-leb _ _ k.come, le-leb _ _ k.words_most, le-leb _ _ k.ends_most, n, k.unchecked, k.timely)

-- a place as a forward queues it
fresh_waits : (words ends : ℕ) (reads : Bool) → 0 < words + ends → waits (new_place words ends reads) ≡ true
unfolding new_place
fresh_waits words ends reads h = rw (lt-ltb 0 (words + ends) h)

-- what is released or blocked is timely
released_timely : (crc a b c : Bool) → (crc || true || a || b || c) ≡ true
released_timely crc a b c = rw (or_true crc)

blocked_timely : (crc released b c : Bool) → (crc || released || true || b || c) ≡ true
blocked_timely crc released b c = rw (or_true (crc || released))

module _ (s : Sending) (crc : Bool) (words ends : ℕ) (reads : Bool) where
  abbrev Collects : ℕ → ℕ → ℕ → Bool → Bool → Phase
  Collects got sum mine released blocked = Collecting (Forward crc words ends reads) got sum mine released blocked

  abbrev Goes : ℕ → ℕ → ℕ → Bool → Bool → Granted → Type 0
  Goes got sum mine released blocked g =
      Leaves s g.store g.deed
      (Collects got sum (mine_after g.deed g.store mine released) (enqueues g.deed || released) (clears g.deed || blocked))

  abbrev Fit : ℕ → ℕ → ℕ → Bool → Bool → Type 0
  Fit got sum mine released blocked = ForwardFit (fwd crc words ends reads) (progress got sum mine released blocked)

  abbrev Owes : ℕ → ℕ → Bool → Bool → Type 0
  Owes got mine released blocked = SendRules s (owed_by (Forward crc words ends reads) got released blocked) mine

  -- a blocked forward's word is dropped
  word_dropped : (got sum mine : ℕ) (released : Bool) → Owes got mine released true → Fit got sum mine released true → got < words
      → Leaves s None Leave (Collects (got + 1) sum mine released true)
  unfolding stored done ring_after to_come mine_of phase_sound collect_sound pick
  word_dropped got sum mine released r f h =
      let none : mine ≡ 0 = rw (or_true released) at f.own in
      record {
        sending = rw (blocked_brings_none _ (got + 1) released) (rw (blocked_brings_none _ got released) at r);
        phase = forward_passes (fwd crc words ends reads) (progress (got + 1) sum mine released true) (record {
          come = omega arith;
          words_most = f.words_most;
          ends_most = f.ends_most;
          own = rw (or_true released) none;
          unchecked = f.unchecked;
          timely = blocked_timely crc released _ _;
        });
        asks = tt;
      }

  -- a transmit clear blocks it
  forward_cleared : (st : Option ℕ) (got sum c m : ℕ) (released : Bool) → SendRules s c m → got ≤ words → words ≤ 4096 → ends ≤ 127
      → not (released && crc) ≡ true → Leaves s st ClearAll (Collects got sum 0 released true)
  unfolding to_come mine_of phase_sound collect_sound
  forward_cleared st got sum c m released r h w e u = record {
    sending = rw (blocked_brings_none (Forward crc words ends reads) got released) (rules_cleared s st c m r);
    phase = forward_passes (fwd crc words ends reads) (progress got sum 0 released true) (record {
      come = h;
      words_most = w;
      ends_most = e;
      own = rw (or_true released) (unfold pick in refl);
      unchecked = u;
      timely = blocked_timely crc released _ _;
    });
    asks = tt;
  }

  -- a word of a released forward goes to its place
  word_sent_lem : (got sum mine w : ℕ) → Owes got mine true false → Fit got sum mine true false → got < words → s.tx.count < 512
      → Leaves s (Some w) Leave (Collects (got + 1) sum mine true false)
  unfolding done to_come mine_of phase_sound collect_sound owed_by pick
  word_sent_lem got sum mine w r f h c =
      let e : words - got ≡ suc (words - (got + 1)) = omega arith in
      record {
        sending = rules_put_owed s w (words - (got + 1)) mine (rw e at r) c;
        phase = forward_passes (fwd crc words ends reads) (progress (got + 1) sum mine true false) (record {
          come = omega arith;
          words_most = f.words_most;
          ends_most = f.ends_most;
          own = f.own;
          unchecked = f.unchecked;
          timely = released_timely crc false _ _;
        });
        asks = tt;
      }

  -- a word of one that is not released is its own
  word_gathered : (got sum mine w : ℕ) → Owes got mine false false → Fit got sum mine false false → got < words → s.tx.count < 512
      → (crc || ltb (got + 1) words) ≡ true → Leaves s (Some w) Leave (Collects (got + 1) sum (mine + 1) false false)
  unfolding done to_come mine_of phase_sound collect_sound owed_by pick
  word_gathered got sum mine w r f h c t = record {
    sending = rules_put_mine s w mine r c;
    phase = forward_passes (fwd crc words ends reads) (progress (got + 1) sum (mine + 1) false false) (record {
      come = omega arith;
      words_most = f.words_most;
      ends_most = f.ends_most;
      own = omega (arith, f.own);
      unchecked = f.unchecked;
      timely = in_time crc t;
    });
    asks = tt;
  }
    where
      in_time : (k : Bool) → (k || ltb (got + 1) words) ≡ true → (k || false || false || ltb (got + 1) words || (eqb words 0 && eqb ends 0)) ≡ true
      in_time true e = refl
      in_time false e = rw e

  -- a word that releases
  word_queued : (got sum mine w : ℕ) → Owes got mine false false → Fit got sum mine false false → got < words → s.tx.count < 512
      → in_use s.queue + places_of (new_place words ends reads) ≤ 8 → crc ≡ false → Leaves s (Some w) (Enqueue (new_place words ends reads)) (Collects (got + 1) sum 0 true false)
  unfolding to_come mine_of phase_sound collect_sound owed_by pick new_place
  word_queued got sum mine w r f h c u k = record {
    sending =
        rules_enqueued (stored s (Some w)) (new_place words ends reads) (words - (got + 1)) (mine + 1) (rules_put_mine s w mine r c)
        (unfold stored in has_record s.queue (new_place words ends reads) r.eight u) f.words_most
        f.ends_most
        (omega (arith, f.own))
        (omega arith);
    phase = forward_passes (fwd crc words ends reads) (progress (got + 1) sum 0 true false) (record {
      come = omega arith;
      words_most = f.words_most;
      ends_most = f.ends_most;
      own = refl;
      unchecked = rw k;
      timely = released_timely crc false _ _;
    });
    asks = (u, fresh_waits words ends reads (omega arith));
  }

  -- a data word, whether it releases or not
  pub word_goes : (got sum mine w : ℕ) (blocked released t : Bool) → Owes got mine released blocked → Fit got sum mine released blocked → got < words
      → (t ≡ true → (crc ≡ false) × (released ≡ false)) → (t ≡ false → released ≡ false → (crc || ltb (got + 1) words) ≡ true)
      → Goes (got + 1) sum mine released blocked (guard blocked s.tx.count s.queue (wish (Some w) t (new_place words ends reads)))
  unfolding guard asks_store pick mine_after enqueues clears
  word_goes got sum mine w true released t r f h p q = word_dropped got sum mine released r f h
  word_goes got sum mine w false true true r f h p q = let z : ◌≡◌ {A = ℕ} 0 1 = cc (p refl).1 in absurd (omega arith)
  word_goes got sum mine w false true false r f h p q =
      pick_keeps (Goes (got + 1) sum mine true false) (leb 512 s.tx.count) (granted None ClearAll TxFull) (granted (Some w) Leave Done)
      (λ c. forward_cleared None (got + 1) sum _ _ true r (omega arith) f.words_most f.ends_most f.unchecked)
      (λ c. word_sent_lem got sum mine w r f h (leb-false _ _ c))
  word_goes got sum mine w false false true r f h p q =
      pick_keeps (Goes (got + 1) sum mine false false) (leb 512 s.tx.count) (granted None ClearAll TxFull)
      (pick (lacks s.queue (new_place words ends reads)) (granted (Some w) ClearAll QueueFull) (granted (Some w) (Enqueue (new_place words ends reads)) Done))
      (λ c. forward_cleared None (got + 1) sum _ _ false r (omega arith) f.words_most f.ends_most f.unchecked)
      (λ c. pick_keeps (Goes (got + 1) sum mine false false) (lacks s.queue (new_place words ends reads)) (granted (Some w) ClearAll QueueFull)
      (granted (Some w) (Enqueue (new_place words ends reads)) Done)
      (λ u. forward_cleared (Some w) (got + 1) sum _ _ false r (omega arith) f.words_most f.ends_most f.unchecked)
      (λ u. word_queued got sum mine w r f h (leb-false _ _ c) (has_places s.queue _ u) (p refl).0))
  word_goes got sum mine w false false false r f h p q =
      pick_keeps (Goes (got + 1) sum mine false false) (leb 512 s.tx.count) (granted None ClearAll TxFull) (granted (Some w) Leave Done)
      (λ c. forward_cleared None (got + 1) sum _ _ false r (omega arith) f.words_most f.ends_most f.unchecked)
      (λ c. word_gathered got sum mine w r f h (leb-false _ _ c) (q refl refl))

  -- the command word
  begun_waits : (sum : ℕ) (blocked : Bool) → SendRules s 0 0 → words ≤ 4096 → ends ≤ 127
      → (crc || false || blocked || ltb 0 words || (eqb words 0 && eqb ends 0)) ≡ true → Leaves s None Leave (Collects 0 sum 0 false blocked)
  unfolding stored done ring_after to_come mine_of phase_sound collect_sound owed_by pick
  begun_waits sum blocked r w e t = record {
    sending = r;
    phase = forward_passes (fwd crc words ends reads) (progress 0 sum 0 false blocked) (record {
      come = omega arith;
      words_most = w;
      ends_most = e;
      own = none blocked;
      unchecked = refl;
      timely = t;
    });
    asks = tt;
  }
    where
      none : (k : Bool) → ◌≡◌ {A = ℕ} 0 (pick (false || k) 0 0)
      none true = refl
      none false = refl

  begun_queued : (sum : ℕ) → SendRules s 0 0 → words ≡ 0 → ends ≤ 127 → 0 < ends → in_use s.queue + places_of (new_place words ends reads) ≤ 8 → crc ≡ false
      → Leaves s None (Enqueue (new_place words ends reads)) (Collects 0 sum 0 true false)
  unfolding to_come mine_of phase_sound collect_sound owed_by pick new_place stored ring_after
  begun_queued sum r w e n u k = record {
    sending = rules_enqueued s (new_place words ends reads) (words - 0) 0 r (has_record s.queue (new_place words ends reads) r.eight u) (omega arith) e
        (omega arith) (omega arith);
    phase = forward_passes (fwd crc words ends reads) (progress 0 sum 0 true false) (record {
      come = omega arith;
      words_most = omega arith;
      ends_most = e;
      own = refl;
      unchecked = rw k;
      timely = released_timely crc false _ _;
    });
    asks = (u, fresh_waits words ends reads (omega arith));
  }

  pub begun_goes : (sum : ℕ) (blocked t : Bool) → SendRules s 0 0 → words ≤ 4096 → ends ≤ 127 → (t ≡ true → (crc ≡ false) × (words ≡ 0) × (0 < ends))
      → (t ≡ false → (crc || false || false || ltb 0 words || (eqb words 0 && eqb ends 0)) ≡ true)
      → Goes 0 sum 0 false blocked (guard blocked s.tx.count s.queue (wish None t (new_place words ends reads)))
  unfolding guard asks_store pick mine_after enqueues clears
  begun_goes sum true true r w e p o = begun_waits sum true r w e (blocked_timely crc false _ _)
  begun_goes sum true false r w e p o = begun_waits sum true r w e (blocked_timely crc false _ _)
  begun_goes sum false true r w e p o =
      pick_keeps (Goes 0 sum 0 false false) (lacks s.queue (new_place words ends reads)) (granted None ClearAll QueueFull)
      (granted None (Enqueue (new_place words ends reads)) Done)
      (λ u. forward_cleared None 0 sum 0 0 false r (omega arith) w e refl)
      (λ u. begun_queued sum r (p refl).1 e (p refl).2 (has_places s.queue _ u) (p refl).0)
  begun_goes sum false false r w e p o = begun_waits sum false r w e (o refl)

  -- the CRC word of one that has come whole
  closed_left : (mine : ℕ) → SendRules s 0 mine → mine ≡ 0 → Leaves s None Leave Idle
  unfolding stored done ring_after to_come mine_of phase_sound
  closed_left mine r m = record { sending = rules_none s 0 mine r refl m; phase = refl; asks = tt }

  closed_queued : (mine : ℕ) → SendRules s 0 mine → mine ≡ words → 0 < words + ends → words ≤ 4096 → ends ≤ 127
      → in_use s.queue + places_of (new_place words ends reads) ≤ 8 → Leaves s None (Enqueue (new_place words ends reads)) Idle
  unfolding stored ring_after to_come mine_of phase_sound new_place
  closed_queued mine r m n w e u = record {
    sending = rules_enqueued s (new_place words ends reads) 0 mine r (has_record s.queue (new_place words ends reads) r.eight u) w e (omega arith) n;
    phase = refl;
    asks = (u, fresh_waits words ends reads n);
  }

  closed_cleared : (mine : ℕ) → SendRules s 0 mine → Leaves s None ClearAll Idle
  unfolding to_come mine_of phase_sound
  closed_cleared mine r = record { sending = rules_cleared s None 0 mine r; phase = refl; asks = tt }

  pub closed_goes : (mine : ℕ) (blocked t : Bool) → SendRules s 0 mine → words ≤ 4096 → ends ≤ 127 → (blocked ≡ true → mine ≡ 0)
      → (t ≡ false → mine ≡ 0) → (t ≡ true → blocked ≡ false → mine ≡ words) → (t ≡ true → 0 < words + ends)
      → Leaves s None (guard blocked s.tx.count s.queue (wish None t (new_place words ends reads))).deed Idle
  unfolding guard asks_store pick
  closed_goes mine true true r w e a n m o = closed_left mine r (a refl)
  closed_goes mine true false r w e a n m o = closed_left mine r (a refl)
  closed_goes mine false true r w e a n m o =
      pick_keeps (λ (g : Granted). Leaves s None g.deed Idle) (lacks s.queue (new_place words ends reads)) (granted None ClearAll QueueFull)
      (granted None (Enqueue (new_place words ends reads)) Done)
      (λ u. closed_cleared mine r)
      (λ u. closed_queued mine r (m refl refl) (o refl) w e (has_places s.queue _ u))
  closed_goes mine false false r w e a n m o = closed_left mine r (n refl)
