-- Forwards: the guard of notes 5, 8 and 9 where it grants, and what each word of a forward does then. Assumes nothing.
use Rattle.std.specs.Prelude.{Option, None, Some}
use mathlib.Core.Path.{◌≡◌, refl, ap, sym, ◌∙◌}
use mathlib.Core.Bool.{Bool, true, false, ◌&&◌, ◌||◌}
use mathlib.Core.List.{List, [], ◌∷◌, ◌++◌, append_assoc, append-nil}
use Prim.Native.Nat.{ℕ, zero, suc, ◌+◌, ◌-◌, ◌≤◌, ◌<◌}
use native.Mathlib.Omega.{arith}
use lib.Dec.{ltb, leb}
use borrow.Author.Tests.{leb-false, lt-ltb}
use lib.ListN.{length, take, length-append}
use lib.Seq.{take_all, take-append_seam}
use Rattle.base.specs.Pick.{pick_keeps, and_l}
use Rattle.command.specs.declared.Command.TheVariants.{Forward}
use Rattle.state.specs.Rings.{ring_after}
use Rattle.state.specs.Queue.{new_place, places_of, in_use}
use Rattle.state.specs.Sending.{stored}
use Rattle.state.specs.declared.Deed.TheVariants.{Leave, Enqueue, TakeBack}
use Rattle.state.specs.declared.Note.TheVariants.{Done}
use Rattle.state.specs.declared.Phase.TheVariants.{Idle, Collecting}
use Rattle.state.specs.declared.Place.{Place}
use Rattle.state.specs.declared.Sending.{Sending}
use Rattle.forwards.specs.Forward.{asks_store, granted, wish, guard}
use Rattle.forwards.specs.declared.Granted.{Granted}
use Rattle.bridge.specs.Runs.{faults}
use Rattle.order.specs.Accepted.{Log, came, accepts, collects, joined, settle}
use Rattle.base.specs.Truth.{never, or_none, and_last}
use Rattle.state.specs.declared.Queue.{Queue}
use Rattle.queue.proofs.Laws.{has_places}
use Rattle.order.proofs.Account.{counted, concat, lengths, concat_snoc, lengths_snoc}
use Rattle.order.proofs.Sending.{less_by, more_by}
use Rattle.order.proofs.Frames.{Shut, Pending, Released, Open, InFrame, Kept, Goes}

-- Without note 8 or 9 the guard granted the wish: there was room in TX, and as many places as it needs.
module _ (P : Granted → Type 0) (count : ℕ) (q : Queue) (st : Option ℕ) (release : Bool) (p : Place) where
  pub guard_grants : (blocked : Bool) → blocked ≡ false
      → ((asks_store st ≡ true → count < 512) → release ≡ true → in_use q + places_of p ≤ 8 → P (granted st (Enqueue p) Done))
      → ((asks_store st ≡ true → count < 512) → release ≡ false → P (granted st Leave Done))
      → faults (guard blocked count q (wish st release p)).note ≡ false → P (guard blocked count q (wish st release p))
  unfolding guard faults
  guard_grants blocked b enqueue leave =
      pick_keeps Q _ _ _ (λ t k. never blocked (and_l blocked (asks_store st || release) t) b)
      (λ t. pick_keeps Q _ _ _ (λ u k. never true refl k)
      (λ u. pick_keeps Q _ _ _
      (λ r. pick_keeps Q _ _ _ (λ v k. never true refl k) (λ v k. enqueue (room u) r (has_places q p v))) (λ r k. leave (room u) r)))
    where
      Q : Granted → Type 0
      Q r = faults r.note ≡ false → P r

      room : (asks_store st && leb 512 count) ≡ false → asks_store st ≡ true → count < 512
      room u a = leb-false 512 count (and_last (asks_store st) (leb 512 count) u a)

-- The frame's words, with its place where it has words.
nil_of : (ws : List ℕ) → length ws ≡ 0 → ws ≡ []
nil_of [] e = refl
nil_of (x ∷ ws) e = absurd (omega arith)

over : (D : List (List ℕ)) (ws : List ℕ) (a : Bool) (S K : List ℕ) → S ≡ concat (joined a D ws) → K ≡ lengths (joined a D ws)
    → Shut (settle false D ws a) S K
unfolding settle
over D ws a S K s k = record { no_words = refl; not_accepted = refl; stored_are = s; counts_are = k }

over_words : (D : List (List ℕ)) (k : ℕ) (ws : List ℕ) (a : Bool) (S K : List ℕ) → a ≡ ltb 0 k → length ws ≡ k
    → S ≡ concat D ++ ws → K ≡ lengths D ++ counted k [] → Shut (settle false D ws a) S K
unfolding counted joined
over_words D zero ws a S K t e s k =
    over D ws a S K (rw t (s ∙ simp (nil_of ws e, append-nil))) (rw t (k ∙ simp append-nil))
over_words D (suc n) ws a S K t e s k =
    let y : a ≡ true = t ∙ lt-ltb 0 (suc n) (omega arith) in
    over D ws a S K (rw y (s ∙ sym (concat_snoc D ws))) (rw y (k ∙ sym (rw (lengths_snoc, e))))

over_none : (D : List (List ℕ)) (ws : List ℕ) (a : Bool) (S K : List ℕ) → a ≡ false → S ≡ concat D → K ≡ lengths D
    → Shut (settle false D ws a) S K
unfolding joined
over_none D ws a S K t s k = over D ws a S K (rw t s) (rw t k)

one_longer : (ws : List ℕ) (w n : ℕ) → length ws ≡ n → length (ws ++ (w ∷ [])) ≡ n + 1
one_longer ws w n e = rw length-append (omega arith)

more_words : (D : List (List ℕ)) (ws S : List ℕ) (w : ℕ) → S ≡ concat D ++ ws → S ++ (w ∷ []) ≡ concat D ++ (ws ++ (w ∷ []))
more_words D ws S w e = rw (e, append_assoc)

back_words : (X ws S : List ℕ) (n : ℕ) → S ≡ X ++ ws → length ws ≡ n → take (length S - n) S ≡ X
back_words X ws S n e l =
    let k : length (X ++ ws) - n ≡ length X = rw length-append (omega arith) in
    rw (e, k) (take-append_seam X ws)

module _ (s : Sending) (g : Log) (S K : List ℕ) where
  -- The CRC word: of a forward that was queued, of one that queues nothing, of one that is queued now, of one whose words are taken back.
  pub over_released : (crc : Bool) (k got : ℕ) → Released crc k got g S K → k ≤ got → Goes s g S K Idle None Leave true
  unfolding came accepts less_by more_by collects Kept
  over_released crc k got h l =
      record {
        storable = tt;
        feasible = tt;
        kept =
            over_words g.closed k g.words _ S K (or_none g.accepted false refl ∙ h.accepted_is) (omega (arith, h.came_are, h.few))
            h.stored_are h.counts_are;
        ends = λ e. refl;
      }

  pub over_pending : (crc : Bool) (k got mine : ℕ) → Pending crc k got mine g S K → k ≡ 0 → Goes s g S K Idle None Leave true
  unfolding came accepts less_by more_by collects Kept
  over_pending crc k got mine h z =
      let n : g.words ≡ [] = nil_of g.words (omega (arith, h.came_are, h.few)) in
      record {
        storable = tt;
        feasible = tt;
        kept =
            over_none g.closed g.words _ S K (or_none g.accepted false refl ∙ h.not_accepted)
            (h.stored_are ∙ simp (n, append-nil)) h.counts_are;
        ends = λ e. refl;
      }

  pub over_queued : (crc : Bool) (k got mine ends : ℕ) (reads : Bool) → Pending crc k got mine g S K → k ≤ got → in_use s.queue + places_of (new_place k ends reads) ≤ 8
      → Goes s g S K Idle None (Enqueue (new_place k ends reads)) true
  unfolding came accepts less_by more_by collects Kept new_place stored
  over_queued crc k got mine ends reads h l u =
      record {
        storable = tt;
        feasible = u;
        kept =
            over_words g.closed k g.words _ S _ (rw h.not_accepted) (omega (arith, h.came_are, h.few)) h.stored_are
            (ap (λ l. l ++ counted k []) h.counts_are);
        ends = λ e. refl;
      }

  pub over_back : (crc : Bool) (k got mine : ℕ) → Pending crc k got mine g S K → mine ≤ s.tx.count
      → Goes s g S K Idle None (TakeBack mine) true
  unfolding came accepts less_by more_by collects Kept stored ring_after
  over_back crc k got mine h u =
      record {
        storable = tt;
        feasible = u;
        kept =
            over_none g.closed g.words _ _ K (or_none g.accepted false refl ∙ h.not_accepted)
            (back_words (concat g.closed) g.words S mine h.stored_are (h.came_are ∙ sym h.mine_are)) h.counts_are;
        ends = λ e. refl;
      }

  pub over_nothing : (mine : ℕ) → Shut g S K → mine ≡ 0 → Goes s g S K Idle None (TakeBack mine) true
  unfolding came accepts less_by more_by collects Kept stored ring_after
  over_nothing mine h z =
      record {
        storable = tt;
        feasible = omega arith;
        kept =
            over_none g.closed g.words _ _ K (or_none g.accepted false refl ∙ h.not_accepted)
            (take_all (length S - mine) S (omega arith) ∙ h.stored_are) h.counts_are;
        ends = λ e. refl;
      }

  module _ (crc : Bool) (k ends : ℕ) (reads : Bool) (sum : ℕ) (blocked : Bool) (b : blocked ≡ false) where
    -- The command word: a place of ENDs alone is queued, or nothing yet.
    pub begun_queued : Shut g S K → in_use s.queue + places_of (new_place k ends reads) ≤ 8 → crc ≡ false
        → Goes s g S K (Collecting (Forward crc k ends reads) 0 sum 0 true blocked) None (Enqueue (new_place k ends reads)) false
    unfolding came accepts less_by more_by collects Kept InFrame Open settle new_place stored
    begun_queued h u c =
        record {
          storable = tt;
          feasible = u;
          kept = (
            record {
              accepted_is = rw h.not_accepted;
              stored_are = rw h.no_words (h.stored_are ∙ sym (append-nil (concat g.closed)));
              counts_are = ap (λ l. l ++ counted k []) h.counts_are;
              came_are = rw h.no_words;
              few = omega arith;
              by_words = c;
            },
            b,
          );
          ends = λ e. never false e refl;
        }

    pub begun_pending : Shut g S K → Goes s g S K (Collecting (Forward crc k ends reads) 0 sum 0 false blocked) None Leave false
    unfolding came accepts less_by more_by collects Kept InFrame Open settle
    begun_pending h =
        record {
          storable = tt;
          feasible = tt;
          kept = (
            record {
              not_accepted = or_none g.accepted false refl ∙ h.not_accepted;
              stored_are = rw h.no_words (h.stored_are ∙ sym (append-nil (concat g.closed)));
              counts_are = h.counts_are;
              came_are = rw h.no_words;
              few = omega arith;
              mine_are = refl;
              waits = λ c e. sym e;
            },
            b,
          );
          ends = λ e. never false e refl;
        }

    module _ (got w : ℕ) (small : w < 65536) (room : s.tx.count < 512) (due : got < k) where
      -- A data word: it releases, or not yet, or its forward was released before.
      pub word_queued : (mine : ℕ) → Pending crc k got mine g S K → in_use s.queue + places_of (new_place k ends reads) ≤ 8 → crc ≡ false
          → Goes s g S K (Collecting (Forward crc k ends reads) (got + 1) sum 0 true blocked) (Some w) (Enqueue (new_place k ends reads)) false
      unfolding came accepts less_by more_by collects Kept InFrame Open settle new_place stored
      word_queued mine h u c =
          record {
            storable = (small, room);
            feasible = u;
            kept = (
              record {
                accepted_is = rw h.not_accepted;
                stored_are = more_words g.closed g.words S w h.stored_are;
                counts_are = ap (λ l. l ++ counted k []) h.counts_are;
                came_are = one_longer g.words w got h.came_are;
                few = omega arith;
                by_words = c;
              },
              b,
            );
            ends = λ e. never false e refl;
          }

      pub word_pending : (mine : ℕ) → Pending crc k got mine g S K → (crc ≡ false → got + 1 ≡ k → k ≡ 0)
          → Goes s g S K (Collecting (Forward crc k ends reads) (got + 1) sum (mine + 1) false blocked) (Some w) Leave false
      unfolding came accepts less_by more_by collects Kept InFrame Open settle
      word_pending mine h v =
          record {
            storable = (small, room);
            feasible = tt;
            kept = (
              record {
                not_accepted = or_none g.accepted false refl ∙ h.not_accepted;
                stored_are = more_words g.closed g.words S w h.stored_are;
                counts_are = h.counts_are;
                came_are = one_longer g.words w got h.came_are;
                few = omega arith;
                mine_are = ap (λ n. n + 1) h.mine_are;
                waits = v;
              },
              b,
            );
            ends = λ e. never false e refl;
          }

      pub word_released : (mine : ℕ) → Released crc k got g S K
          → Goes s g S K (Collecting (Forward crc k ends reads) (got + 1) sum mine true blocked) (Some w) Leave false
      unfolding came accepts less_by more_by collects Kept InFrame Open settle
      word_released mine h =
          record {
            storable = (small, room);
            feasible = tt;
            kept = (
              record {
                accepted_is = or_none g.accepted false refl ∙ h.accepted_is;
                stored_are = more_words g.closed g.words S w h.stored_are;
                counts_are = h.counts_are;
                came_are = one_longer g.words w got h.came_are;
                few = omega arith;
                by_words = h.by_words;
              },
              b,
            );
            ends = λ e. never false e refl;
          }
