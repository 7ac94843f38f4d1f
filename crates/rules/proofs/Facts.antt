-- The record rules: the test and the facts say the same, and the power-up values pass. Assumes nothing.
use mathlib.Core.Path.{◌≡◌, refl}
use mathlib.Core.Bool.{Bool, true, false, not, ◌&&◌}
use mathlib.Core.List.{List, [], ◌∷◌}
use Prim.Native.Nat.{ℕ, zero, suc, ◌+◌, ◌-◌, ◌≤◌, ◌<◌}
use native.Mathlib.Omega.{arith}
use lib.ListN.{take, drop, get_or}
use lib.Seq.{get_or-drop}
use borrow.Author.Tests.{ltb-true, ltb-false, leb-true, leb-false, eqb-true, lt-ltb, le-ltb, le-leb, lt-leb, eq-eqb, not-true}
use lib.Dec.{ltb, leb}
use Rattle.base.specs.Pick.{pick, pick_keeps, and_l, and_r, and_both}
use Rattle.line.specs.Format.{piece_length}
use Rattle.line.specs.declared.Piece.{Piece}
use Rattle.line.specs.declared.Piece.TheVariants.{Pause, StartBit, WordPiece, EndPiece}
use Rattle.layout.specs.declared.Layout.{Layout}
use Rattle.layout.specs.declared.Layout.TheVariants.{Ours, Makers}
use Rattle.registers.specs.Registers.{table_of, reset_regs, power_up_flags, power_up_control, blocking, regs_sound}
use Rattle.state.specs.Queue.{no_place, place_at, waiting, words_of, under_way, is_done, last_begun, speaking, places_in}
use Rattle.state.specs.Sending.{idle}
use Rattle.state.specs.Frame.{mine_of, to_come, phase_sound}
use Rattle.state.specs.Facts.{RingFit, QueueFit, SendFit, HostFit}
use Rattle.state.specs.Power.{power_up_in, power_up_bad_in, bad_control}
use Rattle.state.specs.declared.Ring.{Ring}
use Rattle.state.specs.declared.Place.{Place}
use Rattle.state.specs.declared.Queue.{Queue}
use Rattle.state.specs.declared.Sender.{Sender}
use Rattle.state.specs.declared.Sending.{Sending}
use Rattle.state.specs.declared.Phase.{Phase}
use Rattle.state.specs.declared.Bridge.{Bridge}
use Rattle.queue.proofs.Laws.{busy_begun}
use Rattle.rules.specs.Sound.{ring_sound, last_left, ledger, sound}
use Rattle.place_rules.specs.Places.{place_sound, is_fresh, waits, awaits, role_sound, slot_sound, slots_below, queue_sound}
use Rattle.line_rules.specs.Line.{piece_sound, sender_sound, ear_sound, marks_sound, reader_sound, end_sound}
use Rattle.frame_rules.specs.Frames.{otp_sound, control_sound, is_unmarked, algorithm_sound}
use Rattle.rules.specs.Facts.{Standing, SenderFit, Balanced, Sound, all_some}

pub ring_fit : (size : ℕ) (r : Ring) → ring_sound size r ≡ true → RingFit size r
ring_fit size r h = record { head = ltb-true _ _ (search (and_l, and_r)); count = leb-true _ _ (search (and_l, and_r)) }

pub ring_from : (size : ℕ) (r : Ring) → RingFit size r → ring_sound size r ≡ true
ring_from size r f = and_both _ _ (lt-ltb _ _ f.head) (le-leb _ _ f.count)

-- the test of all is the test of each
slots_at : (q : Queue) (n i : ℕ) → slots_below q n ≡ true → i < n → slot_sound q i ≡ true
unfolding slots_below
slots_at q zero i h l = absurd (omega arith)
slots_at q (suc n) i h l = go (ltb i n) refl (λ d. slots_at q n i (and_l (slots_below q n) (slot_sound q n) h) d)
  where
    go : (t : Bool) → ltb i n ≡ t → (i < n → slot_sound q i ≡ true) → slot_sound q i ≡ true
    go true e f = f (ltb-true _ _ e)
    go false e f =
        let d : n ≤ i = ltb-false _ _ e in
        let m : i ≡ n = omega arith in rw m (and_r (slots_below q n) (slot_sound q n) h)

slots_from : (q : Queue) → ((i : ℕ) → slot_sound q i ≡ true) → (n : ℕ) → slots_below q n ≡ true
unfolding slots_below
slots_from q a zero = refl
slots_from q a (suc n) = and_both _ _ (slots_from q a n) (a n)

place_words : (p : Place) → place_sound p ≡ true → p.words ≤ 4096
place_words p h = leb-true _ _ (search (and_l, and_r))

place_ends : (p : Place) → place_sound p ≡ true → p.ends ≤ 127
place_ends p h = leb-true _ _ (search (and_l, and_r))

-- the rule of a place in use, and the one that it is by where it stands
in_use : (q : Queue) (i : ℕ) → slot_sound q i ≡ true → i < q.used
    → (place_sound (place_at q i) && role_sound q.begun i (place_at q i)) ≡ true
unfolding slot_sound pick
in_use q i h l = rw (lt-leb q.used i l) at h

role_waits : (begun i : ℕ) (p : Place) → role_sound begun i p ≡ true → begun ≤ i → waits p ≡ true
unfolding role_sound pick
role_waits begun i p h l = rw (le-leb begun i l) at h

role_awaits : (begun i : ℕ) (p : Place) → role_sound begun i p ≡ true → suc i < begun → awaits p ≡ true
unfolding role_sound pick
role_awaits begun i p h l =
    let a : leb begun i ≡ false = lt-leb begun i (omega arith) in
    let b : ltb (i + 1) begun ≡ true = lt-ltb (i + 1) begun (omega arith) in
    rw (a, b) at h

role_youngest : (begun i : ℕ) (p : Place) → role_sound begun i p ≡ true → begun ≡ suc i → is_done p ≡ false
unfolding role_sound pick
role_youngest begun i p h e =
    let a : leb begun i ≡ false = lt-leb begun i (omega arith) in
    let b : ltb (i + 1) begun ≡ false = le-ltb (i + 1) begun (omega arith) in
    not-true (is_done p) (rw (a, b) at h)

module _ (q : Queue) (h : queue_sound q ≡ true) where
  begun_used : q.begun ≤ q.used
  begun_used = leb-true _ _ (search (and_l, and_r))

  used_most : q.used ≤ 8
  used_most = leb-true _ _ (search (and_l, and_r))

  slot : (i : ℕ) → i < q.used → (place_sound (place_at q i) && role_sound q.begun i (place_at q i)) ≡ true
  slot i l = in_use q i (slots_at q 8 i (search (and_l, and_r)) (omega (arith, used_most))) l

  role : (i : ℕ) → i < q.used → role_sound q.begun i (place_at q i) ≡ true
  role i l = and_r (place_sound (place_at q i)) _ (slot i l)

  fits : (i : ℕ) → i < q.used → place_sound (place_at q i) ≡ true
  fits i l = and_l (place_sound (place_at q i)) (role_sound q.begun i (place_at q i)) (slot i l)

  pub queue_fit : QueueFit q
  queue_fit = record {
    order = begun_used;
    most = used_most;
    words = λ i l. place_words (place_at q i) (fits i l);
    ends = λ i l. place_ends (place_at q i) (fits i l);
  }

  pub queue_stands : Standing q
  queue_stands = record {
    older = λ i l. role_awaits q.begun i (place_at q i) (role i (omega (arith, begun_used))) l;
    youngest = λ z. role_youngest q.begun (q.begun - 1) (last_begun q) (role (q.begun - 1) (omega (arith, begun_used))) (omega arith);
    fresh = λ i b l. role_waits q.begun i (place_at q i) (role i l) b;
    eight = leb-true _ _ (search (and_l, and_r));
  }

role_from : (q : Queue) (i : ℕ) → Standing q → i < q.used → role_sound q.begun i (place_at q i) ≡ true
unfolding role_sound
role_from q i s l =
    pick_keeps (λ (t : Bool). t ≡ true) _ _ _ (λ h. s.fresh i (leb-true _ _ h) l)
    (λ h. let b : i < q.begun = leb-false _ _ h in
    pick_keeps (λ (t : Bool). t ≡ true) _ _ _ (λ k. let o : i + 1 < q.begun = ltb-true _ _ k in s.older i (omega arith))
    (λ k. let o : q.begun ≤ i + 1 = ltb-false _ _ k in
    let e : q.begun - 1 ≡ i = omega arith in
    let y : is_done (place_at q i) ≡ false = rw e at (s.youngest (omega arith)) in rw y))

slot_from : (q : Queue) (i : ℕ) → QueueFit q → Standing q → slot_sound q i ≡ true
unfolding slot_sound
slot_from q i f s =
    pick_keeps (λ (t : Bool). t ≡ true) _ _ _ (λ h. refl)
    (λ h. let l : i < q.used = leb-false _ _ h in
    and_both _ _ (and_both _ _ (le-leb _ _ (f.words i l)) (le-leb _ _ (f.ends i l))) (role_from q i s l))

pub queue_from : (q : Queue) → QueueFit q → Standing q → queue_sound q ≡ true
queue_from q f s =
    and_both _ _ (and_both _ _ (and_both _ _ (le-leb _ _ f.order) (le-leb _ _ f.most)) (le-leb _ _ s.eight)) (slots_from q (λ i. slot_from q i f s) 8)

-- what waits has something to send
some_first : (n : ℕ) (ps : List Place) → ((j : ℕ) → j < n → waits (get_or ps j no_place) ≡ true) → all_some (take n ps) ≡ true
unfolding all_some
some_first zero ps h = refl
some_first (suc n) [] h = refl
some_first (suc n) (p ∷ ps) h =
    and_both (ltb 0 (p.words + p.ends)) _ (and_l (ltb 0 (p.words + p.ends)) (is_fresh p) (h 0 (omega arith))) (some_first n ps (λ j l. h (suc j) (omega arith)))

pub some_waiting : (q : Queue) → Standing q → all_some (waiting q) ≡ true
unfolding waiting
some_waiting q s =
    some_first (q.used - q.begun) (drop q.begun q.places)
    (λ j l. rw (get_or-drop q.begun q.places j no_place) (s.fresh (q.begun + j) (omega arith) (omega arith)))

pub sender_fit : (s : Sender) (q : Queue) → sender_sound s q ≡ true → SenderFit s q
sender_fit s q h = record {
  piece = and_l _ (not (idle s && under_way q)) (and_l _ (not (leb 18 s.gone && speaking q)) h);
  rest = not-true _ (search (and_l, and_r));
  over = not-true _ (search (and_l, and_r));
}

pub sender_from : (s : Sender) (q : Queue) → SenderFit s q → sender_sound s q ≡ true
sender_from s q f =
    let r : (idle s && under_way q) ≡ false = f.rest in
    let o : (leb 18 s.gone && speaking q) ≡ false = f.over in
    and_both _ _ (and_both _ _ f.piece (rw r)) (rw o)

-- the sender's counts fit: what is left is of the place under way
module _ (s : Sender) (busy : Bool) (p : Place) where
  pub piece_gone : (u : Piece) → piece_sound u s busy p ≡ true → s.gone ≤ piece_length u
  unfolding piece_sound
  piece_gone Pause h = let e : s.gone ≡ 0 = eqb-true _ _ (search (and_l, and_r)) in omega arith
  piece_gone StartBit h = let e : s.gone ≡ 1 = eqb-true _ _ (search (and_l, and_r)) in omega arith
  piece_gone (WordPiece w) h = leb-true _ _ (search (and_l, and_r))
  piece_gone EndPiece h = leb-true _ _ (search (and_l, and_r))

  pub piece_left : (u : Piece) → piece_sound u s busy p ≡ true → (busy ≡ true → p.words ≤ 4096) → s.left ≤ 4096
  unfolding piece_sound
  piece_left Pause h m = let e : s.left ≡ 0 = eqb-true _ _ (search (and_l, and_r)) in omega arith
  piece_left StartBit h m =
      let e : s.left ≡ p.words = eqb-true _ _ (search (and_l, and_r)) in
      let w : p.words ≤ 4096 = m (search (and_l, and_r)) in omega arith
  piece_left (WordPiece w) h m =
      let e : s.left < p.words = ltb-true _ _ (search (and_l, and_r)) in
      let w : p.words ≤ 4096 = m (search (and_l, and_r)) in omega arith
  piece_left EndPiece h m = let e : s.left ≡ 0 = eqb-true _ _ (search (and_l, and_r)) in omega arith

  pub piece_ends : (u : Piece) → piece_sound u s busy p ≡ true → (busy ≡ true → p.ends ≤ 127) → s.ends ≤ 128
  unfolding piece_sound
  piece_ends Pause h m = let e : s.ends ≤ 1 = leb-true _ _ (search (and_l, and_r)) in omega arith
  piece_ends StartBit h m =
      let e : s.ends ≡ p.ends + 1 = eqb-true _ _ (search (and_l, and_r)) in
      let x : p.ends ≤ 127 = m (search (and_l, and_r)) in omega arith
  piece_ends (WordPiece w) h m =
      let e : s.ends ≡ p.ends + 1 = eqb-true _ _ (search (and_l, and_r)) in
      let x : p.ends ≤ 127 = m (search (and_l, and_r)) in omega arith
  piece_ends EndPiece h m =
      let e : s.ends ≤ pick busy p.ends 0 = leb-true _ _ (search (and_l, and_r)) in
      let x : pick busy p.ends 0 ≤ 127 = pick_keeps (λ (n : ℕ). n ≤ 127) busy p.ends 0 m (λ b. omega arith) in omega arith

-- a place under way is one in use
pub busy_used : (q : Queue) → QueueFit q → under_way q ≡ true → q.begun - 1 < q.used
busy_used q f h = omega (arith, busy_begun q h, f.order)

pub balanced : (s : Sending) (p : Phase) → ledger s p ≡ true → Balanced s p
balanced s p h = record { sum = eqb-true _ _ (search (and_l, and_r)); last = leb-true _ _ (search (and_l, and_r)) }

pub ledger_from : (s : Sending) (p : Phase) → Balanced s p → ledger s p ≡ true
ledger_from s p f = and_both _ _ (eq-eqb _ _ f.sum) (le-leb _ _ f.last)

pub sound_facts : (b : Bridge) → sound b ≡ true → Sound b
sound_facts b h =
    let q : queue_sound b.sending.queue ≡ true = search (and_l, and_r) depth 30 in
    let r : reader_sound b.receiving.reader b.sending.queue b.control.flags ≡ true = search (and_l, and_r) depth 30 in
    let c : control_sound b.control b.receiving.rx.count ≡ true = search (and_l, and_r) depth 30 in
    record {
      tx = ring_fit 512 b.sending.tx (search (and_l, and_r) depth 30);
      rx = ring_fit 256 b.receiving.rx (search (and_l, and_r) depth 30);
      regs = search (and_l, and_r) depth 30;
      control = record {
        otp = search (and_l, and_r) depth 30;
        drdy = and_r (regs_sound b.control.regs && otp_sound b.control.mode b.control.flags.otp) _ (and_l _ _ c);
        word = search (and_l, and_r) depth 30;
        marked = not-true _ (search (and_l, and_r) depth 30);
      };
      queue = queue_fit b.sending.queue q;
      standing = queue_stands b.sending.queue q;
      sender = sender_fit b.sending.sender b.sending.queue (search (and_l, and_r) depth 30);
      ear = and_l _ (marks_sound b.receiving.reader.ear b.receiving.reader b.sending.queue b.control.flags) r;
      marks = and_r (ear_sound b.receiving.reader.ear) _ r;
      phase = search (and_l, and_r) depth 30;
      ledger = balanced b.sending b.frame.phase (search (and_l, and_r) depth 30);
      algorithm = search (and_l, and_r) depth 30;
    }

pub sound_from : (b : Bridge) → Sound b → sound b ≡ true
sound_from b f =
    let m : (blocking b.control.flags && is_unmarked b.frame.phase) ≡ false = f.control.marked in
    and_both _ _ (and_both _ _ (and_both _ _ (and_both _ _ (and_both _ _ (and_both _ _ (and_both _ _ (and_both _ _ (and_both _ _
    (ring_from 512 b.sending.tx f.tx)
    (ring_from 256 b.receiving.rx f.rx))
    (and_both _ _ (and_both _ _ (and_both _ _ f.regs f.control.otp) f.control.drdy) f.control.word))
    (queue_from b.sending.queue f.queue f.standing))
    (sender_from b.sending.sender b.sending.queue f.sender))
    (and_both _ _ f.ear f.marks))
    f.phase)
    (rw m))
    (ledger_from b.sending b.frame.phase f.ledger))
    f.algorithm

pub piece_most : (p : Piece) → piece_length p ≤ 18
piece_most Pause = omega arith
piece_most StartBit = omega arith
piece_most (WordPiece w) = omega arith
piece_most EndPiece = omega arith

-- the last of the first n places has no more words than they all
last_within : (n : ℕ) (ps : List Place) → (get_or ps n no_place).words ≤ words_of (take (suc n) ps)
unfolding words_of no_place
last_within n [] = omega arith
last_within zero (p ∷ ps) = omega arith
last_within (suc n) (p ∷ ps) = let i : (get_or ps n no_place).words ≤ words_of (take (suc n) ps) = last_within n ps in omega arith

pub youngest_within : (q : Queue) → q.begun < q.used → (place_at q (q.used - 1)).words ≤ words_of (waiting q)
unfolding waiting
youngest_within q h =
    let n : q.used - q.begun ≡ suc (q.used - q.begun - 1) = omega arith in
    let e : q.begun + (q.used - q.begun - 1) ≡ q.used - 1 = omega arith in
    rw n (rw (get_or-drop, e) at (last_within (q.used - q.begun - 1) (drop q.begun q.places)))

-- what the youngest place has still to take is among what all have
pub last_most : (s : Sending) → last_left s ≤ s.sender.left + words_of (waiting s.queue)
last_most s =
    pick_keeps (λ (n : ℕ). n ≤ s.sender.left + words_of (waiting s.queue)) _ _ _
    (λ h.
    let y : (place_at s.queue (s.queue.used - 1)).words ≤ words_of (waiting s.queue) = youngest_within s.queue (ltb-true _ _ h) in
    omega arith)
    (λ h. omega arith)

-- a frame's own words are in TX
pub mine_held : (s : Sending) (p : Phase) → Balanced s p → mine_of p ≤ s.tx.count
mine_held s p f = let l : last_left s ≤ s.sender.left + words_of (waiting s.queue) = last_most s in omega arith

pub send_fit : (b : Bridge) → Sound b → SendFit b.sending
send_fit b f =
    let g : b.sending.sender.gone ≤ piece_length b.sending.sender.piece = piece_gone _ _ _ _ f.sender.piece in
    let m : piece_length b.sending.sender.piece ≤ 18 = piece_most b.sending.sender.piece in
    record { tx = f.tx; queue = f.queue; gone = omega arith }

pub fit_of : (b : Bridge) → Sound b → HostFit b
fit_of b f = record { sending = send_fit b f; rx = f.rx; phase = f.phase; mine = mine_held b.sending b.frame.phase f.ledger }

pub host_fit : (b : Bridge) → sound b ≡ true → HostFit b
host_fit b h = fit_of b (sound_facts b h)

pub power_up_sound : (layout : Layout) → sound (power_up_in layout) ≡ true
unfolding power_up_in power_up_control power_up_flags reset_regs table_of no_place end_sound piece_sound slots_below slot_sound ear_sound marks_sound blocking is_unmarked phase_sound mine_of to_come waiting words_of places_in pick
power_up_sound Ours = refl
power_up_sound Makers = refl

pub power_up_bad_sound : (layout : Layout) → sound (power_up_bad_in layout) ≡ true
unfolding power_up_bad_in bad_control power_up_control power_up_flags reset_regs table_of no_place end_sound piece_sound slots_below slot_sound ear_sound marks_sound blocking is_unmarked phase_sound mine_of to_come waiting words_of places_in pick
power_up_bad_sound Ours = refl
power_up_bad_sound Makers = refl
