-- Every plan of a host word or of a release of chip select that meets no fault and clears only once all is sent keeps the frames' account.
-- Assumes nothing.
use Rattle.std.specs.Prelude.{None, Some}
use mathlib.Core.Path.{◌≡◌, refl}
use mathlib.Core.Bool.{Bool, true, false, not, ◌&&◌}
use mathlib.Core.List.{List, [], ◌∷◌, ◌++◌}
use Prim.Native.Nat.{ℕ, zero, suc, ◌+◌, ◌≤◌, ◌<◌}
use native.Mathlib.Omega.{arith}
use lib.Dec.{ltb, leb, eqb}
use lib.ListN.{length, length-append}
use borrow.Author.Tests.{ltb-true, ltb-false, eqb-true, eqb-false, not-true}
use Rattle.base.specs.Pick.{pick, pick_keeps, and_l, and_r}
use Rattle.command.specs.Layouts.{Layouts}
use Rattle.command.specs.declared.Command.{Command}
use Rattle.command.specs.declared.Command.TheVariants.{Filler, Malformed, Forward, DataRead, RegisterWrite, RegisterRead, SoftReset}
use Rattle.registers.specs.Registers.{blocking}
use Rattle.state.specs.Frame.{fwd, progress, data_words}
use Rattle.state.specs.declared.Bridge.{Bridge}
use Rattle.state.specs.declared.Deed.{Deed}
use Rattle.state.specs.declared.Deed.TheVariants.{Leave, ClearAll}
use Rattle.state.specs.declared.Note.{Note}
use Rattle.state.specs.declared.Phase.{Phase}
use Rattle.state.specs.declared.Phase.TheVariants.{Idle, Collecting, Answering, Discarding}
use Rattle.state.specs.declared.Reply.{Reply}
use Rattle.state.specs.declared.Reply.TheVariants.{Status, Data, Registers, Check}
use Rattle.state.specs.declared.Sending.{Sending}
use Rattle.forwards.specs.Forward.{just_begun, word_counted, asks_store, clears, enqueues, mine_after, faulted, forwarded, releases, forward_word, forward_begun}
use Rattle.host.specs.Frames.{opened, data_word, planned_in, planned}
use Rattle.release.specs.Release.{released_in}
use Rattle.writes.specs.Writes.{held_word, register_word}
use Rattle.closing.specs.Closing.{closed, wrong_crc, forward_closed, registers_closed, read_closed, reset_closed, crc_due}
use Rattle.release.specs.Release.{cut_deed, cut}
use Rattle.answers.specs.Answers.{answer_with, data_answered, register_answered, answered}
use Rattle.forwards.specs.declared.Granted.{Granted}
use Rattle.state.specs.declared.Progress.{Progress}
use Rattle.plan.specs.declared.Plan.{Plan}
use Rattle.plan.specs.declared.Receive.TheVariants.{LeaveRx}
use Rattle.bridge.specs.Runs.{faults, AllSent}
use Rattle.order.specs.Accepted.{Log}
use Rattle.base.specs.Truth.{never, or_r}
use Rattle.order.proofs.Account.{counted, concat, lengths, sum, sum_append, length_concat}
use Rattle.order.proofs.Frames.{Shut, Pending, Released, Open, InFrame, Kept, Goes, GoesBy, Rests, rests_idle, rests_answering, rests_discarding, goes_quiet, goes_cleared, goes_reset}
use Rattle.order.proofs.Forwards.{guard_grants, over_released, over_pending, over_queued, over_back, over_nothing, begun_queued, begun_pending, word_queued, word_pending, word_released}

-- A plan with no fault, and that clears only once all is sent.
pub record Allowed (s : Sending) (d : Deed) (n : Note) : Type 0 where
  pub no_fault : faults n ≡ false
  pub no_loss : clears d ≡ true → AllSent s

abbrev Good : Bridge → Log → List ℕ → List ℕ → Plan → Type 0
Good b g S K p = Allowed b.sending p.deed p.note → GoesBy b.sending g S K p

-- Once all is sent, TX holds the words that no place counts.
abbrev Spent : Bridge → List ℕ → List ℕ → Type 0
Spent b S K = AllSent b.sending → length S ≡ sum K + b.sending.tx.count

module _ (b : Bridge) (g : Log) (S K : List ℕ) (spent : Spent b S K) where
  -- Plans that leave the sending side alone, or clear it when it has nothing.
  module _ (h : Shut g S K) where
    quiet : (ph : Phase) → Rests ph → Goes b.sending g S K ph None Leave false
    quiet ph r = goes_quiet b.sending g S K ph false r (λ e. never false e refl) h

    quiet_over : Goes b.sending g S K Idle None Leave true
    quiet_over = goes_quiet b.sending g S K Idle true rests_idle (λ e. refl) h

    none_left : AllSent b.sending → b.sending.tx.count ≡ 0
    none_left a =
        let e : length (concat g.closed) ≡ sum (lengths g.closed) + b.sending.tx.count = rw (h.stored_are, h.counts_are) at (spent a) in
        omega (arith, e, length_concat g.closed)

    -- Register writes.
    effects : (t : Bool) (ph : Phase) (status : Bool) → Rests ph → (status ≡ true → ph ≡ Idle)
        → (clears (pick t ClearAll Leave) ≡ true → AllSent b.sending) → Goes b.sending g S K ph None (pick t ClearAll Leave) status
    unfolding pick clears
    effects true ph status r e k = goes_cleared b.sending g S K ph status r e h (k refl) (none_left (k refl))
    effects false ph status r e k = goes_quiet b.sending g S K ph status r e h

    wrong_crc_lem : (crc : Bool) (mine : ℕ) → mine ≡ 0 → Good b g S K (wrong_crc b crc mine)
    unfolding wrong_crc
    wrong_crc_lem crc mine z =
        pick_keeps (Good b g S K) _ _ _ (λ t k. over_nothing b.sending g S K mine h z) (λ t k. quiet_over)

    read_closed_lem : (l : Layouts) (crc right : Bool) (reply : Reply) → Good b g S K (read_closed l b crc right reply)
    unfolding read_closed
    read_closed_lem l crc right reply =
        pick_keeps (Good b g S K) _ _ _ (λ t k. quiet _ (rests_answering reply _))
        (λ t. pick_keeps (Good b g S K) _ _ _ (λ u k. quiet Idle rests_idle) (λ u k. quiet _ (rests_answering reply _)))

    write_closed : (crc : Bool) (address count : ℕ) → Good b g S K (registers_closed b crc address count)
    unfolding registers_closed
    write_closed crc address count =
        pick_keeps (Good b g S K) _ _ _ (λ t k. effects _ Idle true rests_idle (λ e. refl) k.no_loss) (λ t k. quiet_over)

    reset_closed_lem : Good b g S K (reset_closed b)
    unfolding reset_closed clears
    reset_closed_lem =
        pick_keeps (Good b g S K) _ _ _
        (λ t k. goes_reset b.sending g S K Idle true rests_idle (λ e. refl) h (k.no_loss refl) (none_left (k.no_loss refl))) (λ t k. quiet_over)

    answers : (l : Layouts) (reply : Reply) (sum x : ℕ) → Good b g S K (answered l b reply sum x)
    unfolding answered answer_with register_answered data_answered
    answers l (Status w) sum x k = quiet _ (rests_answering _ _)
    answers l (Data left) sum x k =
        pick_keeps (Good b g S K) _ _ _ (λ t j. quiet _ (rests_answering _ _)) (λ t j. quiet _ (rests_answering _ _)) k
    answers l (Registers address left) sum x k = quiet _ (rests_answering _ _)
    answers l Check sum x k = quiet Idle rests_idle

    -- The command word.
    forward_begun_lem : (crc : Bool) (k ends : ℕ) (reads : Bool) (sum : ℕ) (blocked : Bool) → blocked ≡ false
        → Good b g S K (forward_begun b (fwd crc k ends reads) sum blocked)
    unfolding forward_begun forwarded mine_after enqueues clears asks_store pick
    forward_begun_lem crc k ends reads sum blocked c a =
        guard_grants (λ (r : Granted). GoesBy b.sending g S K (forwarded b (fwd crc k ends reads) (just_begun sum blocked) r))
        _ _ None _ _ blocked c
        (λ room t u. begun_queued b.sending g S K crc k ends reads sum blocked c h u (not-true crc (and_l (not crc) _ (and_l _ (ltb 0 ends) t))))
        (λ room t. begun_pending b.sending g S K crc k ends reads sum blocked c h) a.no_fault

    begins : (command : Command) (sum : ℕ) → blocking b.control.flags ≡ false → Good b g S K (opened b command sum)
    unfolding opened Kept InFrame
    begins Filler sum f k = quiet Idle rests_idle
    begins Malformed sum f k = quiet Discarding rests_discarding
    begins (Forward crc words ends reads) sum f k = forward_begun_lem crc words ends reads sum _ f k
    begins (DataRead crc words) sum f k = quiet _ (λ i X Y p. (p, refl))
    begins (RegisterWrite crc address count) sum f k = quiet _ (λ i X Y p. (p, refl))
    begins (RegisterRead crc address count) sum f k = quiet _ (λ i X Y p. (p, refl))
    begins SoftReset sum f k = quiet _ (λ i X Y p. (p, refl))

  -- The words of a forward.
  module _ (crc : Bool) (words ends : ℕ) (reads : Bool) (got sum mine w : ℕ) (small : w < 65536) (due : got < words) where
    pending_word : (blocked : Bool) → blocked ≡ false → Pending crc words got mine g S K
        → Good b g S K (forward_word b (fwd crc words ends reads) (progress got sum mine false blocked) w)
    unfolding forward_word forwarded mine_after enqueues clears asks_store pick
    pending_word blocked c h a =
        guard_grants
        (λ (r : Granted). GoesBy b.sending g S K (forwarded b (fwd crc words ends reads) (word_counted (progress got sum mine false blocked)) r))
        _ _ (Some w) _ _ blocked c
        (λ room t u.
        word_queued b.sending g S K crc words ends reads sum blocked c got w small (room refl) due mine h u
        (not-true crc (and_l (not crc) true (and_l (not crc && true) _ t))))
        (λ room t. word_pending b.sending g S K crc words ends reads sum blocked c got w small (room refl) due mine h (later crc t))
        a.no_fault
      where
        later : (crc : Bool)
            → releases (fwd crc words ends reads) (word_counted (progress got sum mine false blocked)) b.control.regs.txfflvl
            (b.sending.tx.count + 1) ≡ false
            → crc ≡ false → got + 1 ≡ words → words ≡ 0
        later true t f e = never true refl f
        later false t f e =
            absurd (eqb-false (got + 1) words (or_r (leb (b.control.regs.txfflvl + 1) (b.sending.tx.count + 1)) _ t) e)

    released_word : (blocked : Bool) → blocked ≡ false → Released crc words got g S K
        → Good b g S K (forward_word b (fwd crc words ends reads) (progress got sum mine true blocked) w)
    unfolding forward_word forwarded mine_after enqueues clears asks_store pick
    released_word blocked c h a =
        guard_grants
        (λ (r : Granted). GoesBy b.sending g S K (forwarded b (fwd crc words ends reads) (word_counted (progress got sum mine true blocked)) r))
        _ _ (Some w) _ _ blocked c
        (λ room t u. never false (and_r (not crc) false (and_l (not crc && false) _ t)) refl)
        (λ room t. word_released b.sending g S K crc words ends reads sum blocked c got w small (room refl) due mine h) a.no_fault

    forward_word_lem : (released blocked : Bool) → Open crc words got mine released g S K → blocked ≡ false
        → Good b g S K (forward_word b (fwd crc words ends reads) (progress got sum mine released blocked) w)
    unfolding Open
    forward_word_lem true blocked h c = released_word blocked c h
    forward_word_lem false blocked h c = pending_word blocked c h

  -- Words that no place counts are in TX.
  abbrev Reach : Type 0
  Reach = (D : List (List ℕ)) (ws : List ℕ) → S ≡ concat D ++ ws → K ≡ lengths D → length ws ≤ b.sending.tx.count

  -- The CRC word of a forward.
  module _ (reach : Reach) (crc : Bool) (words ends : ℕ) (reads : Bool) (got mine : ℕ) (all : words ≤ got) where
    nothing : (crc : Bool) → (crc && not (eqb words 0 && eqb ends 0)) ≡ false → Pending crc words got mine g S K → words ≡ 0
    nothing true t h =
        eqb-true words 0 (and_l (eqb words 0) (eqb ends 0) (not_false (eqb words 0 && eqb ends 0) t))
      where
        not_false : (a : Bool) → not a ≡ false → a ≡ true
        not_false true e = refl
        not_false false e = never true refl e
    nothing false t h = h.waits refl (omega (arith, h.few))

    pending_right : (blocked : Bool) → blocked ≡ false → Pending crc words got mine g S K
        → Good b g S K (forward_closed b crc words ends reads blocked)
    unfolding forward_closed
    pending_right blocked c h a =
        guard_grants (λ (r : Granted). GoesBy b.sending g S K (closed b (faulted b.control r.note) r.deed LeaveRx r.note)) _ _
        None _ _ blocked c (λ room t u. over_queued b.sending g S K crc words got mine ends reads h all u)
        (λ room t. over_pending b.sending g S K crc words got mine h (nothing crc t h)) a.no_fault

    released_right : (blocked : Bool) → blocked ≡ false → Released crc words got g S K
        → Good b g S K (forward_closed b crc words ends reads blocked)
    unfolding forward_closed
    released_right blocked c h a =
        guard_grants (λ (r : Granted). GoesBy b.sending g S K (closed b (faulted b.control r.note) r.deed LeaveRx r.note)) _ _
        None _ _ blocked c (λ room t u. never crc (and_l crc _ t) h.by_words)
        (λ room t. over_released b.sending g S K crc words got h all) a.no_fault

    pending_wrong : Pending crc words got mine g S K → Good b g S K (wrong_crc b crc mine)
    unfolding wrong_crc
    pending_wrong h =
        let r : length g.words ≤ b.sending.tx.count = reach g.closed g.words h.stored_are h.counts_are in
        pick_keeps (Good b g S K) _ _ _
        (λ t k. over_back b.sending g S K crc words got mine h (omega (arith, h.mine_are, h.came_are, r)))
        (λ t k. over_pending b.sending g S K crc words got mine h (h.waits t (omega (arith, h.few))))

    released_wrong : Released crc words got g S K → Good b g S K (wrong_crc b crc mine)
    unfolding wrong_crc
    released_wrong h =
        pick_keeps (Good b g S K) _ _ _ (λ t k. never crc t h.by_words) (λ t k. over_released b.sending g S K crc words got h all)

    forward_closed_lem : (released blocked right : Bool) → Open crc words got mine released g S K → blocked ≡ false
        → Good b g S K (pick right (forward_closed b crc words ends reads blocked) (wrong_crc b crc mine))
    unfolding Open
    forward_closed_lem true blocked right h c =
        pick_keeps (Good b g S K) _ _ _ (λ t. released_right blocked c h) (λ t. released_wrong h)
    forward_closed_lem false blocked right h c =
        pick_keeps (Good b g S K) _ _ _ (λ t. pending_right blocked c h) (λ t. pending_wrong h)

  -- A word in a frame, while data words are due and after.
  module _ (at : Progress) where
    data_word_lem : (command : Command) (w : ℕ) → w < 65536 → at.got < data_words command
        → InFrame command at.got at.mine at.released at.blocked g S K → Good b g S K (data_word b command at w)
    unfolding data_word InFrame register_word held_word Kept
    data_word_lem Filler w small due h k = quiet h.0 Idle rests_idle
    data_word_lem Malformed w small due h k = quiet h.0 Idle rests_idle
    data_word_lem (Forward crc words ends reads) w small due h k =
        forward_word_lem crc words ends reads at.got at.crc at.mine w small due at.released at.blocked h.0 h.1 k
    data_word_lem (DataRead crc words) w small due h k = quiet h.0 Idle rests_idle
    data_word_lem (RegisterWrite crc address count) w small due h k =
        pick_keeps (Good b g S K) _ _ _ (λ t j. quiet h.0 _ (λ i X Y p. (p, h.1)))
        (λ t j. effects h.0 _ _ false (λ i X Y p. (p, h.1)) (λ e. never false e refl) j.no_loss) k
    data_word_lem (RegisterRead crc address count) w small due h k = quiet h.0 Idle rests_idle
    data_word_lem SoftReset w small due h k = quiet h.0 Idle rests_idle

  module _ (got mine : ℕ) (released blocked : Bool) where
    crc_due_lem : (l : Layouts) (command : Command) (right : Bool) → Reach → data_words command ≤ got
        → InFrame command got mine released blocked g S K → Good b g S K (crc_due l b command mine blocked right)
    unfolding crc_due InFrame
    crc_due_lem l Filler right reach all h k = quiet h.0 Idle rests_idle
    crc_due_lem l Malformed right reach all h k = quiet h.0 Idle rests_idle
    crc_due_lem l (Forward crc words ends reads) right reach all h k =
        forward_closed_lem reach crc words ends reads got mine all released blocked right h.0 h.1 k
    crc_due_lem l (DataRead crc words) right reach all h k = read_closed_lem h.0 l crc right (Data words) k
    crc_due_lem l (RegisterWrite crc address count) right reach all h k =
        pick_keeps (Good b g S K) _ _ _ (λ t. write_closed h.0 crc address count) (λ t. wrong_crc_lem h.0 crc mine h.1) k
    crc_due_lem l (RegisterRead crc address count) right reach all h k = read_closed_lem h.0 l crc right (Registers address count) k
    crc_due_lem l SoftReset right reach all h k =
        pick_keeps (Good b g S K) _ _ _ (λ t. reset_closed_lem h.0) (λ t. wrong_crc_lem h.0 true mine h.1) k

  planned_in_lem : (l : Layouts) (ph : Phase) (w x : ℕ) → w < 65536 → Reach → blocking b.control.flags ≡ false → Kept ph g S K
      → Good b g S K (planned_in l b ph w x)
  unfolding planned_in Kept
  planned_in_lem l Idle w x small reach f h k = begins h (l.decode b.control.regs.layout w) _ f k
  planned_in_lem l (Collecting command got sum mine released blocked) w x small reach f h k =
      pick_keeps (Good b g S K) _ _ _ (λ t. data_word_lem _ command w small (ltb-true _ _ t) h)
      (λ t. crc_due_lem got mine released blocked l command _ reach (ltb-false _ _ t) h) k
  planned_in_lem l (Answering reply sum) w x small reach f h k = answers h l reply sum x k
  planned_in_lem l Discarding w x small reach f h k = quiet h Discarding rests_discarding

  -- A host word.
  pub goes_word : (l : Layouts) (w x : ℕ) → w < 65536 → Reach → blocking b.control.flags ≡ false → Kept b.frame.phase g S K
      → Allowed b.sending (planned l b w x).deed (planned l b w x).note → GoesBy b.sending g S K (planned l b w x)
  unfolding planned
  goes_word l w x small reach f h k = planned_in_lem l b.frame.phase w x small reach f h k

  -- Chip select released, also before the CRC word.
  status_off : {ph : Phase} {st : _} {d : _} → Goes b.sending g S K ph st d true → Goes b.sending g S K ph st d false
  status_off x = record { storable = x.storable; feasible = x.feasible; kept = x.kept; ends = λ e. never false e refl }

  -- what a cut may do
  abbrev Loses : Deed → Type 0
  Loses d = (clears d ≡ true → AllSent b.sending) → Goes b.sending g S K Idle None d false

  cut_shut : (command : Command) (got mine : ℕ) (released : Bool) → Shut g S K → mine ≡ 0 → Loses (cut_deed command got mine released)
  unfolding cut_deed clears
  cut_shut command got mine released h z =
      pick_keeps Loses _ _ _
      (λ t. pick_keeps Loses _ _ _
      (λ u k. goes_cleared b.sending g S K Idle false rests_idle (λ e. never false e refl) h (k refl) (none_left h (k refl)))
      (λ u k. quiet h Idle rests_idle))
      (λ t k. status_off (over_nothing b.sending g S K mine h z))

  -- while data are missing not all is sent
  missing : (crc : Bool) (words got : ℕ) → Released crc words got g S K → AllSent b.sending → words ≤ got
  unfolding counted sum
  missing crc zero got h a = omega arith
  missing crc (suc k) got h a =
      let e : length (concat g.closed ++ g.words) ≡ sum (lengths g.closed ++ (suc k ∷ [])) + b.sending.tx.count
      = rw (h.stored_are, h.counts_are) at (spent a) in
      let n : length (concat g.closed) + length g.words ≡ sum (lengths g.closed) + (suc k + 0) + b.sending.tx.count
      = rw (length-append, sum_append) at e in
      omega (arith, n, length_concat g.closed, h.came_are)

  cut_open : Reach → (crc : Bool) (words ends : ℕ) (reads : Bool) (got mine : ℕ) (released : Bool) → Open crc words got mine released g S K
      → Loses (cut_deed (Forward crc words ends reads) got mine released)
  unfolding cut_deed clears Open pick
  cut_open reach crc words ends reads got mine true h =
      pick_keeps Loses (ltb got words) _ _
      (λ u k. let d : got < words = ltb-true _ _ u in absurd (omega (arith, missing crc words got h (k refl))))
      (λ u k. status_off (over_released b.sending g S K crc words got h (ltb-false _ _ u)))
  cut_open reach crc words ends reads got mine false h =
      λ k.
      let r : length g.words ≤ b.sending.tx.count = reach g.closed g.words h.stored_are h.counts_are in
      status_off (over_back b.sending g S K crc words got mine h (omega (arith, h.mine_are, h.came_are, r)))

  pub goes_release : (ph : Phase) → Reach → Kept ph g S K → (clears (released_in b ph).deed ≡ true → AllSent b.sending) → GoesBy b.sending g S K (released_in b ph)
  unfolding released_in cut Kept InFrame
  goes_release Idle r h n = quiet h Idle rests_idle
  goes_release (Collecting Filler got sum mine released blocked) r h n = cut_shut Filler got mine released h.0 h.1 n
  goes_release (Collecting Malformed got sum mine released blocked) r h n = cut_shut Malformed got mine released h.0 h.1 n
  goes_release (Collecting (Forward crc words ends reads) got sum mine released blocked) r h n =
      cut_open r crc words ends reads got mine released h.0 n
  goes_release (Collecting (DataRead crc words) got sum mine released blocked) r h n = cut_shut (DataRead crc words) got mine released h.0 h.1 n
  goes_release (Collecting (RegisterWrite crc address count) got sum mine released blocked) r h n =
      cut_shut (RegisterWrite crc address count) got mine released h.0 h.1 n
  goes_release (Collecting (RegisterRead crc address count) got sum mine released blocked) r h n =
      cut_shut (RegisterRead crc address count) got mine released h.0 h.1 n
  goes_release (Collecting SoftReset got sum mine released blocked) r h n = cut_shut SoftReset got mine released h.0 h.1 n
  goes_release (Answering reply sum) r h n = quiet h Idle rests_idle
  goes_release Discarding r h n = quiet h Idle rests_idle
