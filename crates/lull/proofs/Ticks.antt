-- A quiet tick, the first of a run or a later one: `turn` gives the record that the run lays down. Assumes nothing.
use Rattle.std.specs.Prelude.{None, Ok, Err}
use mathlib.Core.Path.{◌≡◌, refl, sym, ◌∙◌, ap, subst}
use mathlib.Core.Bool.{Bool, true, false, ◌&&◌, ◌||◌}
use mathlib.Core.List.{List}
use Prim.Native.Nat.{ℕ, ◌+◌, ◌-◌, ◌≤◌, ◌<◌}
use native.Mathlib.Omega.{arith}
use lib.Dec.{ltb, leb, eqb}
use borrow.Author.Tests.{ltb-true, lt-leb, ne_eqb}
use Rattle.base.specs.Pick.{pick, pick_false, pick_lt, pick_not_lt, pick_keeps, and_l, and_r}
use Rattle.base.specs.Truth.{denied, allowed, and_none}
use Rattle.command.specs.Layouts.{layouts}
use Rattle.line.specs.Format.{piece_length}
use Rattle.line.specs.Reader.{hear}
use Rattle.registers.specs.declared.Control.{Control}
use Rattle.rules.proofs.Facts.{piece_most}
use Rattle.state.specs.Queue.{under_way}
use Rattle.state.specs.Rings.{written}
use Rattle.state.specs.Sending.{idle}
use Rattle.state.specs.declared.Bridge.{Bridge}
use Rattle.state.specs.declared.Sender.{Sender}
use Rattle.state.specs.declared.Sending.{Sending}
use Rattle.next.specs.Next.{may_start, choose, bit_sent}
use Rattle.next.specs.declared.Next.TheVariants.{GoOn, Stay}
use Rattle.sender.specs.Sender.{sender_after, advanced, finished, sent_by, tick_sender}
use Rattle.plan.specs.Plan.{settled}
use Rattle.ticks.specs.Ticks.{watched, mark_after, ticked}
use Rattle.ticks.specs.declared.Did.{Did}
use Rattle.events.specs.Events.{reacted}
use Rattle.events.specs.Turn.{out, turned, turn}
use Rattle.events.specs.declared.Answer.{Answer}
use Rattle.events.specs.declared.Event.TheVariants.{Tick}
use Rattle.quick.specs.Passing.{is_nothing}
use Rattle.quick.proofs.Between.{plain, moved, unsent, unfinished, sent_none, ticked_short, heard_none}
use Rattle.lull.specs.Lull.{hot_of, rests_in, reach, gone_on, quiet_by, quiet_bit, laid_sender, laid, laid_by, quiet_answer}
use Rattle.lull.specs.declared.Hot.{Hot}

-- a tick that was answered with Ok was quiet
pub was_quiet : (t : Bool) (h g : Hot) → pick t (Ok h) (Err h) ≡ Ok g → (t ≡ true) × (g ≡ h)
unfolding pick
was_quiet true h g e = (refl, cc)
was_quiet false h g e = cc

-- the reach is inside the piece
pub reach_within : (s : Sender) → reach s ≤ piece_length s.piece
unfolding reach
reach_within s =
    let within : ℕ → Type 0 = λ n. n ≤ piece_length s.piece in
    pick_keeps within _ _ _ (λ t. pick_keeps within _ _ _ (λ u. omega arith) (λ u. omega arith)) (λ t. omega arith)

-- the reach by the length that a function told
module _ (s : Sender) (n : ℕ) (e : n ≡ piece_length s.piece) where
  pub to_length : 0 < s.left → n < 18 → n ≡ reach s
  unfolding reach
  to_length h k = pick_lt 0 s.left _ _ _ h (pick_lt (piece_length s.piece) 18 _ _ _ (rw (← e) k) e)

  module _ (m : ℕ) (f : m ≡ n - 1) where
    less : m ≡ piece_length s.piece - 1
    less = omega (arith, e, f)

    pub to_end : 0 < s.left → 18 ≤ n → m ≡ reach s
    unfolding reach
    to_end h k = pick_lt 0 s.left _ _ _ h (pick_not_lt (piece_length s.piece) 18 _ _ _ (rw (← e) k) less)

    pub to_last : s.left ≤ 0 → m ≡ reach s
    unfolding reach
    to_last h = pick_not_lt 0 s.left _ _ _ h less

pub gone_within : (still x : Bool) (gone : ℕ) (s : Sender) → (x && (still || ltb gone (reach s))) ≡ true → gone_on gone still ≤ 18
unfolding gone_on pick
gone_within true x gone s h = omega arith
gone_within false x gone s h =
    let l : gone < reach s = ltb-true _ _ (and_r x (ltb gone (reach s)) h) in
    omega (arith, reach_within s, piece_most s.piece)

-- a bit within the reach: the piece goes on, and no place is sent with it
record Goes (s : Sender) : Type 0 where
  inside : s.gone < piece_length s.piece
  below : s.gone + 1 < 18
  busy : (leb (piece_length s.piece) (s.gone + 1) && eqb s.left 0) ≡ false

before_last : (s : Sender) → ltb s.gone (piece_length s.piece - 1) ≡ true → Goes s
before_last s h =
    let l : s.gone < piece_length s.piece - 1 = ltb-true _ _ h in
    let z : leb (piece_length s.piece) (s.gone + 1) ≡ false = lt-leb (piece_length s.piece) (s.gone + 1) (omega arith) in
    record { inside = omega arith; below = omega (arith, piece_most s.piece); busy = rw z }

word_follows : (s : Sender) → ltb 0 s.left ≡ true → ltb (piece_length s.piece) 18 ≡ true → ltb s.gone (piece_length s.piece) ≡ true → Goes s
word_follows s t u h =
    let k : 0 < s.left = ltb-true _ _ t in
    let m : piece_length s.piece < 18 = ltb-true _ _ u in
    let l : s.gone < piece_length s.piece = ltb-true _ _ h in
    let z : eqb s.left 0 ≡ false = ne_eqb s.left 0 (λ e. omega arith) in
    record { inside = l; below = omega arith; busy = and_none (leb (piece_length s.piece) (s.gone + 1)) (eqb s.left 0) z }

goes : (s : Sender) → ltb s.gone (reach s) ≡ true → Goes s
unfolding reach
goes s =
    let whither : ℕ → Type 0 = λ n. ltb s.gone n ≡ true → Goes s in
    pick_keeps whither _ _ _ (λ t. pick_keeps whither _ _ _ (word_follows s t) (λ u. before_last s)) (λ t. before_last s)

module _ (s : Sending) (may : Bool) (w : ℕ) (h : ltb s.sender.gone (reach s.sender) ≡ true) where
  goes_on : choose s may ≡ GoOn
  unfolding choose
  goes_on = sym (pick_lt s.sender.gone (piece_length s.sender.piece) GoOn _ _ (goes s.sender h).inside refl)

  not_over : finished (moved GoOn s w) ≡ unsent s.queue
  unfolding sender_after
  not_over = unfinished s may w GoOn (rw (goes s.sender h).busy refl) (lt-leb 18 (s.sender.gone + 1) (goes s.sender h).below)

  sent_within : tick_sender s may w ≡ plain GoOn s w
  unfolding tick_sender sent_by advanced
  sent_within = rw (goes_on, not_over) refl

abbrev did : Answer → Did
did a = record { bridge = a.state; sdo = a.sdo; sout = a.sout; note = a.note; tx = None; rx = None }

lays : (still : Bool) (b : Bridge) (sin : Bool) (w : ℕ) → (still ≡ true → rests_in b ≡ true)
    → quiet_by (hot_of b) (reach b.sending.sender) still sin ≡ true → ticked b sin w ≡ did (quiet_answer b still (hot_of b) sin)
unfolding sender_after bit_sent watched mark_after gone_on quiet_bit laid_sender pick
lays true b sin w r q =
    ticked_short b sin w Stay (sent_none b.sending (may_start b.control) w (r refl))
    (heard_none _ (and_l (is_nothing (hear b.receiving.reader.ear sin).found) true q))
lays false b sin w r q =
    let none : Bool = is_nothing (hear b.receiving.reader.ear sin).found in
    let inside : Bool = ltb b.sending.sender.gone (reach b.sending.sender) in
    ticked_short b sin w GoOn (sent_within b.sending (may_start b.control) w (and_r none inside q)) (heard_none _ (and_l none inside q))

first_quiet : (still : Bool) (b : Bridge) (sin : Bool) (tx rx : List ℕ) → (still ≡ true → rests_in b ≡ true)
    → quiet_by (hot_of b) (reach b.sending.sender) still sin ≡ true
    → turn layouts b tx rx (Tick sin) ≡ out (quiet_answer b still (hot_of b) sin) tx rx
unfolding turn turned reacted written
first_quiet still b sin tx rx r q = rw (lays still b sin _ r q) refl

twice : (x y d : Bool) → pick x true (pick y false (pick x true (pick y false d))) ≡ pick x true (pick y false d)
unfolding pick
twice true y d = refl
twice false true d = refl
twice false false d = refl

-- DRDY that was settled stays
settled_twice : (c : Control) (n : ℕ) → settled (settled c n false) n false ≡ settled c n false
unfolding settled
settled_twice c n = rw (twice (eqb n 0) (ltb c.regs.rxfflvl n || false) c.drdy) refl

laid_twice : (still : Bool) (b : Bridge) (h : Hot) (sin : Bool)
    → quiet_answer (laid b still h) still (hot_of (laid b still h)) sin ≡ quiet_answer b still h sin
unfolding laid_sender quiet_bit gone_on pick
laid_twice true b h sin = rw (settled_twice b.control b.receiving.rx.count) refl
laid_twice false b h sin = rw (settled_twice b.control b.receiving.rx.count) refl

-- of a rest there comes a rest
still_rests : (b : Bridge) (h : Hot) → rests_in b ≡ true → rests_in (laid b true h) ≡ true
unfolding laid_sender settled pick
still_rests b h r =
    let waits : Bool = ltb b.sending.queue.begun b.sending.queue.used && may_start b.control in
    let w : waits ≡ false = denied waits (pick (under_way b.sending.queue) false (idle b.sending.sender)) r in
    let u : under_way b.sending.queue ≡ false
    = denied _ _ (allowed waits (pick (under_way b.sending.queue) false (idle b.sending.sender)) r) in
    sym (pick_false _ _ _ _ w (pick_false _ _ _ _ u refl))

still_laid : (still : Bool) (b : Bridge) (h : Hot) → (still ≡ true → rests_in b ≡ true) → still ≡ true → rests_in (laid b still h) ≡ true
still_laid true b h r e = still_rests b h (r refl)
still_laid false b h r e = cc

-- the reach asks for the piece and the words left, which a run keeps
still_quiet : (still : Bool) (b : Bridge) (h : Hot) (sin : Bool) → quiet_by h (reach b.sending.sender) still sin ≡ true
    → quiet_by (hot_of (laid b still h)) (reach (laid b still h).sending.sender) still sin ≡ true
unfolding laid_sender reach pick
still_quiet true b h sin q = q
still_quiet false b h sin q = q

pub quiet_turn : (some : Bool) (b : Bridge) (still : Bool) (h : Hot) (sin : Bool) (tx rx : List ℕ) → (some ≡ false → h ≡ hot_of b)
    → (still ≡ true → rests_in b ≡ true) → quiet_by h (reach b.sending.sender) still sin ≡ true
    → turn layouts (laid_by some b still h) tx rx (Tick sin) ≡ out (quiet_answer b still h sin) tx rx
unfolding pick
quiet_turn true b still h sin tx rx s r q =
    first_quiet still (laid b still h) sin tx rx (still_laid still b h r) (still_quiet still b h sin q)
    ∙ ap (λ (a : Answer). out a tx rx) (laid_twice still b h sin)
quiet_turn false b still h sin tx rx s r q =
    first_quiet still b sin tx rx r (subst (λ (g : Hot). quiet_by g (reach b.sending.sender) still sin ≡ true) (s refl) q)
    ∙ ap (λ (g : Hot). out (quiet_answer b still g sin) tx rx) (sym (s refl))
