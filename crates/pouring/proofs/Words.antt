-- One word of a run, the first or a later one: `turn` gives the record that the run leaves. Assumes nothing.
use Rattle.std.specs.Prelude.{Some}
use mathlib.Core.Path.{◌≡◌, refl, sym, ◌∙◌, ap}
use mathlib.Core.Bool.{Bool, true, false, not, ◌&&◌, ◌||◌}
use mathlib.Core.List.{List}
use Prim.Native.Nat.{ℕ, ◌+◌, ◌%◌, ◌<◌, ◌≤◌}
use native.Mathlib.Omega.{arith}
use lib.Dec.{ltb, leb, eqb}
use lib.ListN.{set}
use borrow.Author.Tests.{le-leb, lt-leb, ltb-true, leb-true, leb-false}
use Rattle.base.specs.Pick.{pick, and_l, and_r}
use Rattle.base.specs.Truth.{chosen_by, chosen}
use Rattle.command.specs.Layout.{decode_by}
use Rattle.command.specs.Layouts.{layouts}
use Rattle.command.specs.declared.Command.{Command}
use Rattle.command.specs.declared.Command.TheVariants.{Filler, Malformed, Forward, DataRead, RegisterWrite, RegisterRead, SoftReset}
use Rattle.registers.specs.declared.Control.{Control}
use Rattle.state.specs.Frame.{fwd}
use Rattle.state.specs.Rings.{tx_size, oldest, written, ring_after}
use Rattle.state.specs.Sending.{stored, done}
use Rattle.state.specs.declared.Bridge.{Bridge}
use Rattle.state.specs.declared.Deed.TheVariants.{Leave}
use Rattle.state.specs.declared.Fwd.{Fwd}
use Rattle.state.specs.declared.Note.{Note}
use Rattle.state.specs.declared.Note.TheVariants.{Done}
use Rattle.state.specs.declared.Phase.{Phase}
use Rattle.state.specs.declared.Phase.TheVariants.{Idle, Collecting, Answering, Discarding}
use Rattle.plan.specs.Plan.{no_answer, plain, cleared_away, received, settled, concluded, awaits_command, is_collecting, marked, performed}
use Rattle.plan.specs.declared.Plan.{Plan}
use Rattle.plan.specs.declared.Receive.TheVariants.{LeaveRx}
use Rattle.forwards.specs.Forward.{asks_store, guard, faulted, mine_after, enqueues, clears, forwarded, forward_word}
use Rattle.host.specs.Frames.{opened, data_word, planned_in, planned}
use Rattle.events.specs.Events.{reacted}
use Rattle.events.specs.Turn.{out, turned, turn}
use Rattle.events.specs.declared.Answer.{Answer}
use Rattle.events.specs.declared.Event.TheVariants.{Word}
use Rattle.pouring.specs.Pour.{bed_in, bed_of, stream, stream_of, pours, mine_on, poured_on, stays, stay_note, poured_phase, poured, poured_by}
use Rattle.pouring.specs.declared.Bed.{Bed}
use Rattle.pouring.specs.declared.Stream.{Stream}

twice : (x y d : Bool) → pick x true (pick y false (pick x true (pick y false d))) ≡ pick x true (pick y false d)
unfolding pick
twice true y d = refl
twice false true d = refl
twice false false d = refl

-- DRDY that was settled stays
settled_twice : (c : Control) (n : ℕ) → settled (settled c n false) n false ≡ settled c n false
unfolding settled
settled_twice c n = rw (twice (eqb n 0) (ltb c.regs.rxfflvl n || false) c.drdy) refl

abbrev pub answer : Bridge → Note → Answer
answer b n = record { state = b; sdo = no_answer; sout = true; note = n }

-- 1. A forward's data word.

-- what the test says
module _ (st : Stream) (d : Bed) (level : ℕ) (go : Bool) (ge : go ≡ pours st d level) (gt : go ≡ true) where
  abbrev held_back : Bool
  held_back = d.named || d.released || not (leb level st.count || eqb (st.got + 1) d.words)

  comes : ltb st.got d.words ≡ true
  unfolding pours
  comes = chosen_by (ltb st.got d.words) (ltb st.count tx_size && held_back) (sym ge ∙ gt)

  rest : (ltb st.count tx_size && held_back) ≡ true
  unfolding pours
  rest = chosen (ltb st.got d.words) (ltb st.count tx_size && held_back) (sym ge ∙ gt)

  holds : held_back ≡ true
  holds = and_r (ltb st.count tx_size) held_back rest

  pub fits : st.count < 512
  fits = ltb-true _ _ (and_l (ltb st.count tx_size) held_back rest)

  pub more_comes : st.got < d.words
  more_comes = ltb-true _ _ comes

no_release : (n released x : Bool) → (n || released || not x) ≡ true → (not n && not released && x) ≡ false
no_release true released x h = refl
no_release false true x h = refl
no_release false false true h = cc
no_release false false false h = refl

level_by : (level count : ℕ) (x : Bool) → leb level count ≡ x → leb (level + 1) (count + 1) ≡ x
level_by level count true h = let l : level ≤ count = leb-true _ _ h in le-leb (level + 1) (count + 1) (omega arith)
level_by level count false h = let l : count < level = leb-false _ _ h in lt-leb (level + 1) (count + 1) (omega arith)

level_same : (level count : ℕ) → leb (level + 1) (count + 1) ≡ leb level count
level_same level count = level_by level count (leb level count) refl

mine_same : (released : Bool) (mine : ℕ) → pick (not released) (mine + 1) mine ≡ mine_on mine released
unfolding pick mine_on
mine_same true mine = refl
mine_same false mine = refl

abbrev bed : Fwd → Bool → Bed
bed f released = record { flows = true; words = f.words; named = f.crc; released = released }

-- a forward that has come so far, and is not blocked
abbrev phase_at : Fwd → Stream → Bool → Phase
phase_at f st released = Collecting (Forward f.crc f.words f.ends f.reads) st.got st.crc st.mine released false

abbrev plan : Bridge → Fwd → Stream → Bool → ℕ → Plan
plan b f st released w = record {
  phase = phase_at f (poured_on st released w) released;
  held = b.frame.held;
  control = b.control;
  store = Some w;
  deed = Leave;
  receive = LeaveRx;
  note = Done;
  sdo = no_answer;
  status = false;
}

module _ (b : Bridge) (f : Fwd) (st : Stream) (released : Bool) (w : ℕ) (e : b.frame.phase ≡ phase_at f st released)
    (n : b.sending.tx.count ≡ st.count) (h : pours st (bed f released) b.control.regs.txfflvl ≡ true) where
  abbrev level : ℕ
  level = b.control.regs.txfflvl

  kept_back : (not f.crc && not released && (leb (level + 1) (st.count + 1) || eqb (st.got + 1) f.words)) ≡ false
  kept_back = rw (level_same level st.count) (no_release f.crc released _ (holds st (bed f released) level _ refl h))

  not_full : leb tx_size st.count ≡ false
  not_full = lt-leb tx_size st.count (fits st (bed f released) level _ refl h)

  stores : (x : ℕ) → planned layouts b w x ≡ plan b f st released w
  unfolding planned planned_in data_word forward_word forwarded guard asks_store faulted mine_after enqueues clears pick
  stores x = rw (e, n, comes st (bed f released) level _ refl h, not_full, kept_back, ← mine_same released st.mine) refl

  first_pour : (tx rx : List ℕ) → turn layouts b tx rx (Word w)
      ≡ out (answer (poured b (poured_on st released w)) Done) (set tx ((b.sending.tx.head + st.count) % 512) w) rx
  unfolding turn turned reacted performed stored ring_after done cleared_away received concluded pick written poured_phase
  first_pour tx rx = rw (stores (oldest rx b.receiving.rx), e, n) refl

-- a run that is begun again leaves what it leaves
poured_twice : (b : Bridge) (f : Fwd) (s₀ st s : Stream) (released : Bool) → b.frame.phase ≡ phase_at f s₀ released → poured (poured b st) s ≡ poured b s
unfolding poured_phase
poured_twice b f s₀ st s released e = rw (e, settled_twice b.control b.receiving.rx.count) refl

-- the first word of a run or a later one
pour_on : (some : Bool) (b : Bridge) (f : Fwd) (s₀ : Stream) (released : Bool) (st : Stream) (w : ℕ) (tx rx : List ℕ)
    → b.frame.phase ≡ phase_at f s₀ released → (some ≡ false → st ≡ stream_of b.frame.phase b.sending.tx.count)
    → pours st (bed f released) b.control.regs.txfflvl ≡ true
    → turn layouts (poured_by some b st) tx rx (Word w)
    ≡ out (answer (poured b (poured_on st released w)) Done) (set tx ((b.sending.tx.head + st.count) % 512) w) rx
unfolding pick poured_phase settled stream_of
pour_on true b f s₀ released st w tx rx e s h =
    first_pour (poured b st) f st released w (rw e refl) refl h tx rx
    ∙ ap (λ (x : Bridge). out (answer x Done) (set tx ((b.sending.tx.head + st.count) % 512) w) rx)
    (poured_twice b f s₀ st (poured_on st released w) released e)
pour_on false b f s₀ released st w tx rx e s h =
    let z : st ≡ stream_of (phase_at f s₀ released) b.sending.tx.count = s refl ∙ ap (λ (p : Phase). stream_of p b.sending.tx.count) e in
    first_pour b f st released w (rw z e) (rw z refl) h tx rx

-- of whatever phase the frame is
module _ (some : Bool) (b : Bridge) (st : Stream) (w : ℕ) (tx rx : List ℕ)
    (s : some ≡ false → st ≡ stream_of b.frame.phase b.sending.tx.count) where
  abbrev pub Pours : Bed → Type 0
  Pours d = d.flows ≡ true → pours st d b.control.regs.txfflvl ≡ true → turn layouts (poured_by some b st) tx rx (Word w)
      ≡ out (answer (poured b (poured_on st d.released w)) Done) (set tx ((b.sending.tx.head + st.count) % 512) w) rx

  by_command : (c : Command) (got sum mine : ℕ) (released blocked : Bool) → b.frame.phase ≡ Collecting c got sum mine released blocked
      → Pours (bed_in c released blocked)
  unfolding bed_in
  by_command Filler got sum mine released blocked e f h = cc
  by_command Malformed got sum mine released blocked e f h = cc
  by_command (Forward n words ends reads) got sum mine released true e f h = cc
  by_command (Forward n words ends reads) got sum mine released false e f h =
      pour_on some b (fwd n words ends reads) (stream got sum mine 0) released st w tx rx e s h
  by_command (DataRead crc words) got sum mine released blocked e f h = cc
  by_command (RegisterWrite crc address count) got sum mine released blocked e f h = cc
  by_command (RegisterRead crc address count) got sum mine released blocked e f h = cc
  by_command SoftReset got sum mine released blocked e f h = cc

  by_phase : (p : Phase) → b.frame.phase ≡ p → Pours (bed_of p)
  unfolding bed_of
  by_phase Idle e f h = cc
  by_phase (Collecting command got sum mine released blocked) e f h = by_command command got sum mine released blocked e f h
  by_phase (Answering reply sum) e f h = cc
  by_phase Discarding e f h = cc

  pub pour_turn : Pours (bed_of b.frame.phase)
  pour_turn = by_phase b.frame.phase refl

-- 2. A word that leaves the frame as it is.

stays_planned : (b : Bridge) (p : Phase) (w x : ℕ) → stays p w ≡ true → planned_in layouts b p w x ≡ plain b p (stay_note p)
unfolding stays stay_note planned_in opened decode_by pick
stays_planned b Idle w x h = rw h refl
stays_planned b (Collecting command got sum mine released blocked) w x h = cc
stays_planned b (Answering reply sum) w x h = cc
stays_planned b Discarding w x h = refl

-- the record as such a word leaves it
abbrev rested : Bridge → Bridge
rested b = record {
  control = settled b.control b.receiving.rx.count false;
  sending = b.sending;
  receiving = b.receiving;
  frame = b.frame;
  clock = marked b.clock;
}

-- it opens no frame, so the algorithm stays
unopened : (p : Phase) → (is_collecting p && awaits_command p) ≡ false
unopened Idle = refl
unopened (Collecting command got sum mine released blocked) = refl
unopened (Answering reply sum) = refl
unopened Discarding = refl

first_stay : (b : Bridge) (w : ℕ) (tx rx : List ℕ) → stays b.frame.phase w ≡ true
    → turn layouts b tx rx (Word w) ≡ out (answer (rested b) (stay_note b.frame.phase)) tx rx
unfolding turn turned reacted planned performed stored ring_after done cleared_away received concluded pick written
first_stay b w tx rx h = rw (stays_planned b b.frame.phase w (oldest rx b.receiving.rx) h, unopened b.frame.phase) refl

pub same_count : (p : Phase) (n : ℕ) → (stream_of p n).count ≡ n
unfolding stream_of
same_count Idle n = refl
same_count (Collecting command got sum mine released blocked) n = refl
same_count (Answering reply sum) n = refl
same_count Discarding n = refl

same_phase : (p : Phase) (n : ℕ) → poured_phase p (stream_of p n) ≡ p
unfolding poured_phase stream_of
same_phase Idle n = refl
same_phase (Collecting command got sum mine released blocked) n = refl
same_phase (Answering reply sum) n = refl
same_phase Discarding n = refl

is_rested : (b : Bridge) → poured b (stream_of b.frame.phase b.sending.tx.count) ≡ rested b
is_rested b = rw (same_phase b.frame.phase b.sending.tx.count, same_count b.frame.phase b.sending.tx.count) refl

rested_twice : (b : Bridge) → rested (rested b) ≡ rested b
rested_twice b = rw (settled_twice b.control b.receiving.rx.count) refl

still_on : (some : Bool) (b : Bridge) (w : ℕ) (tx rx : List ℕ) → stays b.frame.phase w ≡ true
    → turn layouts (pick some (rested b) b) tx rx (Word w) ≡ out (answer (rested b) (stay_note b.frame.phase)) tx rx
unfolding pick
still_on true b w tx rx h =
    first_stay (rested b) w tx rx h ∙ ap (λ (x : Bridge). out (answer x (stay_note b.frame.phase)) tx rx) (rested_twice b)
still_on false b w tx rx h = first_stay b w tx rx h

pub still_turn : (some : Bool) (b : Bridge) (st : Stream) (w : ℕ) (tx rx : List ℕ) → st ≡ stream_of b.frame.phase b.sending.tx.count
    → stays b.frame.phase w ≡ true
    → turn layouts (poured_by some b st) tx rx (Word w) ≡ out (answer (poured b st) (stay_note b.frame.phase)) tx rx
still_turn some b st w tx rx e h =
    let z : poured b st ≡ rested b = ap (poured b) e ∙ is_rested b in
    rw z (still_on some b w tx rx h)
