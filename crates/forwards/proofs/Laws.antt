-- Laws of a forward's words and of the guard, as the proofs of src/lib.rt ask them. Assumes nothing.
use Rattle.std.specs.Prelude.{Option, None, Some}
use Rattle.std.specs.Option.{is_some}
use mathlib.Core.Path.{◌≡◌, refl, sym}
use mathlib.Core.Bool.{Bool, true, false, not, ◌&&◌, ◌||◌}
use Prim.Native.Nat.{ℕ, ◌+◌, ◌<◌, ◌≤◌}
use native.Mathlib.Omega.{arith}
use lib.Dec.{ltb, leb, eqb}
use Rattle.registers.specs.Registers.{blocking}
use Rattle.registers.specs.declared.Control.{Control}
use Rattle.state.specs.Queue.{new_place}
use Rattle.state.specs.declared.Bridge.{Bridge}
use Rattle.state.specs.declared.Fwd.{Fwd}
use Rattle.state.specs.declared.Phase.{Phase}
use Rattle.state.specs.declared.Phase.TheVariants.{Collecting}
use Rattle.command.specs.declared.Command.TheVariants.{Forward}
use Rattle.plan.specs.Plan.{plain}
use Rattle.state.specs.declared.Place.{Place}
use Rattle.state.specs.declared.Progress.{Progress}
use Rattle.forwards.specs.Forward.{asks_store, mine_after, enqueues, clears, wish, just_begun, word_counted, guard, faulted, forwarded, releases, forward_word, forward_begun}
use Rattle.forwards.specs.declared.Granted.{Granted}
use Rattle.plan.specs.declared.Plan.{Plan}
use borrow.Author.Tests.{ltb-true, ltb-false, le-leb, lt-leb}
use Rattle.base.specs.Pick.{pick}

-- a level is exceeded where one more is reached
pub exceeded : (level count : ℕ) → ltb level count ≡ leb (level + 1) count
exceeded level count = go (ltb level count) refl
  where
    go : (t : Bool) → ltb level count ≡ t → t ≡ leb (level + 1) count
    go true e = let h : level < count = ltb-true level count e in sym (le-leb (level + 1) count (omega arith))
    go false e = let h : count ≤ level = ltb-false level count e in sym (lt-leb (level + 1) count (omega arith))

-- a word is asked for where there is one
pub to_asked : (st : Option ℕ) → is_some st ≡ asks_store st
unfolding asks_store
to_asked None = refl
to_asked (Some w) = refl

-- a forward that goes on, by its parts
pub to_forwarded : (b : Bridge) (f : Fwd) (at : Progress) (g : Granted) (mine : ℕ) (queued cleared : Bool) (c : Control) (phase : Phase) (p : Plan)
    → mine ≡ mine_after g.deed g.store at.mine at.released → queued ≡ enqueues g.deed → cleared ≡ clears g.deed → c ≡ faulted b.control g.note
    → phase ≡ Collecting (Forward f.crc f.words f.ends f.reads) at.got at.crc mine (queued || at.released) (cleared || at.blocked)
    → p ≡ plain b phase g.note
    → ◌≡◌ {A = Plan}
    (record {
      phase = p.phase;
      held = p.held;
      control = c;
      store = g.store;
      deed = g.deed;
      receive = p.receive;
      note = p.note;
      sdo = p.sdo;
      status = p.status;
    })
    (forwarded b f at g)
unfolding forwarded
to_forwarded b f at g mine queued cleared c phase p hm hq hk hc hf hp = rw (hp, hf, hm, hq, hk, hc)

-- a forward's word by its parts
pub to_forward_word : (b : Bridge) (f : Fwd) (at : Progress) (w : ℕ) (release : Bool) (p : Place) (g : Granted) (x : Plan)
    → release ≡ releases f (word_counted at) b.control.regs.txfflvl (b.sending.tx.count + 1)
    → p ≡ new_place f.words f.ends f.reads
    → g ≡ guard at.blocked b.sending.tx.count b.sending.queue (wish (Some w) release p)
    → x ≡ forwarded b f (word_counted at) g
    → x ≡ forward_word b f at w
unfolding forward_word
to_forward_word b f at w release p g x hr hp hg e = rw (← hr, ← hp, ← hg) e

pub to_forward_begun : (b : Bridge) (f : Fwd) (sum : ℕ) (blocked : Bool) (p : Place) (g : Granted) (x : Plan)
    → blocked ≡ blocking b.control.flags
    → p ≡ new_place f.words f.ends f.reads
    → g ≡ guard blocked b.sending.tx.count b.sending.queue (wish None (not f.crc && eqb f.words 0 && ltb 0 f.ends) p)
    → x ≡ forwarded b f (just_begun sum blocked) g
    → x ≡ forward_begun b f sum (blocking b.control.flags)
unfolding forward_begun
to_forward_begun b f sum blocked p g x hb hp hg e = rw (← hb, ← hp, ← hg) e

-- an arm of the words not released
pub at_case_4 : {A B C D E : Type 0} (f : A → C → D → E → B) (v k : A) (p : C) (q : D) (r : E) (x : B) → v ≡ k → x ≡ f k p q r → x ≡ f v p q r
at_case_4 f v k p q r x h e = rw h e

-- by what a function answered for a part of the test
pub told_and : (a b c : Bool) (x y r : ℕ) → a ≡ b → r ≡ pick (a && c) x y → r ≡ pick (b && c) x y
told_and a b c x y r h e = rw h at e
