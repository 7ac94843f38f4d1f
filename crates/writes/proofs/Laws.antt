-- One write and the loop over the held words, as the proofs of `with_write` and `write_all` ask them. Assumes nothing.
use mathlib.Core.Path.{◌≡◌}
use mathlib.Core.Bool.{Bool}
use mathlib.Core.List.{List, [], ◌∷◌}
use Prim.Native.Nat.{ℕ, ◌+◌, ◌<◌, ◌≤◌}
use native.Mathlib.Omega.{arith}
use lib.ListN.{length, take, drop, get_or, set}
use lib.Seq.{slice_empty, slice-cons}
use native.Mathlib.Numerals.{add-one}
use Rattle.registers.specs.Writing.{write_of}
use Rattle.registers.specs.declared.Written.{Written}
use Rattle.registers.specs.declared.Control.{Control}
use Rattle.registers.specs.declared.Effect.{Effect}
use Rattle.state.specs.declared.Bridge.{Bridge}
use Rattle.state.specs.declared.Note.TheVariants.{Done}
use Rattle.state.specs.declared.Phase.{Phase}
use Rattle.plan.specs.Plan.{plain}
use Rattle.plan.specs.declared.Plan.{Plan}
use Rattle.writes.specs.Writes.{held_word, no_effects, with_write, write_all}
use Rattle.writes.specs.declared.Effects.{Effects}

-- an arm of one write more
pub to_written : (e : Effects) (w : Written) (k : Effect) (x : Effects) → w.effect ≡ k → x ≡ with_write e (record { control = w.control; effect = k })
    → x ≡ with_write e w
unfolding with_write
to_written e w k x h q = rw h q

-- a word that is held, over the plan that only moves the phase
pub to_held : (b : Bridge) (phase : Phase) (got w : ℕ) (p : Plan) → p ≡ plain b phase Done
    → ◌≡◌ {A = Plan}
    (record {
      phase = p.phase;
      held = set b.frame.held got w;
      control = p.control;
      store = p.store;
      deed = p.deed;
      receive = p.receive;
      note = p.note;
      sdo = p.sdo;
      status = p.status;
    })
    (held_word b phase got w)
unfolding held_word
to_held b phase got w p h = rw h

-- what is left of the writes is the whole of them
module _ (busy : Bool) (address count : ℕ) (held : List ℕ) (first : Effects) where
  pub record Writing (e : Effects) (i : ℕ) : Type 0 where
    pub whole : write_all e busy (address + i) (drop i (take count held)) ≡ write_all first busy address (take count held)
    pub within : i ≤ count

  pub to_first : Writing first 0
  to_first = let z : address + 0 ≡ address = omega arith in record { whole = rw z; within = omega arith }

  module _ (e : Effects) (i : ℕ) (v : Writing e i) where
    pub to_last : (c : Control) → first ≡ no_effects c → count ≤ i → e ≡ write_all (no_effects c) busy address (take count held)
    unfolding write_all
    to_last c f h =
        let z : i ≡ count = omega arith in
        let d : drop i (take count held) ≡ [] = rw z (slice_empty count held) in
        rw (← f) (rw d at v.whole)

    pub to_next : (w : Written) (after : Effects) → length held ≡ 12 → address + count ≤ 12 → i < count → w ≡ write_of e.control busy (address + i) (get_or held i 0)
        → after ≡ with_write e w → Writing after (i + 1)
    unfolding write_all
    to_next w after l k h p q =
        let m : count ≤ length held = omega arith in
        let d : drop i (take count held) ≡ get_or held i 0 ∷ drop (i + 1) (take count held) = rw add-one (slice-cons i count held 0 h m) in
        let a : address + i + 1 ≡ address + (i + 1) = omega arith in
        record { whole = rw (q, p, ← a) (rw d at v.whole); within = omega arith }
