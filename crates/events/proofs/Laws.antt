-- Laws as the functions' proofs ask them. Assumes nothing.
use Rattle.std.specs.Prelude.{Option, None, Some}
use mathlib.Core.Path.{◌≡◌, sym, ◌∙◌, ap₂, subst}
use mathlib.Core.List.{List}
use Prim.Native.Nat.{ℕ, ◌+◌, ◌%◌, ◌<◌}
use native.Mathlib.Nat.{mod-lt}
use native.Mathlib.Omega.{arith}
use lib.ListN.{set}
use Rattle.command.specs.Layouts.{Layouts}
use Rattle.state.specs.Facts.{HostFit, Doable}
use Rattle.state.specs.Rings.{written}
use Rattle.state.specs.Sending.{stored}
use Rattle.state.specs.declared.Bridge.{Bridge}
use Rattle.state.specs.declared.Clock.{Clock}
use Rattle.state.specs.declared.Ring.{Ring}
use Rattle.host.specs.Frames.{planned}
use Rattle.release.specs.Release.{released_in}
use Rattle.plan.specs.Plan.{performed}
use Rattle.plan.specs.declared.Plan.{Plan}
use Rattle.ticks.specs.Ticks.{quietly}
use Rattle.ticks.specs.declared.Did.{Did}
use Rattle.events.specs.Events.{hosted}
use Rattle.kept.proofs.Doable.{doable_planned, doable_released}

-- a store's next cell, or none
pub to_kept : (size : ℕ) (cells : List ℕ) (r : Ring) (st : Option ℕ) → st ≡ None → cells ≡ written size cells r st
unfolding written
to_kept size cells r st e = rw e

pub to_put : (size : ℕ) (cells : List ℕ) (r : Ring) (st : Option ℕ) (w : ℕ) → st ≡ Some w
    → set cells ((r.head + r.count) % size) w ≡ written size cells r st
unfolding written
to_put size cells r st w e = rw e

-- a plan's deed can be done
pub plan_doable : (l : Layouts) (b : Bridge) (w x : ℕ) (p : Plan) → p ≡ planned l b w x → HostFit b
    → Doable (stored b.sending p.store) p.deed
plan_doable l b w x p e h = subst (λ (q : Plan). Doable (stored b.sending q.store) q.deed) (sym e) (doable_planned l b h w x)

pub cut_doable : (b : Bridge) (p : Plan) → p ≡ released_in b b.frame.phase → HostFit b
    → Doable (stored b.sending p.store) p.deed
cut_doable b p e h = subst (λ (q : Plan). Doable (stored b.sending q.store) q.deed) (sym e) (doable_released b h)

-- a plan carried out: the whole record, by the part that a function told
pub to_hosted : (l : Layouts) (b : Bridge) (clock : Clock) (p : Plan) (after : Bridge) (q : Did) → after ≡ performed l b clock p → q ≡ quietly after
    → ◌≡◌ {A = Did} (record { bridge = q.bridge; sdo = p.sdo; sout = q.sout; note = p.note; tx = p.store; rx = q.rx }) (hosted l b clock p)
to_hosted l b clock p after q e h = rw (h, e)

-- the plan of an event
pub to_plan : (l : Layouts) (b : Bridge) (c k : Clock) (p q : Plan) (d : Did) → c ≡ k → p ≡ q → d ≡ hosted l b c p → d ≡ hosted l b k q
to_plan l b c k p q d e f h = h ∙ ap₂ (λ (m : Clock) (r : Plan). hosted l b m r) e f

-- the cell that a word goes to is one of the ring's
pub cell_lt : (h c n : ℕ) → h < n → (h + c) % n < n
cell_lt h c n p = mod-lt (h + c) (omega arith)
