-- A plan carried out, by its parts, as the proofs of src/lib.rt ask them. Assumes nothing.
use mathlib.Core.Path.{◌≡◌, refl, sym, ◌∙◌, ap₂}
use mathlib.Core.Bool.{Bool, true, false, not, ◌&&◌, ◌||◌}
use Prim.Native.Nat.{ℕ, ◌/◌, ◌%◌}
use native.Mathlib.Omega.{arith}
use lib.Dec.{eqb}
use Rattle.base.specs.Bits.{odd, bit}
use Rattle.base.specs.Pick.{pick, pick_true, pick_false}
use Rattle.plan.specs.Plan.{cleared_away, received, settled, concluded, awaits_command, is_collecting, xmodem_after, performed}
use Rattle.command.specs.Layouts.{layouts}
use Rattle.registers.specs.Spictrl.{is_xmodem}
use Rattle.registers.specs.declared.Control.{Control}
use Rattle.state.specs.Facts.{RingFit, Doable}
use Rattle.state.specs.declared.Deed.{Deed}
use Rattle.state.specs.declared.Deed.TheVariants.{Leave, Enqueue, TakeBack, ClearAll, ResetAll}
use Rattle.state.specs.Rings.{popped}
use Rattle.state.specs.Sending.{stored, done}
use Rattle.state.specs.declared.Clock.{Clock}
use Rattle.state.specs.declared.Ring.{Ring}
use Rattle.state.specs.declared.Receiving.{Receiving}
use Rattle.state.specs.declared.Sending.{Sending}
use Rattle.state.specs.declared.Phase.{Phase}
use Rattle.state.specs.declared.Bridge.{Bridge}
use Rattle.plan.specs.declared.Plan.{Plan}
use Rattle.plan.specs.declared.Receive.{Receive}
use Rattle.plan.specs.declared.Receive.TheVariants.{PopRx}

-- SPICTRL's bit
pub low_bit : (n : ℕ) → eqb (n % 2) 1 ≡ bit 0 n
unfolding bit odd
low_bit n = let e : n / 1 ≡ n = omega arith in rw e

-- DRDY by the three tests
pub drdy_by : (empty exceeded ended drdy : Bool) → (empty || ((drdy && not exceeded) && not ended)) ≡ pick empty true (pick (exceeded || ended) false drdy)
unfolding pick
drdy_by true exceeded ended drdy = refl
drdy_by false true ended true = refl
drdy_by false true ended false = refl
drdy_by false false true true = refl
drdy_by false false true false = refl
drdy_by false false false true = refl
drdy_by false false false false = refl

-- the oldest word read
pub to_popped : (r : Receiving) (v : Receive) (ring : Ring) → v ≡ PopRx → ring ≡ popped 256 r.rx
    → ◌≡◌ {A = Receiving} (record { rx = ring; reader = r.reader }) (received r v)
unfolding received
to_popped r v ring h k = rw (h, k)

-- a plan carried out, by its parts
pub to_performed : (b : Bridge) (clock : Clock) (p : Plan) (s t : Sending) (q r : Receiving) (c : Control) (f : Phase) (x : Bool)
    → s ≡ stored b.sending p.store → t ≡ done s p.deed → q ≡ cleared_away b.receiving p.deed → r ≡ received q p.receive
    → c ≡ settled p.control r.rx.count false → f ≡ concluded layouts b.frame.xmodem p.status c p.phase → x ≡ xmodem_after b p.phase
    → ◌≡◌ {A = Bridge} (record { control = c; sending = t; receiving = r; frame = record { phase = f; held = p.held; xmodem = x }; clock = clock })
    (performed layouts b clock p)
unfolding performed
to_performed b clock p s t q r c f x hs ht hq hr hc hf hx = cc

-- the algorithm of a frame that is opened, and of every other
module _ (b : Bridge) (after : Phase) (t u x : Bool) (e : t ≡ is_collecting after) (f : u ≡ awaits_command b.frame.phase) where
  pub to_opened : (t && u) ≡ true → x ≡ is_xmodem b.control.regs → x ≡ xmodem_after b after
  to_opened h k = pick_true _ _ _ _ (sym (ap₂ (λ (p q : Bool). p && q) e f) ∙ h) k

  pub to_unopened : (t && u) ≡ false → x ≡ b.frame.xmodem → x ≡ xmodem_after b after
  to_unopened h k = pick_false _ _ _ _ (sym (ap₂ (λ (p q : Bool). p && q) e f) ∙ h) k

-- what a plan's parts keep
pub told_doable : (s t : Sending) (d : Deed) → s ≡ t → Doable t d → Doable s d
told_doable s t d h k = rw h k

pub same_ring : (r : Receiving) (d : Deed) → (cleared_away r d).rx ≡ r.rx
unfolding cleared_away
same_ring r Leave = refl
same_ring r (Enqueue p) = refl
same_ring r (TakeBack n) = refl
same_ring r ClearAll = refl
same_ring r ResetAll = refl

pub kept_ring : (r after : Receiving) (d : Deed) → after ≡ cleared_away r d → RingFit 256 r.rx → RingFit 256 after.rx
kept_ring r after d h k = rw (h, same_ring r d) k
