-- A law as the functions' proofs ask it. Assumes nothing.
use Rattle.std.proofs.Common.{◌≡◌, ℕ, Bool}
use Rattle.registers.specs.declared.Control.{Control}
use Rattle.state.specs.declared.Bridge.{Bridge}
use Rattle.clock.specs.Clock.{control_at, clock_at, clocked_by}

-- the whole record, by the part that a function told
pub to_clocked_by : (b : Bridge) (reading : ℕ) (bites fires : Bool) (control : Control)
    → control ≡ control_at b.control bites fires b.receiving.rx.count
    → ◌≡◌ {A = Bridge}
    (record { control = control; sending = b.sending; receiving = b.receiving; frame = b.frame; clock = clock_at b.clock reading fires })
    (clocked_by b reading bites fires)
to_clocked_by b reading bites fires control e = rw e
