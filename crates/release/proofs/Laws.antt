-- A frame that is cut short, over the plan that only moves the phase. Assumes nothing.
use mathlib.Core.Path.{◌≡◌}
use Rattle.plan.specs.Plan.{plain}
use Rattle.plan.specs.declared.Plan.{Plan}
use Rattle.registers.specs.Raising.{raised_in}
use Rattle.registers.specs.declared.Control.{Control}
use Rattle.registers.specs.declared.Flag.TheVariants.{SpiCs}
use Rattle.release.specs.Release.{cut}
use Rattle.state.specs.declared.Bridge.{Bridge}
use Rattle.state.specs.declared.Deed.{Deed}
use Rattle.state.specs.declared.Note.TheVariants.{CutShort}
use Rattle.state.specs.declared.Phase.TheVariants.{Idle}

pub to_cut : (b : Bridge) (d e : Deed) (c : Control) (p : Plan) → c ≡ raised_in b.control SpiCs → d ≡ e → p ≡ plain b Idle CutShort
    → ◌≡◌ {A = Plan}
    (record {
      phase = p.phase;
      held = p.held;
      control = c;
      store = p.store;
      deed = d;
      receive = p.receive;
      note = p.note;
      sdo = p.sdo;
      status = p.status;
    })
    (cut b e)
unfolding cut
to_cut b d e c p hc hd h = rw (h, hc, hd)
