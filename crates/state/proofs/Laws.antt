-- Power-up with bad OTP, as the proof of src/lib.rt asks it. Assumes nothing.
use mathlib.Core.Path.{◌≡◌, refl}
use Rattle.layout.specs.declared.Layout.{Layout}
use Rattle.state.specs.Power.{bad_control, power_up_in, power_up_bad_in}
use Rattle.state.specs.declared.Bridge.{Bridge}

pub to_bad : (layout : Layout) (b : Bridge) → b ≡ power_up_in layout
    → record {
      control = bad_control b.control;
      sending = b.sending;
      receiving = b.receiving;
      frame = b.frame;
      clock = b.clock;
    } ≡ power_up_bad_in layout
unfolding power_up_in power_up_bad_in
to_bad layout b e = rw e refl
