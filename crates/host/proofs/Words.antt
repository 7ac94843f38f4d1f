-- Arms of the command word, a data word and a host word, as the proofs of src/lib.rt ask them. Assumes nothing.
use mathlib.Core.Path.{◌≡◌, sym, ◌∙◌, ap}
use mathlib.Core.Bool.{Bool}
use Prim.Native.Nat.{ℕ}
use Rattle.command.specs.Layouts.{layouts}
use Rattle.command.specs.declared.Command.{Command}
use Rattle.registers.specs.Spictrl.{is_xmodem}
use Rattle.state.specs.declared.Phase.{Phase}
use Rattle.state.specs.declared.Phase.TheVariants.{Idle}
use Rattle.state.specs.declared.Progress.{Progress}
use Rattle.state.specs.declared.Bridge.{Bridge}
use Rattle.host.specs.Frames.{collects, opened, summed, data_word, planned_in, planned}
use Rattle.plan.specs.declared.Plan.{Plan}

-- an arm of the command word
pub to_opened : (b : Bridge) (command k : Command) (sum : ℕ) (x : Plan) → command ≡ k → x ≡ opened b k sum → x ≡ opened b command sum
to_opened b command k sum x h e = rw h e

pub to_collects : (b : Bridge) (command k : Command) (sum : ℕ) (x : Plan) → command ≡ k → opened b k sum ≡ collects b k sum
    → x ≡ collects b command sum → x ≡ opened b command sum
to_collects b command k sum x h q e = rw (h, q) (rw h at e)

-- an arm of a data word
pub to_data : (b : Bridge) (command k : Command) (at : Progress) (w : ℕ) (x : Plan) → command ≡ k
    → x ≡ data_word b k at w → x ≡ data_word b command at w
to_data b command k at w x h e = rw h e

pub told_data : (b : Bridge) (command : Command) (sum : ℕ) (at : Progress) (w : ℕ) (x : Plan) → sum ≡ layouts.crc_step at.crc w
    → x ≡ data_word b command (summed sum at) w → x ≡ data_word b command (summed (layouts.crc_step at.crc w) at) w
told_data b command sum at w x h e = rw h at e

-- an arm of a host word
pub to_planned : (b : Bridge) (p : Phase) (w o : ℕ) (x : Plan) → b.frame.phase ≡ p → x ≡ planned_in layouts b p w o → x ≡ planned layouts b w o
unfolding planned
to_planned b p w o x h e = e ∙ ap (λ (q : Phase). planned_in layouts b q w o) (sym h)

pub to_begin : (b : Bridge) (w o : ℕ) (command : Command) (xmodem : Bool) (start sum : ℕ) (x : Plan) → b.frame.phase ≡ Idle
    → command ≡ layouts.decode b.control.regs.layout w → xmodem ≡ is_xmodem b.control.regs → start ≡ layouts.crc_start xmodem
    → sum ≡ layouts.crc_step start w → x ≡ opened b command sum → x ≡ planned layouts b w o
unfolding planned_in
to_begin b w o command xmodem start sum x h p i s q e = to_planned b Idle w o x h (rw (← i, ← s, ← p, ← q) e)
