-- A part of a frame is the rule of crates/host for it. Assumes nothing.
use mathlib.Core.Path.{◌≡◌, refl, ◌∙◌}
use Prim.Native.Nat.{ℕ}
use lib.Dec.{ltb}
use Rattle.base.specs.Pick.{pick, pick_keeps}
use Rattle.command.specs.Layouts.{Layouts}
use Rattle.state.specs.Frame.{data_words, progress}
use Rattle.state.specs.declared.Bridge.{Bridge}
use Rattle.state.specs.declared.Phase.{Phase}
use Rattle.state.specs.declared.Phase.TheVariants.{Idle, Collecting, Answering, Discarding}
use Rattle.host.specs.Frames.{summed, planned_in, planned}
use Rattle.frames_found.specs.Found.{part_of, Ruled}

module _ (l : Layouts) (b : Bridge) (w x : ℕ) where
  ruled_in : (ph : Phase) → planned l b w x ≡ planned_in l b ph w x → Ruled l b w x (part_of l b.control.regs.layout ph w)
  unfolding part_of planned_in pick
  ruled_in Idle e = e
  ruled_in (Collecting command got sum mine released blocked) e =
      pick_keeps (Ruled l b w x) (ltb got (data_words command)) _ _
      (λ t. record {
        so_far = summed (l.crc_step sum w) (progress got sum mine released blocked);
        number_is = refl;
        rule_is = e ∙ rw t refl;
      })
      (λ t. record { mine = mine; blocked = blocked; rule_is = e ∙ rw t refl })
  ruled_in (Answering reply sum) e = tt
  ruled_in Discarding e = tt

  pub ruled : Ruled l b w x (part_of l b.control.regs.layout b.frame.phase w)
  unfolding planned
  ruled = ruled_in b.frame.phase refl
