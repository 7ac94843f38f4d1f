-- The line of a run holds SOUT, and not what was read on SIN.
use mathlib.Core.Path.{◌≡◌, refl}
use mathlib.Core.Bool.{Bool, true, false}
use mathlib.Core.List.{List, [], ◌∷◌}
use Prim.Native.Nat.{ℕ}
use Rattle.layout.specs.declared.Layout.{Layout}
use Rattle.base.specs.Pick.{pick}
use Rattle.command.specs.Layouts.{layouts}
use Rattle.registers.specs.Registers.{blocking, power_up_control, power_up_flags}
use Rattle.state.specs.Power.{power_up, power_up_in, bad_control, power_up_bad_in}
use Rattle.next.specs.Next.{choose, bit_sent}
use Rattle.sender.specs.Sender.{sent_by, tick_sender}
use Rattle.kept.proofs.Fits.{layouts_fit}
use Rattle.events.specs.Events.{powered, reacted}
use Rattle.ticks.specs.Ticks.{tick_ends, tick_hears, ticked}
use Rattle.events.specs.Turn.{turned, turn}
use Rattle.events.specs.declared.Event.TheVariants.{Tick}
use Rattle.bridge.specs.Runs.{RightStores, line_bit, sout_of, power_on}
use Rattle.bridge.proofs.Reached.{obeyed_turn, power_obeys}

-- "Idle is 1": at power-up a tick sends it, whatever SIN
pub idle_line : (good sin : Bool) (layout : Layout) (tx rx : List ℕ) → RightStores tx rx → sout_of layouts (power_on good layout tx rx) (Tick sin ∷ []) ≡ true ∷ []
unfolding pick blocking power_up_control power_up_flags power_up_in bad_control power_up_bad_in choose bit_sent sent_by tick_sender powered tick_ends tick_hears ticked reacted turned turn line_bit sout_of power_on
idle_line true sin layout tx rx r = rw (obeyed_turn layouts layouts_fit (power_on true layout tx rx) (Tick sin) (power_obeys layouts layouts_fit true layout tx rx r)) refl
idle_line false sin layout tx rx r = rw (obeyed_turn layouts layouts_fit (power_on false layout tx rx) (Tick sin) (power_obeys layouts layouts_fit false layout tx rx r)) refl
