-- A turn keeps what a turn needs. Assumes nothing.
use mathlib.Core.Path.{◌≡◌, sym, ◌∙◌}
use mathlib.Core.Bool.{Bool, true}
use mathlib.Core.List.{List}
use Prim.Native.Nat.{ℕ}
use lib.ListN.{length}
use Rattle.command.specs.Layouts.{layouts}
use Rattle.state.specs.Rings.{tx_size, rx_size, oldest}
use Rattle.state.specs.declared.Bridge.{Bridge}
use Rattle.rules.specs.Sound.{sound}
use Rattle.kept.proofs.Fits.{layouts_fit}
use Rattle.events.specs.Turn.{Ready, turned, turn}
use Rattle.events.specs.declared.Event.{Event}
use Rattle.events.proofs.Keeps.{keeps, eight_kept}
use Rattle.bridge.specs.Fit.{Fit, Kept}
use Rattle.bridge.proofs.Reached.{length_written}

pub is_ready_lem : (t : Bool) (b : Bridge) (tx rx : List ℕ) → length tx ≡ tx_size → length rx ≡ rx_size → t ≡ sound b → t ≡ true → Ready b tx rx
is_ready_lem t b tx rx h k o f = record { tx_length = h; rx_length = k; rules = sym o ∙ f }

pub turn_keeps : (b : Bridge) (tx rx : List ℕ) (e : Event) → Fit b tx rx → Kept (turn layouts b tx rx e)
unfolding turn turned
turn_keeps b tx rx e f =
    let w : ℕ = oldest tx b.sending.tx in
    let x : ℕ = oldest rx b.receiving.rx in
    record {
      ready = record {
        tx_length = length_written tx_size tx b.sending.tx _ ∙ f.ready.tx_length;
        rx_length = length_written rx_size rx b.receiving.rx _ ∙ f.ready.rx_length;
        rules = keeps layouts layouts_fit b e w x f.eight f.ready.rules;
      };
      eight = eight_kept layouts layouts_fit b e w x f.eight f.ready.rules;
    }
