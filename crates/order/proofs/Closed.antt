-- Demand 3 for the layout in force, from the power-up value and for scripts that begin with a power event. Nothing is left open but the run.
use mathlib.Core.Path.{◌≡◌, refl, sym, subst}
use mathlib.Core.Bool.{Bool, true, false}
use mathlib.Core.List.{List, ◌∷◌}
use Prim.Native.Nat.{ℕ}
use Rattle.layout.specs.declared.Layout.{Layout}
use Rattle.layout.specs.declared.Layout.TheVariants.{Ours}
use Rattle.base.specs.Pick.{pick}
use Rattle.command.specs.Layouts.{Layouts, layouts}
use Rattle.line.specs.Format.{piece_length}
use Rattle.state.specs.Power.{power_up_in, power_up_bad_in}
use Rattle.state.specs.Rings.{written}
use Rattle.kept.proofs.Fits.{LayoutFit, layouts_fit}
use Rattle.events.specs.Events.{powered, reacted}
use Rattle.events.specs.Turn.{turned, turn}
use Rattle.events.specs.declared.Event.{Event}
use Rattle.events.specs.declared.Event.TheVariants.{Power}
use Rattle.bridge.specs.Runs.{Config, RightStores, faults, next, power_on, AllSent}
use Rattle.bridge.proofs.Reached.{obeyed_turn, power_obeys}
use Rattle.order.specs.Premises.{Fair, Premises, AskedPremises}
use Rattle.order.specs.Demand.{Faithful}
use Rattle.order.proofs.Order.{in_order, all_sent, exactly, exactly_all}
use Rattle.order.proofs.Asked.{asked_premises}

module _ (l : Layouts) (fits : LayoutFit l) (tx rx : List ℕ) (stores : RightStores tx rx) where
  faithful : (good : Bool) (layout : Layout) (es : List Event) → Premises l (power_on good layout tx rx) es → Faithful l (power_on good layout tx rx) es
  faithful good layout es p = record {
    in_order = in_order l fits good layout tx rx stores es p;
    exactly = exactly l fits good layout tx rx stores es p;
    all_sent = all_sent l fits good layout tx rx stores es p;
    exactly_all = exactly_all l fits good layout tx rx stores es p;
  }

  -- A power event leaves the power-up value and the stores as lent.
  power_next : (first good : Bool) (from layout : Layout) → next l (power_on first from tx rx) (Power good layout) ≡ power_on good layout tx rx
  unfolding next turn turned reacted written power_on
  power_next first good from layout = rw (obeyed_turn l fits (power_on first from tx rx) (Power good layout) (power_obeys l fits first from tx rx stores)) refl

  -- At power-up nothing accepted is unsent, so a power event is within the premises there.
  power_sent : (good : Bool) (layout : Layout) → AllSent (power_on good layout tx rx).bridge.sending
  unfolding power_on powered pick power_up_in power_up_bad_in
  power_sent true layout = record { idle_sender = refl; none_waits = refl }
  power_sent false layout = record { idle_sender = refl; none_waits = refl }

  power_fair : (first good : Bool) (from layout : Layout) → Fair l (power_on first from tx rx) (Power good layout)
  unfolding turn turned reacted faults
  power_fair first good from layout =
      record {
        typed = tt;
        no_fault = rw (obeyed_turn l fits (power_on first from tx rx) (Power good layout) (power_obeys l fits first from tx rx stores)) refl;
        no_loss = λ h. power_sent first from;
      }

  script_premises : (first good : Bool) (from layout : Layout) (es : List Event) → Premises l (power_on good layout tx rx) es
      → Premises l (power_on first from tx rx) (Power good layout ∷ es)
  script_premises first good from layout es p =
      (power_fair first good from layout, subst (λ (c : Config). Premises l c es) (sym (power_next first good from layout)) p)

module _ (good : Bool) (layout : Layout) (tx rx : List ℕ) (stores : RightStores tx rx) (es : List Event) where
  -- under as little as the proof needs
  pub demand_3 : Premises layouts (power_on good layout tx rx) es → Faithful layouts (power_on good layout tx rx) es
  demand_3 p = faithful layouts layouts_fit tx rx stores good layout es p

  -- under the demand's own premises
  asked : AskedPremises layouts (power_on good layout tx rx) es → Premises layouts (power_on good layout tx rx) es
  asked a = asked_premises layouts layouts_fit (power_on good layout tx rx) es (power_obeys layouts layouts_fit good layout tx rx stores) a

  pub demand_3_as_asked : AskedPremises layouts (power_on good layout tx rx) es → Faithful layouts (power_on good layout tx rx) es
  demand_3_as_asked a = demand_3 (asked a)

  -- "It begins from the power-up value": a script whose first event is a power-up, good or bad, in either layout
  pub demand_3_script : Premises layouts (power_on good layout tx rx) es → Faithful layouts (power_on true Ours tx rx) (Power good layout ∷ es)
  demand_3_script p = faithful layouts layouts_fit tx rx stores true Ours (Power good layout ∷ es) (script_premises layouts layouts_fit tx rx stores true good Ours layout es p)

  pub demand_3_script_as_asked : AskedPremises layouts (power_on good layout tx rx) es → Faithful layouts (power_on true Ours tx rx) (Power good layout ∷ es)
  demand_3_script_as_asked a = demand_3_script (asked a)
