-- Demand 3 read off a night's own results. Assumes nothing.
use mathlib.Core.Path.{◌≡◌, refl, sym, subst}
use mathlib.Core.Bool.{Bool, true}
use mathlib.Core.List.{List}
use Prim.Native.Nat.{ℕ, ◌*◌, ◌≤◌}
use native.Mathlib.Omega.{arith}
use lib.ListN.{length, drop}
use Rattle.layout.specs.declared.Layout.{Layout}
use Rattle.layout.specs.declared.Layout.TheVariants.{Ours}
use Rattle.command.specs.Layouts.{layouts}
use Rattle.kept.proofs.Fits.{layouts_fit}
use Rattle.kept.proofs.Sound.{facts_sound}
use Rattle.events.specs.declared.Event.{Event}
use Rattle.bridge.specs.Runs.{Config, RightStores, power_on}
use Rattle.bridge.proofs.Reached.{Obeys, power_obeys}
use Rattle.order.specs.Demand.{Faithful}
use Rattle.order.proofs.Closed.{demand_3, demand_3_as_asked, demand_3_script_as_asked}
use Rattle.whole_night.specs.Night.{events, events_in, all_done, night}
use Rattle.whole_night.proofs.Theorems.{all_done_lem}
use Rattle.night_order.specs.InOrder.{NightInOrder, InOrderOfANight, InOrderAsAsked, InOrderOfAScript}
use Rattle.night_order.proofs.Line.{bits_in_results}

-- What holds of a run holds of what the call gives for it, if it is done.
module _ (c : Config) (es : List Event) (s : List ℕ) (f : Faithful layouts c es) where
  when_done : NightInOrder c es (all_done layouts c es s)
  when_done =
      let bits = bits_in_results layouts c es (drop (length es * 4) s) in
      record {
        outcome = refl;
        done = refl;
        in_order = rw bits f.in_order;
        exactly = rw bits f.exactly;
        all_sent = λ d. rw bits (f.all_sent d);
        exactly_all = λ d. rw bits (f.exactly_all d);
      }

  pub of_the_run : (records : List ℕ) → events_in records ≡ events es → length es * 4 ≤ length s → Obeys c
      → NightInOrder c es (night layouts c records s)
  of_the_run records told room o =
      subst (NightInOrder c es) (sym (all_done_lem c records s es told (omega (arith, room)) o.stores (facts_sound c.bridge o.rules)))
      when_done

module _ (good : Bool) (layout : Layout) (tx rx : List ℕ) (stores : RightStores tx rx) where
  power : Obeys (power_on good layout tx rx)
  power = power_obeys layouts layouts_fit good layout tx rx stores

pub in_order_of_a_night : InOrderOfANight
in_order_of_a_night good layout tx rx stores records s es told room p =
    of_the_run (power_on good layout tx rx) es s (demand_3 good layout tx rx stores es p) records told (omega (arith, room)) (power good layout tx rx stores)

pub in_order_as_asked : InOrderAsAsked
in_order_as_asked good layout tx rx stores records s es told room p =
    of_the_run (power_on good layout tx rx) es s (demand_3_as_asked good layout tx rx stores es p) records told (omega (arith, room)) (power good layout tx rx stores)

pub in_order_of_a_script : InOrderOfAScript
in_order_of_a_script good layout tx rx stores records s es told room p =
    of_the_run (power_on true Ours tx rx) _ s (demand_3_script_as_asked good layout tx rx stores es p) records told (omega (arith, room))
    (power true Ours tx rx stores)
