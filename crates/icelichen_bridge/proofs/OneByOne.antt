-- From `icelichen_power_up` on, calls of `icelichen_event` are a run of the bridge: the same answers, the same state, the same stores, and none is refused.
-- So demand 3, which is about such runs, holds of what a program in C sends. Assumes nothing.
use Rattle.std.specs.Prelude.{Option, Some}
use mathlib.Core.Path.{◌≡◌, refl, sym, ◌∙◌, ap, ap₂}
use mathlib.Core.Bool.{Bool, true, false}
use mathlib.Core.List.{List, [], ◌∷◌}
use Prim.Native.Nat.{ℕ, zero, suc, ◌<◌}
use native.Mathlib.Omega.{arith}
use Rattle.base.specs.Pick.{pick, pick_lt, pick_false}
use Rattle.command.specs.Layouts.{layouts}
use Rattle.layout.specs.declared.Layout.{Layout}
use Rattle.layout.specs.declared.Layout.TheVariants.{Ours, Makers}
use Rattle.state.specs.Power.{power_up_in}
use Rattle.state.specs.declared.Bridge.{Bridge}
use Rattle.state.specs.declared.Note.TheVariants.{BrokenRecord}
use Rattle.kept.proofs.Fits.{layouts_fit}
use Rattle.events.specs.Events as Events
use Rattle.events.specs.declared.Event.{Event}
use Rattle.events.specs.declared.Event.TheVariants.{Power}
use Rattle.bridge.specs.Runs.{Config, RightStores, refuses, out_of, next, end_of, power_on}
use Rattle.bridge.specs.Step.{refused, step}
use Rattle.bridge.proofs.Reached.{Obeys, step_obeys, not_refused, power_obeys}
use Rattle.script.specs.Script.{record_of, power_record}
use Rattle.listing.specs.Results.{bit_byte}
use Rattle.whole_night.specs.Numbered.{config}
use Rattle.cells.specs.Cells.{record_of as record_at}
use Rattle.cells.specs.Lent.{is_record, broken, lent}
use Rattle.icelichen_bridge.specs.Calls.{Called, called, unless, answer_number, answer_of, event_by, event_on, event_leaves, power_by, power_leaves}
use Rattle.icelichen_bridge.specs.Run.{Lent, stand, Call, PoweredUp, Made, Link, Chained, left_after, events_of, answers_of, answers_in, SameRun}

-- one call
module _ (a b : Lent) (kind value answer : ℕ) (e : Event) (says : event_by kind value ≡ Some e) (call : Call a kind value answer b) where
  pub its_answer : answer ≡ answer_of (out_of layouts (stand a) e).answer
  unfolding event_on out_of
  its_answer = ap (λ (c : Called ℕ). c.answer) (call.is ∙ ap (λ (r : Option Event). event_on layouts r a.cells a.tx a.rx) says)

  pub its_state : Obeys (stand a) → stand b ≡ next layouts (stand a) e
  unfolding event_on event_leaves out_of next unless pick
  its_state o =
      ap₂ (λ (r : Bridge) (c : Called ℕ). config r c.tx c.rx)
      (call.leaves ∙ ap (λ (r : Option Event). event_leaves layouts r (lent a.cells) a.tx a.rx) says ∙ ap (λ (t : Bool). pick t (lent a.cells) (out_of layouts (stand a) e).answer.state) (not_refused layouts layouts_fit (stand a) e o))
      (call.is ∙ ap (λ (r : Option Event). event_on layouts r a.cells a.tx a.rx) says)

same_run : (a : Lent) (ms : List Made) → Chained a ms → Obeys (stand a) → SameRun a ms
unfolding Chained answers_of answers_in events_of left_after end_of
same_run a [] links o = record { answers = refl; left = refl }
same_run a (m ∷ ms) (link, links) o =
    let state = its_state a m.left m.kind m.value m.answer m.event link.says link.call o in
    let answer = its_answer a m.left m.kind m.value m.answer m.event link.says link.call in
    let obeys : Obeys (stand m.left) = rw state (step_obeys layouts layouts_fit (stand a) m.event o) in
    let rest = same_run m.left ms links obeys in
    record {
      answers = ap₂ (λ (x : ℕ) (xs : List ℕ). x ∷ xs) answer (rest.answers ∙ ap (λ (c : Config). answers_in layouts c (events_of ms)) state);
      left = rest.left ∙ ap (λ (c : Config). end_of layouts c (events_of ms)) state;
    }

-- Each number of a power-up says the event that it says in a script, and gives what that event gives.
pub record PowerIs (power : ℕ) : Type 0 where
  pub good : Bool
  pub layout : Layout
  pub says : event_by 0 power ≡ Some (Power good layout)
  pub gives : power_by power ≡ Events.powered good layout

pub power_is : (power : ℕ) → power < 4 → PowerIs power
unfolding event_by record_of power_record power_by Events.powered pick
power_is zero h = record { good = false; layout = Ours; says = refl; gives = refl }
power_is (suc zero) h = record { good = true; layout = Ours; says = refl; gives = refl }
power_is (suc (suc zero)) h = record { good = false; layout = Makers; says = refl; gives = refl }
power_is (suc (suc (suc zero))) h = record { good = true; layout = Makers; says = refl; gives = refl }
power_is (suc (suc (suc (suc n)))) h = absurd (omega (arith, h))

-- From power-up on, whatever the memory held, with stores of the right lengths.
module _ (power answer : ℕ) (was cells tx rx : List ℕ) (up : PoweredUp power answer was cells) (known : power < 4) (stores : RightStores tx rx) where
  abbrev start : Lent
  start = record { cells = cells; tx = tx; rx = rx }

  abbrev its : PowerIs power
  its = power_is power known

  pub powered_as : stand start ≡ power_on its.good its.layout tx rx
  unfolding power_leaves power_on
  powered_as =
      ap (λ (b : Bridge). config b tx rx) (up.leaves ∙ sym (pick_lt power 4 _ _ _ known (sym its.gives)))

  pub from_power_up : (ms : List Made) → Chained start ms → SameRun start ms
  from_power_up ms links =
      same_run start ms links (rw powered_as (power_obeys layouts layouts_fit its.good its.layout tx rx stores))

-- Memory that no power-up wrote, or that was damaged so that it is no record's: note 2, with all as it was.
module _ (cells tx rx : List ℕ) (damaged : is_record cells ≡ false) (stores : RightStores tx rx) where
  lent_broken : lent cells ≡ broken
  unfolding lent
  lent_broken = sym (pick_false (is_record cells) broken (record_at cells) broken damaged refl)

  step_refuses : (e : Event) → step layouts broken tx rx e ≡ refused broken tx rx BrokenRecord
  unfolding step pick power_up_in
  step_refuses e = rw (stores.tx_is, stores.rx_is)

  pub refused_as_broken : (e : Event) → event_on layouts (Some e) cells tx rx ≡ called 0x02FFFF01 cells tx rx
  unfolding event_on unless answer_number refuses pick bit_byte
  refused_as_broken e = rw (lent_broken, step_refuses e)
