-- Record rules of runs (01 Notes, note 2: "every state reached from power-up obeys them, every step keeps them"), with no premise on the
-- events; so no event of a run from power-up is refused.
use Rattle.std.specs.Prelude.{Option, None, Some}
use mathlib.Core.Path.{◌≡◌, refl, ◌∙◌}
use mathlib.Core.Bool.{Bool, true, false, not, ◌||◌}
use mathlib.Core.List.{List, [], ◌∷◌}
use Prim.Native.Nat.{ℕ}
use lib.Dec.{eqb}
use lib.ListN.{length, length-set}
use borrow.Author.Tests.{eq-eqb}
use Rattle.layout.specs.declared.Layout.{Layout}
use Rattle.base.specs.Pick.{pick, pick_keeps}
use Rattle.command.specs.Layouts.{Layouts}
use Rattle.rules.specs.Sound.{sound}
use Rattle.state.specs.Notes.{note_number}
use Rattle.state.specs.Rings.{tx_size, rx_size, written}
use Rattle.state.specs.declared.Bridge.{Bridge}
use Rattle.state.specs.declared.Note.{Note}
use Rattle.state.specs.declared.Ring.{Ring}
use Rattle.kept.proofs.Fits.{LayoutFit}
use Rattle.kept.proofs.Sound.{sound_facts, facts_sound}
use Rattle.kept.specs.Rules.{BridgeRules}
use Rattle.ticks.specs.Ticks.{tick_note, tick_ends, tick_hears, ticked}
use Rattle.clock.specs.Clock.{clocked}
use Rattle.events.specs.Events.{reacted}
use Rattle.events.specs.Turn.{turned, turn}
use Rattle.events.specs.declared.Event.{Event}
use Rattle.events.specs.declared.Event.TheVariants.{Power, Word, Release, Tick, Clock as ClockReading}
use Rattle.events.proofs.Keeps.{rules_keep}
use Rattle.events.proofs.Quiet.{power_keeps}
use Rattle.bridge.specs.Step.{step}
use Rattle.bridge.specs.Runs.{Config, RightStores, Whole, refuses, out_of, next, end_of, power_on}
use Rattle.bridge.proofs.Plans.{of_host, tame_word, tame_release}

-- Without notes 1 and 2 an event is its rule carried out.
pub step_turn : (l : Layouts) (b : Bridge) (tx rx : List ℕ) (e : Event) → length tx ≡ tx_size → length rx ≡ rx_size → sound b ≡ true
    → step l b tx rx e ≡ turn l b tx rx e
unfolding step pick
step_turn l b tx rx e t r s = rw (eq-eqb (length tx) tx_size t, eq-eqb (length rx) rx_size r, s)

-- A store keeps its length.
pub length_written : (size : ℕ) (cells : List ℕ) (r : Ring) (st : Option ℕ) → length (written size cells r st) ≡ length cells
unfolding written
length_written size cells r None = refl
length_written size cells r (Some w) = length-set cells _ w

-- The notes of events that are not refused.
not_refusal : (n : Note) → of_host n ≡ true → refuses n ≡ false
unfolding of_host
not_refusal n h = go (refuses n) (eqb (note_number n) 13) h
  where
    go : (a c : Bool) → not (a || c) ≡ true → a ≡ false
    go true c k = cc
    go false c k = refl

tick_not_refusal : (starved full : Bool) → refuses (tick_note starved full) ≡ false
unfolding tick_note refuses
tick_not_refusal starved full =
    pick_keeps (λ (n : Note). refuses n ≡ false) _ _ _ (λ t. refl)
    (λ t. pick_keeps (λ (n : Note). refuses n ≡ false) _ _ _ (λ u. refl) (λ u. refl))

reacted_not_refusal : (l : Layouts) (b : Bridge) (e : Event) (w x : ℕ) → refuses (reacted l b e w x).note ≡ false
unfolding reacted ticked tick_hears tick_ends clocked refuses
reacted_not_refusal l b (Power good layout) w x = refl
reacted_not_refusal l b (Word word) w x = not_refusal _ (tame_word b l word x).note
reacted_not_refusal l b Release w x = not_refusal _ (tame_release b b.frame.phase).note
reacted_not_refusal l b (Tick sin) w x = tick_not_refusal _ _
reacted_not_refusal l b (ClockReading reading) w x = refl

-- What every moment of a run obeys.
pub record Obeys (c : Config) : Type 0 where
  pub rules : BridgeRules c.bridge
  pub stores : RightStores c.tx c.rx

pub obeys_whole : (c : Config) → Whole c → Obeys c
obeys_whole c w = record { rules = sound_facts c.bridge w.rules w.eight; stores = w.stores }

module _ (l : Layouts) (fits : LayoutFit l) where
  -- there an event is its rule carried out
  pub obeyed_turn : (c : Config) (e : Event) → Obeys c → out_of l c e ≡ turn l c.bridge c.tx c.rx e
  unfolding out_of
  obeyed_turn c e o =
      step_turn l c.bridge c.tx c.rx e o.stores.tx_is o.stores.rx_is (facts_sound c.bridge o.rules)

  -- "every step keeps them"
  pub step_obeys : (c : Config) (e : Event) → Obeys c → Obeys (next l c e)
  unfolding next turn turned
  step_obeys c e o =
      rw (obeyed_turn c e o)
      (record {
        rules = rules_keep l fits c.bridge e _ _ o.rules;
        stores = record {
          tx_is = length_written tx_size c.tx _ _ ∙ o.stores.tx_is;
          rx_is = length_written rx_size c.rx _ _ ∙ o.stores.rx_is;
        };
      })

  pub run_obeys : (c : Config) (es : List Event) → Obeys c → Obeys (end_of l c es)
  unfolding end_of
  run_obeys c [] o = o
  run_obeys c (e ∷ es) o = run_obeys (next l c e) es (step_obeys c e o)

  pub not_refused : (c : Config) (e : Event) → Obeys c → refuses (out_of l c e).answer.note ≡ false
  unfolding turn turned
  not_refused c e o = rw (obeyed_turn c e o) (reacted_not_refusal l c.bridge e _ _)

  module _ (good : Bool) (layout : Layout) (tx rx : List ℕ) (stores : RightStores tx rx) where
    pub power_obeys : Obeys (power_on good layout tx rx)
    unfolding power_on
    power_obeys = record { rules = power_keeps good layout; stores = stores }

    -- "every state reached from power-up obeys them"
    pub reached : (es : List Event) → sound (end_of l (power_on good layout tx rx) es).bridge ≡ true
    reached es = facts_sound _ (run_obeys (power_on good layout tx rx) es power_obeys).rules

    -- no event of a run from power-up has note 1 or 2
    pub none_refused : (es : List Event) (e : Event) → refuses (out_of l (end_of l (power_on good layout tx rx) es) e).answer.note ≡ false
    none_refused es e = not_refused _ e (run_obeys (power_on good layout tx rx) es power_obeys)
