-- What proves each demand: the theorem is cited, and nothing is shown here but how the parts of `step` fall out of its definition.
use mathlib.Core.Path.{◌≡◌, refl}
use mathlib.Core.Bool.{true, false}
use mathlib.Core.List.{List}
use Prim.Native.Nat.{ℕ}
use lib.ListN.{length}
use borrow.Author.Tests.{eq-eqb, eqb-true}
use Rattle.base.specs.Pick.{pick, pick_keeps}
use Rattle.command.specs.Layouts.{layouts}
use Rattle.rules.specs.Sound.{sound}
use Rattle.state.specs.Queue.{places}
use Rattle.state.specs.Rings.{tx_size, rx_size}
use Rattle.state.specs.declared.Bridge.{Bridge}
use Rattle.state.specs.declared.Note.TheVariants.{WrongStores, BrokenRecord}
use Rattle.kept.proofs.Fits.{layouts_fit}
use Rattle.kept.proofs.Sound.{facts_sound, sound_facts}
use Rattle.events.specs.Turn.{Out, one_outcome}
use Rattle.events.specs.declared.Event.{Event}
use Rattle.bridge.specs.Step.{step, refused}
use Rattle.bridge.specs.Runs.{Config, RightStores, out_of, next}
use Rattle.bridge.proofs.Reached.{Obeys, step_turn, step_obeys, not_refused}
use Rattle.bridge.proofs.step.Met.{met}
use Rattle.order.proofs.Closed.{demand_3_as_asked}
use Rattle.demands.specs.Demands.{TheCode, Answered, FitAgain, Demand1, Demand2, Demand3}

pub the_code : (M : Type 1) → TheCode M
the_code M = met

module _ (b : Bridge) (tx rx : List ℕ) (e : Event) where
  wrong_stores : (RightStores tx rx → ⊥) → step layouts b tx rx e ≡ refused b tx rx WrongStores
  unfolding step
  wrong_stores h =
      pick_keeps Refused _ _ _
      (λ k. pick_keeps Refused _ _ _ (λ m. absurd (h (record { tx_is = eqb-true _ _ k; rx_is = eqb-true _ _ m }))) (λ m. refl))
      (λ k. refl)
    where
      Refused : Out → Type 0
      Refused o = o ≡ refused b tx rx WrongStores

  broken_record : RightStores tx rx → sound b ≡ false → step layouts b tx rx e ≡ refused b tx rx BrokenRecord
  unfolding step pick
  broken_record s h = rw (eq-eqb (length tx) tx_size s.tx_is, eq-eqb (length rx) rx_size s.rx_is, h) refl

  answered : Answered b tx rx e
  answered = record {
    wrong_stores = wrong_stores;
    broken_record = broken_record;
    carried_out = λ s h. step_turn layouts b tx rx e s.tx_is s.rx_is h;
  }

  again : length b.sending.queue.places ≡ places → RightStores tx rx → sound b ≡ true → FitAgain b tx rx e
  unfolding out_of next
  again l s h =
      let c : Config = record { bridge = b; tx = tx; rx = rx } in
      let o : Obeys c = record { rules = sound_facts b h l; stores = s } in
      let n : Obeys (next layouts c e) = step_obeys layouts layouts_fit c e o in
      record {
        not_refused = not_refused layouts layouts_fit c e o;
        record_again = facts_sound _ n.rules;
        stores_again = n.stores;
      }

pub demand_1 : Demand1
demand_1 = record { answered = answered; again = again }

pub demand_2 : Demand2
demand_2 b tx rx e a c t u r s p q = one_outcome _ a c t u r s p q

pub demand_3 : Demand3
demand_3 good layout tx rx s es p = demand_3_as_asked good layout tx rx s es p
