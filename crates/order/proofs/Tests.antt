-- The premises from their test, so that a closed run meets them by computation: the theorems are not empty. Assumes nothing.
use mathlib.Core.Path.{◌≡◌, refl}
use mathlib.Core.Bool.{Bool, true, false, not, ◌&&◌, ◌||◌}
use mathlib.Core.List.{List, [], ◌∷◌}
use borrow.Author.Tests.{ltb-true, eqb-true, not-true}
use Rattle.base.specs.Pick.{and_l, and_r}
use Rattle.command.specs.Layouts.{Layouts}
use Rattle.state.specs.Sending.{idle}
use Rattle.state.specs.declared.Sending.{Sending}
use Rattle.events.specs.declared.Event.{Event}
use Rattle.events.specs.declared.Event.TheVariants.{Power, Word, Release, Tick, Clock as ClockReading}
use Rattle.bridge.specs.Runs.{Config, faults, out_of, next, all_sent, AllSent}
use Rattle.order.specs.Premises.{Typed, losing, Fair, Premises, typed, fair, premises}

is_typed : (e : Event) → typed e ≡ true → Typed e
unfolding typed
is_typed (Power good layout) h = tt
is_typed (Word w) h = ltb-true w 65536 h
is_typed Release h = tt
is_typed (Tick sin) h = tt
is_typed (ClockReading reading) h = ltb-true reading 65536 h

three : (a b c : Bool) → (a && b && c) ≡ true → (a ≡ true) × (b ≡ true) × (c ≡ true)
three true true true h = (refl, refl, refl)
three true true false h = (refl, refl, h)
three true false c h = (refl, h, cc)
three false b c h = (h, cc, cc)

pub is_all_sent : (s : Sending) → all_sent s ≡ true → AllSent s
unfolding all_sent
is_all_sent s h =
    record { idle_sender = and_l (idle s.sender) _ h; none_waits = eqb-true _ _ (and_r (idle s.sender) _ h) }

either : (a c : Bool) → (not a || c) ≡ true → a ≡ true → c ≡ true
either true c h k = h
either false c h k = cc

module _ (l : Layouts) where
  is_fair : (c : Config) (e : Event) → fair l c e ≡ true → Fair l c e
  unfolding fair
  is_fair c e h =
      let a = three (typed e) (not (faults (out_of l c e).answer.note)) _ h in
      record {
        typed = is_typed e a.0;
        no_fault = not-true _ a.1;
        no_loss = λ k. is_all_sent _ (either (losing l c e) _ a.2 k);
      }

  pub are_premises : (c : Config) (es : List Event) → premises l c es ≡ true → Premises l c es
  unfolding premises
  are_premises c [] h = tt
  are_premises c (e ∷ es) h = (is_fair c e (and_l (fair l c e) _ h), are_premises (next l c e) es (and_r (fair l c e) _ h))
