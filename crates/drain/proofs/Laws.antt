-- Laws of a run of ticks, as the functions' proofs ask them. Assumes nothing.
use mathlib.Core.Path.{◌≡◌, refl, sym, ◌∙◌, ap, subst}
use mathlib.Core.Bool.{Bool, true, false}
use mathlib.Core.List.{List}
use Prim.Native.Nat.{ℕ, suc, ◌+◌, ◌-◌, ◌<◌, ◌≤◌}
use native.Mathlib.Omega.{arith}
use lib.Dec.{eqb}
use lib.ListN.{length}
use Rattle.base.specs.Pick.{pick, pick_true, pick_false, pick_eq, pick_ne}
use Rattle.command.specs.Layouts.{layouts}
use Rattle.state.specs.Facts.{HostFit}
use Rattle.state.specs.Notes.{note_number}
use Rattle.state.specs.declared.Bridge.{Bridge}
use Rattle.state.specs.declared.Note.{Note}
use Rattle.state.specs.declared.Note.TheVariants.{Done}
use Rattle.rules.proofs.Facts.{host_fit}
use Rattle.events.specs.Turn.{Out, out, Ready}
use Rattle.events.specs.declared.Answer.{Answer}
use Rattle.events.specs.declared.Event.TheVariants.{Tick}
use Rattle.bridge.specs.Fit.{Fit, Kept}
use Rattle.bridge.proofs.Keeping.{turn_keeps}
use Rattle.drain.specs.Drain.{End, end, stopped, at_rest, tick_on, run_of}
use Rattle.drain.specs.declared.Drained.{Drained}

pub to_refused : (b : Bridge) (tx rx : List ℕ) (n : Note) (d : Drained) → d ≡ record { state = b; ticks = 0; note = n } → end d tx rx ≡ stopped b tx rx 0 n
to_refused b tx rx n d e = ap (λ (x : Drained). end x tx rx) e

-- what is left of the run is the whole run, and what was lent to it
pub record Inv (budget : ℕ) (b₀ : Bridge) (tx₀ rx₀ : List ℕ) (ticks : ℕ) (b : Bridge) (tx rx : List ℕ) : Type 0 where
  pub whole : run_of layouts (budget - ticks) ticks b tx rx ≡ run_of layouts budget 0 b₀ tx₀ rx₀
  pub fit : Fit b tx rx
  pub lent : Ready b₀ tx₀ rx₀

pub begins : (budget : ℕ) (b : Bridge) (tx rx : List ℕ) → Ready b tx rx → length b.sending.queue.places ≡ 8 → Inv budget b tx rx 0 b tx rx
begins budget b tx rx r l =
    let z : budget - 0 ≡ budget = omega arith in
    record { whole = ap (λ (m : ℕ). run_of layouts m 0 b tx rx) z; fit = record { ready = r; eight = l }; lent = r }

-- one turn of the definition, at what the tick left
abbrev pub after : ℕ → ℕ → Out → End
after left ticks o =
    pick (eqb (note_number o.answer.note) 0) (run_of layouts left (ticks + 1) o.answer.state o.tx o.rx)
    (stopped o.answer.state o.tx o.rx (ticks + 1) o.answer.note)

module _ (budget : ℕ) (b₀ : Bridge) (tx₀ rx₀ : List ℕ) (ticks : ℕ) (b : Bridge) (tx rx : List ℕ) (v : Inv budget b₀ tx₀ rx₀ ticks b tx rx) where
  less : ticks < budget → budget - ticks ≡ suc (budget - (ticks + 1))
  less h = omega arith

  pub to_rest : ticks < budget → (i : Bool) → i ≡ at_rest b → i ≡ true → stopped b tx rx ticks Done ≡ run_of layouts budget 0 b₀ tx₀ rx₀
  unfolding run_of
  to_rest h i p q = pick_true _ _ _ _ (sym p ∙ q) refl ∙ sym (ap (λ (m : ℕ). run_of layouts m ticks b tx rx) (less h)) ∙ v.whole

  pub to_budget : budget ≤ ticks → stopped b tx rx ticks Done ≡ run_of layouts budget 0 b₀ tx₀ rx₀
  unfolding run_of
  to_budget h = let z : budget - ticks ≡ 0 = omega arith in sym (ap (λ (m : ℕ). run_of layouts m ticks b tx rx) z) ∙ v.whole

  pub host_now : HostFit b
  host_now = host_fit b v.fit.ready.rules

  module _ (a : Answer) (t r : List ℕ) (e : out a t r ≡ tick_on layouts b tx rx) where
    kept : Fit a.state t r
    kept = subst Kept (sym e) (turn_keeps b tx rx (Tick true) v.fit)

    pub same_tx : length t ≡ length tx₀
    same_tx = kept.ready.tx_length ∙ sym v.lent.tx_length

    pub same_rx : length r ≡ length rx₀
    same_rx = kept.ready.rx_length ∙ sym v.lent.rx_length

    module _ (h : ticks < budget) (i : Bool) (p : i ≡ at_rest b) (q : i ≡ false) (n : ℕ) (m : n ≡ note_number a.note) where
      turned_once : after (budget - (ticks + 1)) ticks (out a t r) ≡ run_of layouts budget 0 b₀ tx₀ rx₀
      unfolding run_of
      turned_once =
          ap (after (budget - (ticks + 1)) ticks) e ∙ pick_false _ _ _ _ (sym p ∙ q) refl
          ∙ sym (ap (λ (k : ℕ). run_of layouts k ticks b tx rx) (less h)) ∙ v.whole

      pub again : n ≡ 0 → Inv budget b₀ tx₀ rx₀ (ticks + 1) a.state t r
      again z = record {
        whole = pick_eq (note_number a.note) 0 _ _ _ (sym m ∙ z) refl ∙ turned_once;
        fit = kept;
        lent = v.lent;
      }

      pub to_note : (n ≡ 0 → ⊥) → stopped a.state t r (ticks + 1) a.note ≡ run_of layouts budget 0 b₀ tx₀ rx₀
      to_note z = pick_ne (note_number a.note) 0 _ _ _ (λ k. z (m ∙ k)) refl ∙ turned_once
