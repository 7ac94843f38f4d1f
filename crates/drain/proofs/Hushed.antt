-- Laws of a run of ticks inside a piece, as the functions' proofs ask them. Assumes nothing.
use Rattle.std.specs.Prelude.{Result, Ok, Err}
use mathlib.Core.Path.{◌≡◌, refl, sym, ◌∙◌, ap, subst}
use mathlib.Core.Bool.{Bool, true, false}
use mathlib.Core.List.{List}
use Prim.Native.Nat.{ℕ, suc, ◌+◌, ◌-◌, ◌<◌, ◌≤◌}
use native.Mathlib.Omega.{arith}
use lib.Dec.{ltb}
use borrow.Author.Tests.{lt-ltb, le-ltb, lt-leb, ltb-true}
use Rattle.base.specs.Pick.{pick, pick_true, pick_false, and_r}
use Rattle.command.specs.Layouts.{layouts}
use Rattle.line.specs.Format.{piece_length}
use Rattle.line.specs.Reader.{hear}
use Rattle.state.specs.Facts.{HostFit}
use Rattle.state.specs.declared.Bridge.{Bridge}
use Rattle.events.specs.Turn.{out}
use Rattle.events.specs.declared.Event.TheVariants.{Tick}
use Rattle.quick.specs.Passing.{is_nothing}
use Rattle.bridge.specs.Fit.{Fit, Kept}
use Rattle.bridge.proofs.Keeping.{turn_keeps}
use Rattle.lull.specs.Lull.{hot_of, reach, quiet_by, next_hot, laid_sender, laid, laid_by, quiet_answer}
use Rattle.lull.specs.declared.Hot.{Hot}
use Rattle.lull.proofs.Ticks.{reach_within, gone_within, quiet_turn, was_quiet}
use Rattle.drain.specs.Drain.{at_rest, tick_on, run_of}
use Rattle.drain.specs.Hush.{Hush}
use Rattle.drain.proofs.Laws.{after, Inv}

none_laid : (from : ℕ) (b : Bridge) (h : Hot) → b ≡ laid_by (ltb from from) b false h
none_laid from b h = pick_false (ltb from from) b _ _ (le-ltb from from (omega arith)) refl

pub hush_begins : (budget : ℕ) (b : Bridge) (from : ℕ) (h : Hot) → HostFit b → from < budget → h ≡ hot_of b → Hush budget b from from h
hush_begins budget b from h f l e = record {
  whole = λ tx rx. ap (λ (x : Bridge). run_of layouts (budget - from) from x tx rx) (sym (none_laid from b h));
  fit = λ tx rx i. subst (λ (x : Bridge). Fit x tx rx) (none_laid from b h) i;
  least = omega arith;
  most = omega arith;
  first = λ z. e;
  gone = rw e f.sending.gone;
}

-- inside a piece the line is not at rest
laid_goes : (some : Bool) (b : Bridge) (h : Hot) → (some ≡ false → h ≡ hot_of b) → h.gone < piece_length b.sending.sender.piece
    → at_rest (laid_by some b false h) ≡ false
unfolding pick laid_sender
laid_goes true b h s l = rw (lt-leb (piece_length b.sending.sender.piece) h.gone l) refl
laid_goes false b h s l =
    let m : b.sending.sender.gone < piece_length b.sending.sender.piece
    = subst (λ (g : Hot). g.gone < piece_length b.sending.sender.piece) (s refl) l in
    rw (lt-leb (piece_length b.sending.sender.piece) b.sending.sender.gone m) refl

module _ (budget : ℕ) (b : Bridge) (from ticks : ℕ) (h : Hot) (v : Hush budget b from ticks h) (i : ticks < budget) where
  abbrev before : Bridge
  before = laid_by (ltb from ticks) b false h

  module _ (q : quiet_by h (reach b.sending.sender) false true ≡ true) where
    abbrev none : Bool
    none = is_nothing (hear h.ear true).found

    inside : h.gone < piece_length b.sending.sender.piece
    inside =
        let l : h.gone < reach b.sending.sender = ltb-true _ _ (and_r none (ltb h.gone (reach b.sending.sender)) q) in
        omega (arith, reach_within b.sending.sender)

    ticked : (tx rx : List ℕ) → tick_on layouts before tx rx ≡ out (quiet_answer b false h true) tx rx
    ticked tx rx = quiet_turn (ltb from ticks) b false h true tx rx v.first (λ e. cc) q

    one : (tx rx : List ℕ)
        → after (budget - (ticks + 1)) ticks (out (quiet_answer b false h true) tx rx) ≡ run_of layouts (budget - ticks) ticks before tx rx
    unfolding run_of
    one tx rx =
        let z : budget - ticks ≡ suc (budget - (ticks + 1)) = omega arith in
        sym (ap (after (budget - (ticks + 1)) ticks) (ticked tx rx))
        ∙ pick_false _ _ _ _ (laid_goes (ltb from ticks) b h v.first inside) refl
        ∙ sym (ap (λ (m : ℕ). run_of layouts m ticks before tx rx) z)

    now_some : ltb from (ticks + 1) ≡ true
    now_some = lt-ltb from (ticks + 1) (omega (arith, v.least))

    some_laid : laid b false (next_hot h false true) ≡ laid_by (ltb from (ticks + 1)) b false (next_hot h false true)
    some_laid = pick_true (ltb from (ticks + 1)) _ _ _ now_some refl

    more : Hush budget b from (ticks + 1) (next_hot h false true)
    unfolding pick
    more = record {
      whole = λ tx rx. subst
          (λ (x : Bridge). run_of layouts (budget - (ticks + 1)) (ticks + 1) x tx rx ≡ run_of layouts (budget - from) from b tx rx) some_laid
          (one tx rx ∙ v.whole tx rx);
      fit = λ tx rx f. subst (λ (x : Bridge). Fit x tx rx) some_laid
          (subst Kept (ticked tx rx) (turn_keeps before tx rx (Tick true) (v.fit tx rx f)));
      least = omega (arith, v.least);
      most = omega arith;
      first = λ z. let y : ltb from (ticks + 1) ≡ true = now_some in cc;
      gone = gone_within false none h.gone b.sending.sender q;
    }

  pub hush_more : (n : ℕ) → n ≡ reach b.sending.sender → (q : Result Hot Hot) (g : Hot)
      → q ≡ pick (quiet_by h n false true) (Ok (next_hot h false true)) (Err (next_hot h false true)) → q ≡ Ok g → Hush budget b from (ticks + 1) g
  hush_more n f q g e p =
      let w = was_quiet (quiet_by h n false true) (next_hot h false true) g (sym e ∙ p) in
      rw w.1 (more (subst (λ (m : ℕ). quiet_by h m false true ≡ true) f w.0))

-- every tick of the budget was made
pub hush_end : (budget : ℕ) (b : Bridge) (from ticks : ℕ) (h : Hot) → Hush budget b from ticks h → budget ≤ ticks → Hush budget b from budget h
hush_end budget b from ticks h v l = let z : ticks ≡ budget = omega (arith, v.most) in subst (λ (n : ℕ). Hush budget b from n h) z v

module _ (budget : ℕ) (b₀ : Bridge) (tx₀ rx₀ : List ℕ) (ticks : ℕ) (b : Bridge) (tx rx : List ℕ) (v : Inv budget b₀ tx₀ rx₀ ticks b tx rx) where
  pub hushed : (to : ℕ) (h : Hot) → Hush budget b ticks to h → (x : Bridge) → ticks < to → x ≡ laid b false h → Inv budget b₀ tx₀ rx₀ to x tx rx
  hushed to h w x l e =
      let y : x ≡ laid_by (ltb ticks to) b false h = e ∙ pick_true (ltb ticks to) _ _ _ (lt-ltb ticks to l) refl in
      record {
        whole = ap (λ (z : Bridge). run_of layouts (budget - to) to z tx rx) y ∙ w.whole tx rx ∙ v.whole;
        fit = subst (λ (z : Bridge). Fit z tx rx) (sym y) (w.fit tx rx v.fit);
        lent = v.lent;
      }
