-- How a list goes on from what such a run left. Assumes nothing.
use mathlib.Core.Path.{◌≡◌, refl, sym, ◌∙◌, ap, subst}
use mathlib.Core.List.{List}
use Prim.Native.Nat.{ℕ, ◌-◌, ◌<◌, ◌≤◌}
use native.Mathlib.Omega.{arith}
use lib.Dec.{ltb}
use borrow.Author.Tests.{lt-ltb, le-ltb}
use Rattle.base.specs.Pick.{pick_true, pick_false}
use Rattle.state.specs.declared.Bridge.{Bridge}
use Rattle.bridge.specs.Fit.{Fit}
use Rattle.listing.specs.Run.{list_of, Gone}
use Rattle.pouring.specs.Pour.{poured, poured_by}
use Rattle.pouring.specs.Poured.{Poured}
use Rattle.pouring.specs.declared.Stream.{Stream}

module _ (records : List ℕ) (many from : ℕ) (b₀ : Bridge) (tx₀ rx₀ s₀ : List ℕ) (k : ℕ) (b : Bridge) (tx rx s : List ℕ)
    (v : Gone records many from b₀ tx₀ rx₀ s₀ k b tx rx s) where
  module _ (to : ℕ) (st : Stream) (t u : List ℕ) (w : Poured records many b k tx s to st t u) where
    gone_on_lem : (x : Bridge) → x ≡ poured_by (ltb k to) b st → Gone records many from b₀ tx₀ rx₀ s₀ to x t rx u
    gone_on_lem x e = record {
      whole = ap (λ (y : Bridge). list_of records (many - to) to y t rx u) e ∙ w.whole rx ∙ v.whole;
      fit = subst (λ (y : Bridge). Fit y t rx) (sym e) (w.fit rx v.fit);
      least = omega (arith, v.least, w.least);
      within = w.most;
      list = record { events = v.list.events; bytes = v.list.bytes; room = rw w.size v.list.room };
      size = w.size ∙ v.size;
    }

    -- some words were done
    pub poured_on_lem : (x : Bridge) → k < to → x ≡ poured b st → Gone records many from b₀ tx₀ rx₀ s₀ to x t rx u
    poured_on_lem x l e = gone_on_lem x (e ∙ pick_true (ltb k to) _ _ _ (lt-ltb k to l) refl)

    -- none was
    pub unpoured : to ≤ k → Gone records many from b₀ tx₀ rx₀ s₀ k b t rx u
    unpoured l =
        let z : to ≡ k = omega (arith, w.least) in
        subst (λ (m : ℕ). Gone records many from b₀ tx₀ rx₀ s₀ m b t rx u) z (gone_on_lem b (pick_false (ltb k to) _ _ _ (le-ltb k to l) refl))
