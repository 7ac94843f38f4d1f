-- Whole records played, and then the rest of the script, are the script played at once: the bench may read it in parts. Assumes nothing.
use Rattle.std.specs.Prelude.{Option, None, Some}
use mathlib.Core.Path.{◌≡◌, refl, sym, ◌∙◌, ap}
use mathlib.Core.Bool.{Bool, true, false}
use mathlib.Core.List.{List, [], ◌∷◌, ◌++◌, append_assoc}
use Prim.Native.Nat.{ℕ, ◌%◌}
use native.Mathlib.Omega.{arith}
use lib.ListN.{length}
use Rattle.base.specs.Pick.{pick}
use Rattle.command.specs.Layouts.{Layouts}
use Rattle.state.specs.declared.Bridge.{Bridge}
use Rattle.events.specs.declared.Event.{Event}
use Rattle.bridge.specs.Step.{step}
use Rattle.script.specs.Script.{value_of, record_of}
use Rattle.playing.specs.Playing.{bytes_of, line_for, Played, stopped, after, judged, played, followed}

after_pick : (text : List ℕ) (p q : Played) (t : Bool) → after text (pick t (after p.printed q) p) ≡ pick t (after (text ++ p.printed) q) (after text p)
unfolding pick
after_pick text p q true =
    ap (λ (x : List ℕ). record { bridge = q.bridge; tx = q.tx; rx = q.rx; printed = x; on = q.on })
    (sym (append_assoc text p.printed q.printed))
after_pick text p q false = refl

module _ (l : Layouts) (rest : List ℕ) where
  after_followed : (text : List ℕ) (p : Played) → after text (followed l p rest) ≡ followed l (after text p) rest
  unfolding followed
  after_followed text p = after_pick text p (played l p.bridge p.tx p.rx rest) p.on

  abbrev record_then : Bridge → List ℕ → List ℕ → ℕ → ℕ → List ℕ → Option Event → Played
  record_then b tx rx kind value records r =
      judged r (λ (e : Event). after (bytes_of (line_for kind value (step l b tx rx e).answer))
      (played l (step l b tx rx e).answer.state (step l b tx rx e).tx (step l b tx rx e).rx records)) (stopped b tx rx)

  by_record : (records : List ℕ) → ((b : Bridge) (tx rx : List ℕ) → played l b tx rx (records ++ rest) ≡ followed l (played l b tx rx records) rest)
      → (b : Bridge) (tx rx : List ℕ) (kind value : ℕ) (r : Option Event)
      → record_then b tx rx kind value (records ++ rest) r ≡ followed l (record_then b tx rx kind value records r) rest
  unfolding judged followed pick
  by_record records ih b tx rx kind value (Some e) =
      let text : List ℕ = bytes_of (line_for kind value (step l b tx rx e).answer) in
      let o = step l b tx rx e in
      ap (λ (p : Played). after text p) (ih o.answer.state o.tx o.rx)
      ∙ after_followed text (played l o.answer.state o.tx o.rx records)
  by_record records ih b tx rx kind value None = refl

  pub joined : (records : List ℕ) (b : Bridge) (tx rx : List ℕ) → length records % 3 ≡ 0
      → played l b tx rx (records ++ rest) ≡ followed l (played l b tx rx records) rest
  unfolding played followed pick
  joined [] b tx rx h = refl
  joined (kind ∷ []) b tx rx h = absurd (omega arith)
  joined (kind ∷ high ∷ []) b tx rx h = absurd (omega arith)
  joined (kind ∷ high ∷ low ∷ records) b tx rx h =
      by_record records (λ c t r. joined records c t r (omega arith)) b tx rx kind (value_of high low) (record_of kind (value_of high low))
