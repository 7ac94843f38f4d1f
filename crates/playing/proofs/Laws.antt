-- Laws of the printed text and of its place in the output. Assumes nothing.
use Rattle.std.specs.Prelude.{Option, None, Some}
use mathlib.Core.Path.{◌≡◌, refl, sym, ◌∙◌, ap, ap₂}
use mathlib.Core.Bool.{Bool}
use mathlib.Core.List.{List, [], ◌∷◌, ◌++◌}
use Prim.Native.Nat.{ℕ, zero, suc, ◌+◌, ◌*◌, ◌/◌, ◌≤◌, ◌<◌}
use native.Mathlib.Nat.{add-zero}
use native.Mathlib.Omega.{arith}
use lib.Dec.{lit<}
use lib.ListN.{length, get_or, take, drop, set, length-set, length-append}
use lib.Seq.{sets, sets-eq, take-suc, length-take-le}
use Rattle.base.specs.Pick.{pick_keeps}
use Rattle.command.specs.Layouts.{Layouts}
use Rattle.state.specs.Notes.{note_number}
use Rattle.state.specs.declared.Bridge.{Bridge}
use Rattle.events.specs.declared.Event.{Event}
use Rattle.bridge.specs.Step.{step}
use Rattle.script.specs.Script.{value_of, record_of, line_of}
use Rattle.script.specs.declared.Line.{Line}
use Rattle.playing.specs.Playing.{bytes_of, line_for, Played, stopped, after, judged, played, room, end, shown}
use Rattle.playing.specs.Walk.{part_of, shown_at}

-- stores in a row, and then more of them
pub sets_append : (vs ws l : List ℕ) (i : ℕ) → sets l i (vs ++ ws) ≡ sets (sets l i vs) (i + length vs) ws
sets_append [] ws l i = sym (ap (λ (k : ℕ). sets l k ws) (add-zero i))
sets_append (v ∷ vs) ws l i =
    let e : suc i + length vs ≡ i + suc (length vs) = omega arith in
    sets_append vs ws (set l i v) (suc i) ∙ ap (λ (k : ℕ). sets (sets (set l i v) (suc i) vs) k ws) e

-- so many bytes of a line are put at their places
pub record Put (cells : List ℕ) (at : ℕ) (line : Line) (i : ℕ) (c : List ℕ) : Type 0 where
  pub done : c ≡ sets cells at (take i line.bytes)
  pub some : i ≤ line.length
  pub all : length line.bytes ≡ 17
  pub same : length c ≡ length cells

module _ (cells : List ℕ) (at : ℕ) (line : Line) where
  pub put_begins : length line.bytes ≡ 17 → Put cells at line 0 cells
  put_begins l = record { done = refl; some = omega arith; all = l; same = refl }

  module _ (i : ℕ) (c : List ℕ) (v : Put cells at line i c) where
    -- a turn of the loop
    pub put_again : i < line.length → line.length ≤ 17 → Put cells at line (i + 1) (set c (at + i) (get_or line.bytes i 0))
    put_again h k =
        let bytes : List ℕ = line.bytes in
        let b : ℕ = get_or bytes i 0 in
        let l : length (take i bytes) ≡ i = length-take-le i bytes (omega (arith, v.all)) in
        let n : suc i ≡ i + 1 = omega arith in
        let m : i < length bytes = omega (arith, v.all) in
        record {
          done =
              ap (λ (x : List ℕ). set x (at + i) b) v.done
              ∙ ap (λ (k : ℕ). sets (sets cells at (take i bytes)) (at + k) (b ∷ [])) (sym l)
              ∙ sym (sets_append (take i bytes) (b ∷ []) cells at) ∙ ap (λ (x : List ℕ). sets cells at x) (sym (take-suc bytes i 0 m))
              ∙ ap (λ (k : ℕ). sets cells at (take k bytes)) n;
          some = omega arith;
          all = v.all;
          same = length-set c _ _ ∙ v.same;
        }

    pub put_ends : line.length ≤ i → c ≡ sets cells at (bytes_of line)
    put_ends h =
        let e : i ≡ line.length = omega (arith, v.some) in
        v.done ∙ ap (λ (k : ℕ). sets cells at (take k line.bytes)) e

-- a text and then the rest
pub shown_after : (text : List ℕ) (p : Played) (cells : List ℕ) (at : ℕ) → shown_at p (sets cells at text) (at + length text) ≡ shown_at (after text p) cells at
shown_after text p cells at =
    let a = length-append text p.printed in
    let e : at + length text + length p.printed ≡ at + length (text ++ p.printed) = omega (arith, a) in
    ap₂ (λ (n : ℕ) (c : List ℕ). end (part_of p.bridge n p.on) p.tx p.rx c) e (sym (sets_append text p.printed cells at))

-- a line has sixteen or seventeen bytes
abbrev pub Short : Line → Type 0
Short line = (length (bytes_of line) ≡ line.length) × (line.length ≤ 17)

pub line_short : (kind value note sdo : ℕ) (sout : Bool) → Short (line_of kind value note sdo sout)
unfolding line_of
line_short kind value note sdo sout = pick_keeps Short _ _ _ (λ h. (refl, omega arith)) (λ h. (refl, omega arith))

-- a part prints no more than there is room for
abbrev Fits : ℕ → Played → Type 0
Fits n p = length p.printed ≤ n

module _ (l : Layouts) where
  judged_fits : (rest : List ℕ) → ((b : Bridge) (tx rx : List ℕ) → Fits (room rest) (played l b tx rx rest)) → (b : Bridge) (tx rx : List ℕ) (kind value : ℕ)
      (r : Option Event) → Fits (length rest / 3 * 17 + 28) (judged r (λ (e : Event). after (bytes_of (line_for kind value (step l b tx rx e).answer))
      (played l (step l b tx rx e).answer.state (step l b tx rx e).tx (step l b tx rx e).rx rest)) (stopped b tx rx))
  unfolding judged
  judged_fits rest ih b tx rx kind value (Some e) =
      let a = (step l b tx rx e).answer in
      let line : Line = line_for kind value a in
      let p : Played = played l a.state (step l b tx rx e).tx (step l b tx rx e).rx rest in
      let s = line_short kind value (note_number a.note) a.sdo a.sout in
      let f : length p.printed ≤ room rest = ih _ _ _ in
      let n = length-append (bytes_of line) p.printed in
      omega (arith, s.0, s.1, f, n)
  judged_fits rest ih b tx rx kind value None = omega arith

  pub fits : (records : List ℕ) (b : Bridge) (tx rx : List ℕ) → Fits (room records) (played l b tx rx records)
  unfolding played
  fits [] b tx rx = omega arith
  fits (kind ∷ []) b tx rx = omega arith
  fits (kind ∷ high ∷ []) b tx rx = omega arith
  fits (kind ∷ high ∷ low ∷ rest) b tx rx =
      let f = judged_fits rest (fits rest) b tx rx kind (value_of high low) (record_of kind (value_of high low)) in omega (arith, f)

-- at the front of the output
pub front : (p : Played) (cells : List ℕ) → length p.printed ≤ length cells → shown_at p cells 0 ≡ shown p cells
front p cells h =
    let z : 0 + length p.printed ≡ length p.printed = omega arith in
    ap₂ (λ (n : ℕ) (c : List ℕ). end (part_of p.bridge n p.on) p.tx p.rx c) z
    (sets-eq p.printed cells 0 (omega arith) ∙ ap (λ (k : ℕ). p.printed ++ drop k cells) z)
