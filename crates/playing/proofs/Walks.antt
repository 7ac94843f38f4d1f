-- Laws of the head of a script, of the texts that say what is wrong, and of the room, as the functions' proofs ask them. Assumes nothing.
use mathlib.Core.Path.{◌≡◌, ◌∙◌, ap}
use mathlib.Core.Bool.{Bool, true, false}
use mathlib.Core.List.{List, []}
use Prim.Native.Nat.{ℕ, ◌+◌, ◌-◌, ◌/◌, ◌≤◌, ◌<◌}
use native.Mathlib.Omega.{arith}
use lib.ListN.{length}
use lib.Seq.{sets}
use Rattle.base.specs.Pick.{pick_told, pick_denied, pick_le, pick_not_le}
use Rattle.command.specs.Layouts.{layouts}
use Rattle.state.specs.Power.{power_up}
use Rattle.state.specs.declared.Bridge.{Bridge}
use Rattle.script.specs.Script.{is_head}
use Rattle.script.specs.declared.Line.{Line}
use Rattle.playing.specs.declared.Part.{Part}
use Rattle.playing.specs.Playing.{bad_script, bytes_of, played, room, End, end, placed, shown, play, begun, begin}
use Rattle.playing.specs.Walk.{part_of}
use Rattle.playing.proofs.Laws.{front}

-- a text's line has room where its eleven bytes have
module _ (text line : Line) (e : line ≡ text) (l : text.length ≡ 11) where
  pub text_length : line.length ≤ 17
  text_length = let m : line.length ≡ 11 = ap (λ (x : Line). x.length) e ∙ l in omega arith

  pub text_fits : (at n : ℕ) → at + 11 ≤ n → at + line.length ≤ n
  text_fits at n h = let m : line.length ≡ 11 = ap (λ (x : Line). x.length) e ∙ l in omega arith

pub text_put : (text line : Line) (cells c : List ℕ) (at : ℕ) → line ≡ text → c ≡ sets cells at (bytes_of line) → c ≡ sets cells at (bytes_of text)
text_put text line cells c at e h = h ∙ ap (λ (x : Line). sets cells at (bytes_of x)) e

-- the head
module _ (head cells : List ℕ) (t : Bool) (b : Bridge) (o : t ≡ is_head head) (u : b ≡ power_up) where
  made_begun : (n : ℕ) (on : Bool) (p : Part) (c : List ℕ) → p ≡ part_of b n on → begun p c ≡ begun (part_of power_up n on) c
  made_begun n on p c e = ap (λ (x : Part). begun x c) (e ∙ ap (λ (x : Bridge). part_of x n on) u)

  pub to_head : (p : Part) → t ≡ true → p ≡ part_of b 0 true → begun p cells ≡ begin head cells
  unfolding begin
  to_head p h e = pick_told t _ _ _ _ o h (made_begun 0 true p cells e)

  pub to_bad_head : (p : Part) (c : List ℕ) → t ≡ false → 11 ≤ length cells → p ≡ part_of b 11 false → c ≡ sets cells 0 (bytes_of bad_script)
      → begun p c ≡ begin head cells
  unfolding begin
  to_bad_head p c h r e f =
      let q : c ≡ placed (bytes_of bad_script) cells =
      f ∙ ap (λ (x : End). x.out) (front (record { bridge = b; tx = []; rx = []; printed = bytes_of bad_script; on = false }) cells r) in
      pick_denied t _ _ _ _ o h (pick_le 11 (length cells) _ _ _ r (made_begun 11 false p c e ∙ ap (λ (x : List ℕ). begun (part_of power_up 11 false) x) q))

  pub to_no_room : (p : Part) → t ≡ false → length cells < 11 → p ≡ part_of b 0 false → begun p cells ≡ begin head cells
  unfolding begin
  to_no_room p h r e = pick_denied t _ _ _ _ o h (pick_not_le 11 (length cells) _ _ _ r (made_begun 0 false p cells e))

-- a part, with room or without
module _ (b : Bridge) (tx rx records cells : List ℕ) where
  no_room : (p : Part) → length cells < room records → p ≡ part_of b 0 false → end p tx rx cells ≡ play layouts b tx rx records cells
  unfolding play
  no_room p h e = pick_not_le (room records) (length cells) _ _ _ h (ap (λ (x : Part). end x tx rx cells) e)

  pub to_small : (p : Part) → length cells < 11 → p ≡ part_of b 0 false → end p tx rx cells ≡ play layouts b tx rx records cells
  to_small p h e = no_room p (omega arith) e

  pub to_smaller : (p : Part) → (length cells - 11) / 17 < length records / 3 → p ≡ part_of b 0 false → end p tx rx cells ≡ play layouts b tx rx records cells
  to_smaller p h e = no_room p (omega arith) e

  pub to_play : (x : End) → 11 ≤ length cells → length records / 3 ≤ (length cells - 11) / 17 → x ≡ shown (played layouts b tx rx records) cells
      → x ≡ play layouts b tx rx records cells
  unfolding play
  to_play x h k e = let m : room records ≤ length cells = omega arith in pick_le (room records) (length cells) _ _ _ m e
