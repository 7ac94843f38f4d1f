-- The sender's piece with what is left of its command, from bit to bit (01 The line, "A command is one 0, then each word .., then END").
-- Assumes nothing.
use mathlib.Core.Path.{◌≡◌, refl}
use mathlib.Core.Bool.{Bool, true, false, not, ◌&&◌, ◌||◌}
use Prim.Native.Nat.{ℕ, ◌+◌, ◌-◌, ◌≤◌, ◌<◌}
use native.Mathlib.Omega.{arith}
use lib.Dec.{ltb, leb, eqb}
use borrow.Author.Tests.{ltb-true, leb-true, eqb-true, eqb-false, lt-ltb, le-leb, eq-eqb}
use Rattle.base.specs.Pick.{pick, and_l, and_r}
use Rattle.base.specs.Truth.{never, and_none, or_true}
use Rattle.line.specs.Format.{piece_length}
use Rattle.line.specs.declared.Piece.{Piece}
use Rattle.line.specs.declared.Piece.TheVariants.{Pause, StartBit, WordPiece, EndPiece}
use Rattle.rules.specs.Facts.{SenderFit}
use Rattle.line_rules.specs.Line.{end_sound, piece_sound}
use Rattle.state.specs.Queue.{under_way, speaks}
use Rattle.state.specs.declared.Place.{Place}
use Rattle.state.specs.declared.Queue.{Queue}
use Rattle.state.specs.declared.Sender.{Sender}
use Rattle.state.specs.Sending.{idle}
use Rattle.kept.proofs.Standing.{Onward, as_it_was, words_freed, Steady}

-- with no command under way its words and ENDs do not matter
piece_other : (u : Piece) (s : Sender) (p o : Place) → piece_sound u s false p ≡ true → piece_sound u s false o ≡ true
unfolding piece_sound pick
piece_other Pause s p o h = h
piece_other StartBit s p o h =
    let c : false ≡ true = and_r (eqb s.gone 1 && eqb s.left p.words && speaks p && eqb s.ends (p.ends + 1)) false h in cc
piece_other (WordPiece w) s p o h =
    let c : false ≡ true = and_r (ltb 0 s.gone && leb s.gone 17 && ltb s.left p.words && speaks p && eqb s.ends (p.ends + 1)) false h in cc
piece_other EndPiece s p o h = h

-- words that are sent are not
sent_silent : (p : Place) → p.sent ≡ true → speaks p ≡ false
sent_silent p t = rw t (and_none (ltb 0 p.words) false refl)

-- of the command under way what it has still to send matters, and with its words sent its ENDs alone
piece_onward : (u : Piece) (s : Sender) (p o : Place) → Onward p o → piece_sound u s true p ≡ true → piece_sound u s true o ≡ true
unfolding piece_sound
piece_onward Pause s p o k h = h
piece_onward StartBit s p o (as_it_was v x t) h = rw (v, x, t) h
piece_onward StartBit s p o (words_freed t v x) h = let a : speaks p ≡ true = search (and_l, and_r) in never (speaks p) a (sent_silent p t)
piece_onward (WordPiece w) s p o (as_it_was v x t) h = rw (v, x, t) h
piece_onward (WordPiece w) s p o (words_freed t v x) h = let a : speaks p ≡ true = search (and_l, and_r) in never (speaks p) a (sent_silent p t)
piece_onward EndPiece s p o (as_it_was v x t) h = unfold end_sound in rw (v, x, t) (unfold end_sound in h)
piece_onward EndPiece s p o (words_freed t v x) h = unfold end_sound in let a : speaks p ≡ false = sent_silent p t in rw (v, x) (rw a at h)

piece_same : (u : Piece) (s : Sender) (b : Bool) (p o : Place) → (b ≡ true → Onward p o) → piece_sound u s b p ≡ true → piece_sound u s b o ≡ true
piece_same u s true p o e h = piece_onward u s p o (e refl) h
piece_same u s false p o e h = piece_other u s p o h

-- a queue that keeps the command under way keeps the sender's rules
pub fit_steady : (s : Sender) (q r : Queue) → Steady q r → SenderFit s q → SenderFit s r
fit_steady s q r k f = record {
  piece = rw k.busy (piece_same s.piece s (under_way q) _ _ k.last f.piece);
  rest = rw k.busy f.rest;
  over = rw k.speech f.over;
}

-- with words that are sent, or none, by what is left; and at the next bit
end_later : (s : Sender) (p : Place) → speaks p ≡ false → (ltb s.ends p.ends || leb 18 s.gone) ≡ true → end_sound s p ≡ true
unfolding end_sound pick
end_later s p e h = rw e h

end_own : (s : Sender) (p : Place) → speaks p ≡ true → (eqb s.ends p.ends || eqb s.ends 0) ≡ true → end_sound s p ≡ true
unfolding end_sound pick
end_own s p e h = rw e h

end_on : (s : Sender) (p : Place) → end_sound s p ≡ true → end_sound (record { piece = s.piece; gone = s.gone + 1; left = s.left; ends = s.ends }) p ≡ true
unfolding end_sound
end_on s p h = go (speaks p) h
  where
    later : (a : Bool) (g : ℕ) → (a || leb 18 g) ≡ true → (a || leb 18 (g + 1)) ≡ true
    later true g k = refl
    later false g k = let m : 18 ≤ g = leb-true _ _ k in le-leb 18 (g + 1) (omega arith)

    go : (b : Bool) → pick b (eqb s.ends p.ends || eqb s.ends 0) (ltb s.ends p.ends || leb 18 s.gone) ≡ true
        → pick b (eqb s.ends p.ends || eqb s.ends 0) (ltb s.ends p.ends || leb 18 (s.gone + 1)) ≡ true
    go true k = unfold pick in k
    go false k = unfold pick in later (ltb s.ends p.ends) s.gone k

or_on : (a b c : Bool) → (b ≡ true → c ≡ true) → (a || b) ≡ true → (a || c) ≡ true
or_on true b c h k = refl
or_on false b c h k = h k

module _ (s : Sender) (busy : Bool) (p : Place) where
  -- an idle sender's piece goes with no command
  pub piece_rests : (u : Piece) (o : Place) → piece_sound u s busy p ≡ true → s.left ≡ 0 → s.ends ≡ 0 → piece_sound u s false o ≡ true
  unfolding piece_sound pick
  piece_rests Pause o h l e =
      let a : eqb s.gone 0 ≡ true = search (and_l, and_r) in
      let b : eqb s.left 0 ≡ true = search (and_l, and_r) in
      let c : leb s.ends 1 ≡ true = search (and_l, and_r) in rw (a, b, c)
  piece_rests StartBit o h l e =
      let a : s.left ≡ p.words = eqb-true _ _ (search (and_l, and_r)) in
      let b : 0 < p.words = ltb-true _ _ (search (and_l, and_r)) in absurd (omega arith)
  piece_rests (WordPiece w) o h l e = let a : s.ends ≡ p.ends + 1 = eqb-true _ _ (search (and_l, and_r)) in absurd (omega arith)
  piece_rests EndPiece o h l e =
      let a : ltb 0 s.gone ≡ true = search (and_l, and_r) in
      let b : leb s.gone 18 ≡ true = search (and_l, and_r) in
      let c : eqb s.left 0 ≡ true = search (and_l, and_r) in rw (a, b, c, le-leb s.ends 0 (omega arith))

  last_end : speaks p ≡ true
      → (leb 0 (pick busy p.ends 0) && (not busy || end_sound (record { piece = EndPiece; gone = 1; left = 0; ends = 0 }) p)) ≡ true
  last_end d =
      rw (le-leb 0 (pick busy p.ends 0) (omega arith)) (or_on (not busy) true _ (λ z. end_own _ p d (or_true (eqb 0 p.ends))) (or_true (not busy)))

  -- the next bit of the piece
  pub piece_goes_on : (u : Piece) → piece_sound u s busy p ≡ true → s.gone < piece_length u
      → piece_sound u (record { piece = s.piece; gone = s.gone + 1; left = s.left; ends = s.ends }) busy p ≡ true
  unfolding piece_sound
  piece_goes_on Pause h g = absurd (omega arith)
  piece_goes_on StartBit h g = let a : s.gone ≡ 1 = eqb-true _ _ (search (and_l, and_r)) in absurd (omega arith)
  piece_goes_on (WordPiece w) h g =
      let a : ltb s.left p.words ≡ true = search (and_l, and_r) in
      let b : eqb s.ends (p.ends + 1) ≡ true = search (and_l, and_r) in
      let c : busy ≡ true = search (and_l, and_r) in
      let d : speaks p ≡ true = search (and_l, and_r) in
      rw (lt-ltb 0 (s.gone + 1) (omega arith), le-leb (s.gone + 1) 17 (omega arith), a, b, c, d)
  piece_goes_on EndPiece h g =
      let a : eqb s.left 0 ≡ true = search (and_l, and_r) in
      let b : leb s.ends (pick busy p.ends 0) ≡ true = search (and_l, and_r) in
      let d : (not busy || end_sound s p) ≡ true = and_r (ltb 0 s.gone && leb s.gone 18 && eqb s.left 0 && leb s.ends (pick busy p.ends 0)) _ h in
      rw (lt-ltb 0 (s.gone + 1) (omega arith), le-leb (s.gone + 1) 18 (omega arith), a, b) (or_on (not busy) _ _ (end_on s p) d)

  -- a word follows the start bit or a word
  pub piece_loaded : (u : Piece) (w : ℕ) → piece_sound u s busy p ≡ true → 0 < s.left
      → piece_sound (WordPiece w) (record { piece = WordPiece w; gone = 1; left = s.left - 1; ends = s.ends }) busy p ≡ true
  unfolding piece_sound
  piece_loaded Pause w h l = let a : s.left ≡ 0 = eqb-true _ _ (search (and_l, and_r)) in absurd (omega arith)
  piece_loaded StartBit w h l =
      let a : s.left ≡ p.words = eqb-true _ _ (search (and_l, and_r)) in
      let b : eqb s.ends (p.ends + 1) ≡ true = search (and_l, and_r) in
      let c : busy ≡ true = search (and_l, and_r) in
      let d : speaks p ≡ true = search (and_l, and_r) in rw (lt-ltb (s.left - 1) p.words (omega arith), b, c, d)
  piece_loaded (WordPiece v) w h l =
      let a : s.left < p.words = ltb-true _ _ (search (and_l, and_r)) in
      let b : eqb s.ends (p.ends + 1) ≡ true = search (and_l, and_r) in
      let c : busy ≡ true = search (and_l, and_r) in
      let d : speaks p ≡ true = search (and_l, and_r) in rw (lt-ltb (s.left - 1) p.words (omega arith), b, c, d)
  piece_loaded EndPiece w h l = let a : s.left ≡ 0 = eqb-true _ _ (search (and_l, and_r)) in absurd (omega arith)

  -- an END follows the last word, an END, or the pause after a transmit clear
  pub piece_ended : (u : Piece) → piece_sound u s busy p ≡ true → s.left ≡ 0 → 0 < s.ends → piece_length u ≤ s.gone → (18 ≤ s.gone → busy ≡ true → speaks p ≡ false)
      → piece_sound EndPiece (record { piece = EndPiece; gone = 1; left = 0; ends = s.ends - 1 }) busy p ≡ true
  unfolding piece_sound pick
  piece_ended Pause h l m o k =
      let a : s.ends ≤ 1 = leb-true _ _ (search (and_l, and_r)) in
      let b : not busy ≡ true = search (and_l, and_r) in
      rw (le-leb (s.ends - 1) (pick busy p.ends 0) (omega arith), b)
  piece_ended StartBit h l m o k =
      let a : s.left ≡ p.words = eqb-true _ _ (search (and_l, and_r)) in
      let b : 0 < p.words = ltb-true _ _ (search (and_l, and_r)) in absurd (omega arith)
  piece_ended (WordPiece w) h l m o k =
      let a : s.ends ≡ p.ends + 1 = eqb-true _ _ (search (and_l, and_r)) in
      let c : busy ≡ true = search (and_l, and_r) in
      let d : speaks p ≡ true = search (and_l, and_r) in
      rw (c, le-leb (s.ends - 1) p.ends (omega arith)) (end_own _ p d (rw (eq-eqb (s.ends - 1) p.ends (omega arith))))
  piece_ended EndPiece h l m o k = let b : s.ends ≤ pick busy p.ends 0 = leb-true _ _ (search (and_l, and_r)) in go busy b (k o)
    where
      go : (t : Bool) → s.ends ≤ pick t p.ends 0 → (t ≡ true → speaks p ≡ false)
          → (leb (s.ends - 1) (pick t p.ends 0) && (not t || end_sound (record { piece = EndPiece; gone = 1; left = 0; ends = s.ends - 1 }) p)) ≡ true
      go true b n =
          rw (le-leb (s.ends - 1) p.ends (omega arith)) (end_later _ p (n refl) (rw (lt-ltb (s.ends - 1) p.ends (omega arith))))
      go false b n = absurd (omega arith)

  -- TX empty with words left: one END, the last
  pub piece_starved : (u : Piece) → piece_sound u s busy p ≡ true → 0 < s.left
      → piece_sound EndPiece (record { piece = EndPiece; gone = 1; left = 0; ends = 0 }) busy p ≡ true
  unfolding piece_sound
  piece_starved Pause h l = let a : s.left ≡ 0 = eqb-true _ _ (search (and_l, and_r)) in absurd (omega arith)
  piece_starved StartBit h l = let d : speaks p ≡ true = search (and_l, and_r) in last_end d
  piece_starved (WordPiece w) h l = let d : speaks p ≡ true = search (and_l, and_r) in last_end d
  piece_starved EndPiece h l = let a : s.left ≡ 0 = eqb-true _ _ (search (and_l, and_r)) in absurd (omega arith)

  -- eighteen bits gone are an END's; not idle, it is followed by others
  pub piece_over : (u : Piece) → u ≡ s.piece → piece_sound u s busy p ≡ true → 18 ≤ s.gone → idle s ≡ false → 0 < s.ends
  unfolding piece_sound
  piece_over Pause e h g i = let a : s.gone ≡ 0 = eqb-true _ _ (search (and_l, and_r)) in absurd (omega arith)
  piece_over StartBit e h g i = let a : s.gone ≡ 1 = eqb-true _ _ (search (and_l, and_r)) in absurd (omega arith)
  piece_over (WordPiece w) e h g i = let a : s.gone ≤ 17 = leb-true _ _ (search (and_l, and_r)) in absurd (omega arith)
  piece_over EndPiece e h g i =
      let a : eqb s.left 0 ≡ true = search (and_l, and_r) in
      let b : eqb s.ends 0 ≡ false = rw (← e, a, le-leb 18 s.gone g) at i in
      let c = eqb-false s.ends 0 b in omega arith

  -- so they are the command's extra ones, and the piece goes with any that has as many and whose words are sent
  pub piece_spoken : (u : Piece) (o : Place) → busy ≡ true → piece_sound u s busy p ≡ true → 18 ≤ s.gone → o.ends ≡ p.ends
      → (s.ends ≤ p.ends) × (speaks o ≡ false → piece_sound u s true o ≡ true)
  unfolding piece_sound pick
  piece_spoken Pause o y h g x = let a : s.gone ≡ 0 = eqb-true _ _ (search (and_l, and_r)) in absurd (omega arith)
  piece_spoken StartBit o y h g x = let a : s.gone ≡ 1 = eqb-true _ _ (search (and_l, and_r)) in absurd (omega arith)
  piece_spoken (WordPiece w) o y h g x = let a : s.gone ≤ 17 = leb-true _ _ (search (and_l, and_r)) in absurd (omega arith)
  piece_spoken EndPiece o y h g x =
      let a : ltb 0 s.gone ≡ true = search (and_l, and_r) in
      let b : leb s.gone 18 ≡ true = search (and_l, and_r) in
      let c : eqb s.left 0 ≡ true = search (and_l, and_r) in
      let d : leb s.ends (pick busy p.ends 0) ≡ true = search (and_l, and_r) in
      let k : leb s.ends p.ends ≡ true = rw y at d in
      let m : leb s.ends o.ends ≡ true = rw (← x) at k in
      (leb-true _ _ k, λ n. rw (a, b, c, m) (end_later s o n (rw (le-leb 18 s.gone g) (or_true (ltb s.ends o.ends)))))
