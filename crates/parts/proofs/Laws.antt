-- Laws of the numbers and the variants: four numbers come back, five marks come back, and a variant does. Assumes nothing.
use mathlib.Core.Path.{◌≡◌, refl, sym, ◌∙◌, ap}
use mathlib.Core.Bool.{Bool, true, false}
use Prim.Native.Nat.{ℕ, ◌<◌, ◌≤◌, ◌+◌, ◌*◌, ◌%◌}
use native.Mathlib.Omega.{arith}
use borrow.Author.Tests.{eq-eqb, ne_eqb}
use Rattle.base.specs.Bits.{word_end, val, val_le, bit, odd}
use Rattle.base.specs.Pick.{pick}
use Rattle.command.specs.declared.Command.{Command}
use Rattle.command.specs.declared.Command.TheVariants.{Filler, Malformed, Forward, DataRead, RegisterWrite, RegisterRead, SoftReset}
use Rattle.layout.specs.declared.Layout.{Layout}
use Rattle.layout.specs.declared.Layout.TheVariants.{Ours, Makers}
use Rattle.line.specs.declared.Ear.{Ear}
use Rattle.line.specs.declared.Ear.TheVariants.{Quiet, Group, Lost}
use Rattle.line.specs.declared.Piece.{Piece}
use Rattle.line.specs.declared.Piece.TheVariants.{Pause, StartBit, WordPiece, EndPiece}
use Rattle.registers.specs.declared.Mode.{Mode}
use Rattle.registers.specs.declared.Mode.TheVariants.{Normal, Init, Failsafe}
use Rattle.state.specs.declared.Phase.{Phase}
use Rattle.state.specs.declared.Phase.TheVariants.{Idle, Collecting, Answering, Discarding}
use Rattle.state.specs.declared.Reply.{Reply}
use Rattle.state.specs.declared.Reply.TheVariants.{Status, Data, Registers, Check}
use Rattle.parts.specs.Numbers.{four, first, second, third, fourth, Four, five}
use Rattle.parts.specs.Variants.{parts, mode_number, mode_of, layout_number, layout_of, piece_parts, piece_of, ear_parts, ear_of, command_parts, command_of, reply_parts, reply_of, phase_parts, open_parts, phase_of}
use Rattle.parts.specs.declared.Parts.{Parts}

pub four_back : (a b c d : ℕ) → a < 65536 → b < 65536 → c < 65536 → d < 65536 → Four (four a b c d) a b c d
unfolding four first second third fourth
four_back a b c d ha hb hc hd = record {
  is = refl;
  gives_first = omega arith;
  gives_second = omega arith;
  gives_third = omega arith;
  gives_fourth = omega arith;
}

-- the lowest mark is the lowest bit, and the others are the marks of the half
mark_low : (a : Bool) (n : ℕ) → odd (val a + n * 2) ≡ a
unfolding odd val
mark_low true n = eq-eqb ((1 + n * 2) % 2) 1 (omega arith)
mark_low false n = ne_eqb ((0 + n * 2) % 2) 1 (λ h. omega (arith, h))

module _ (a b c d e : Bool) where
  abbrev n : ℕ
  n = five a b c d e

  pub first_mark : bit 0 n ≡ a
  unfolding bit five
  first_mark = ap (λ (k : ℕ). odd k) (omega arith) ∙ mark_low a (val b + val c * 2 + val d * 4 + val e * 8)

  pub second_mark : bit 1 n ≡ b
  unfolding bit five
  second_mark = let h : val a ≤ 1 = val_le a in ap (λ (k : ℕ). odd k) (omega (arith, h)) ∙ mark_low b (val c + val d * 2 + val e * 4)

  pub third_mark : bit 2 n ≡ c
  unfolding bit five
  third_mark =
      let h : val a ≤ 1 = val_le a in let i : val b ≤ 1 = val_le b in
      ap (λ (k : ℕ). odd k) (omega (arith, h, i)) ∙ mark_low c (val d + val e * 2)

  pub fourth_mark : bit 3 n ≡ d
  unfolding bit five
  fourth_mark =
      let h : val a ≤ 1 = val_le a in let i : val b ≤ 1 = val_le b in let j : val c ≤ 1 = val_le c in
      ap (λ (k : ℕ). odd k) (omega (arith, h, i, j)) ∙ mark_low d (val e)

  pub fifth_mark : bit 4 n ≡ e
  unfolding bit five
  fifth_mark =
      let h : val a ≤ 1 = val_le a in let i : val b ≤ 1 = val_le b in let j : val c ≤ 1 = val_le c in let k : val d ≤ 1 = val_le d in
      ap (λ (m : ℕ). odd m) (omega (arith, h, i, j, k)) ∙ mark_low e 0

-- a variant comes back from its numbers
pub mode_back : (m : Mode) → mode_of (mode_number m) ≡ m
unfolding mode_of pick
mode_back Normal = refl
mode_back Init = refl
mode_back Failsafe = refl

pub layout_back : (k : Layout) → layout_of (layout_number k) ≡ k
unfolding layout_of pick
layout_back Ours = refl
layout_back Makers = refl

pub piece_back : (p : Piece) → piece_of (piece_parts p).kind (piece_parts p).a ≡ p
unfolding piece_of pick
piece_back Pause = refl
piece_back StartBit = refl
piece_back (WordPiece word) = refl
piece_back EndPiece = refl

pub ear_back : (e : Ear) → ear_of (ear_parts e).kind (ear_parts e).a (ear_parts e).b (ear_parts e).c (ear_parts e).d ≡ e
unfolding ear_of pick
ear_back Quiet = refl
ear_back (Group number value bits ones) = refl
ear_back (Lost ones) = refl

-- of the parts of a phase, three numbers are kept; of what it holds, two
abbrev pub threefold : Parts → Parts
threefold p = parts p.kind p.a p.b p.c 0 p.x p.y

abbrev pub plain : Parts → Parts
plain p = parts p.kind p.a p.b 0 0 p.x p.y

pub command_back : (c : Command) → command_of (plain (command_parts c)) ≡ c
unfolding command_of pick
command_back Filler = refl
command_back Malformed = refl
command_back (Forward crc words ends reads) = refl
command_back (DataRead crc words) = refl
command_back (RegisterWrite crc address count) = refl
command_back (RegisterRead crc address count) = refl
command_back SoftReset = refl

pub reply_back : (r : Reply) → reply_of (plain (reply_parts r)) ≡ r
unfolding reply_of pick
reply_back (Status value) = refl
reply_back (Data left) = refl
reply_back (Registers address left) = refl
reply_back Check = refl

pub phase_back : (p : Phase) → phase_of (threefold (phase_parts p)) (plain (open_parts p)) ≡ p
unfolding phase_of phase_parts open_parts pick
phase_back Idle = refl
phase_back (Collecting command got crc mine released blocked) = ap (λ (c : Command). Collecting c got crc mine released blocked) (command_back command)
phase_back (Answering reply crc) = ap (λ (r : Reply). Answering r crc) (reply_back reply)
phase_back Discarding = refl

-- the numbers of a variant that an arm knows
pub to_piece : (p q : Piece) (x : Parts) → p ≡ q → x ≡ piece_parts q → x ≡ piece_parts p
to_piece p q x e f = f ∙ ap (λ (v : Piece). piece_parts v) (sym e)

pub to_ear : (p q : Ear) (x : Parts) → p ≡ q → x ≡ ear_parts q → x ≡ ear_parts p
to_ear p q x e f = f ∙ ap (λ (v : Ear). ear_parts v) (sym e)

pub to_command : (p q : Command) (x : Parts) → p ≡ q → x ≡ command_parts q → x ≡ command_parts p
to_command p q x e f = f ∙ ap (λ (v : Command). command_parts v) (sym e)

pub to_reply : (p q : Reply) (x : Parts) → p ≡ q → x ≡ reply_parts q → x ≡ reply_parts p
to_reply p q x e f = f ∙ ap (λ (v : Reply). reply_parts v) (sym e)

pub to_phase : (p q : Phase) (x : Parts) → p ≡ q → x ≡ phase_parts q → x ≡ phase_parts p
to_phase p q x e f = f ∙ ap (λ (v : Phase). phase_parts v) (sym e)

pub to_open : (p q : Phase) (x : Parts) → p ≡ q → x ≡ open_parts q → x ≡ open_parts p
to_open p q x e f = f ∙ ap (λ (v : Phase). open_parts v) (sym e)
