-- Laws of the cells: a cell by what its calls answered. Assumes nothing.
use mathlib.Core.Path.{◌≡◌, refl, sym, ◌∙◌, ap, subst}
use mathlib.Core.Bool.{Bool, true, false, ◌&&◌}
use mathlib.Core.List.{List, [], ◌∷◌}
use Prim.Native.Nat.{ℕ, zero, suc, ◌+◌, ◌≤◌}
use lib.Dec.{eqb}
use native.Mathlib.Omega.{arith}
use borrow.Author.Tests.{eq-eqb}
use Rattle.base.specs.Pick.{pick_true, pick_told, pick_denied, and_both}
use Rattle.registers.specs.declared.Control.{Control}
use Rattle.state.specs.Power.{power_up}
use Rattle.state.specs.declared.Bridge.{Bridge}
use Rattle.state.specs.declared.Clock.{Clock}
use Rattle.state.specs.declared.Frame.{Frame}
use Rattle.state.specs.declared.Phase.{Phase}
use Rattle.state.specs.declared.Place.{Place}
use Rattle.state.specs.declared.Queue.{Queue}
use Rattle.state.specs.declared.Reader.{Reader}
use Rattle.state.specs.declared.Sender.{Sender}
use Rattle.parts.specs.Numbers.{first, second, third, fourth, Four, five}
use Rattle.parts.specs.Variants.{phase_parts, open_parts}
use Rattle.parts.specs.declared.Parts.{Parts}
use Rattle.cells.specs.Cells.{at, place_of, queue_of, control_of, sender_of, reader_of, frame_of, clock_of, record_of, cells_of}
use Rattle.cells.specs.Lent.{same_up_to, is_record, broken, lent, Image}

pub four_by : (n a b c d a' b' c' d' : ℕ) → Four n a b c d → a ≡ a' → b ≡ b' → c ≡ c' → d ≡ d' → Four n a' b' c' d'
four_by n a b c d a' b' c' d' f ea eb ec ed = rw (← ea, ← eb, ← ec, ← ed) f

-- by a variant's parts
module _ (n : ℕ) (p q : Parts) (e : p ≡ q) where
  pub four_parts : Four n p.kind p.a p.b p.c → Four n q.kind q.a q.b q.c
  four_parts f = subst (λ (v : Parts). Four n v.kind v.a v.b v.c) e f

  pub four_last : (b c d : ℕ) → Four n p.d b c d → Four n q.d b c d
  four_last b c d f = subst (λ (v : Parts). Four n v.d b c d) e f

  pub four_piece : (a d d' : ℕ) → d ≡ d' → Four n a p.kind p.a d → Four n a q.kind q.a d'
  four_piece a d d' h f = subst (λ (v : Parts). Four n a v.kind v.a d') e (rw (← h) f)

pub four_open : (n marks : ℕ) (phase : Phase) (p h : Parts) (x : Bool) → p ≡ phase_parts phase → h ≡ open_parts phase → marks ≡ five p.x p.y h.x h.y x
    → Four n h.kind h.a h.b marks
    → Four n (open_parts phase).kind (open_parts phase).a (open_parts phase).b (five (phase_parts phase).x (phase_parts phase).y (open_parts phase).x (open_parts phase).y x)
four_open n marks phase p h x ep eh em f = rw (← ep, ← eh, ← em) f

-- the cells compared so far
module _ (c d : List ℕ) where
  pub same_none : true ≡ same_up_to 0 c d
  unfolding same_up_to
  same_none = refl

  pub same_more : (i : ℕ) (s : Bool) → s ≡ same_up_to i c d → (s && eqb (at c i) (at d i)) ≡ same_up_to (i + 1) c d
  unfolding same_up_to
  same_more i s e = subst (λ (k : ℕ). (s && eqb (at c i) (at d i)) ≡ same_up_to k c d) next (ap (λ (t : Bool). t && eqb (at c i) (at d i)) e)
    where
      next : suc i ≡ i + 1
      next = omega arith

  pub same_all : (i : ℕ) (s : Bool) → s ≡ same_up_to i c d → i ≤ 23 → 23 ≤ i → s ≡ same_up_to 23 c d
  same_all i s e h k = let l : i ≡ 23 = omega arith in subst (λ (n : ℕ). s ≡ same_up_to n c d) l e

-- the queue, and the frame, by what the calls answered
pub to_queue : (cells : List ℕ) (p0 p1 p2 p3 p4 p5 p6 p7 : Place) (m0 m1 m2 m3 m4 m5 m6 m7 u b : ℕ)
    → m0 ≡ first (at cells 21) → p0 ≡ place_of (at cells 13) m0
    → m1 ≡ second (at cells 21) → p1 ≡ place_of (at cells 14) m1
    → m2 ≡ third (at cells 21) → p2 ≡ place_of (at cells 15) m2
    → m3 ≡ fourth (at cells 21) → p3 ≡ place_of (at cells 16) m3
    → m4 ≡ first (at cells 22) → p4 ≡ place_of (at cells 17) m4
    → m5 ≡ second (at cells 22) → p5 ≡ place_of (at cells 18) m5
    → m6 ≡ third (at cells 22) → p6 ≡ place_of (at cells 19) m6
    → m7 ≡ fourth (at cells 22) → p7 ≡ place_of (at cells 20) m7
    → u ≡ first (at cells 4) → b ≡ second (at cells 4)
    → record { places = p0 ∷ p1 ∷ p2 ∷ p3 ∷ p4 ∷ p5 ∷ p6 ∷ p7 ∷ []; used = u; begun = b } ≡ queue_of cells
unfolding queue_of
to_queue cells p0 p1 p2 p3 p4 p5 p6 p7 m0 m1 m2 m3 m4 m5 m6 m7 u b g0 h0 g1 h1 g2 h2 g3 h3 g4 h4 g5 h5 g6 h6 g7 h7 hu hb =
    rw (h0, h1, h2, h3, h4, h5, h6, h7, g0, g1, g2, g3, g4, g5, g6, g7, hu, hb)

pub to_record : (cells : List ℕ) (c : Control) (q : Queue) (s : Sender) (g : Reader) (f : Frame) (k : Clock) (t u v w : ℕ)
    → c ≡ control_of (at cells 0) (at cells 1) (at cells 2) → t ≡ first (at cells 3) → u ≡ second (at cells 3) → q ≡ queue_of cells
    → s ≡ sender_of (at cells 4) (at cells 5) → v ≡ third (at cells 3) → w ≡ fourth (at cells 3)
    → g ≡ reader_of (at cells 5) (at cells 6) (at cells 7)
    → f ≡ frame_of (at cells 8) (at cells 9) (at cells 10) (at cells 11) (at cells 12) → k ≡ clock_of (at cells 5) (at cells 7)
    → record {
      control = c;
      sending = record { tx = record { head = t; count = u }; queue = q; sender = s };
      receiving = record { rx = record { head = v; count = w }; reader = g };
      frame = f;
      clock = k;
    } ≡ record_of cells
unfolding record_of
to_record cells c q s g f k t u v w ec et eu eq es ev ew eg ef ek = rw (ec, et, eu, eq, es, ev, ew, eg, ef, ek)

pub to_broken : (b : Bridge) → b ≡ power_up
    → record {
      control = b.control;
      sending = record { tx = record { head = b.sending.tx.head; count = 0xFFFF }; queue = b.sending.queue; sender = b.sending.sender };
      receiving = b.receiving;
      frame = b.frame;
      clock = b.clock;
    } ≡ broken
to_broken b e = rw e

module _ (cells own : List ℕ) (b : Bridge) (t : Bool) (eb : b ≡ record_of cells) (im : Image own b) (et : t ≡ same_up_to 23 cells own) where
  told : t ≡ is_record cells
  unfolding is_record
  told = et ∙ ap (λ (l : List ℕ). same_up_to 23 cells l) (im.is ∙ ap (λ (v : Bridge). cells_of v) eb)

  pub to_lent : t ≡ true → b ≡ lent cells
  unfolding lent
  to_lent h = pick_told t (is_record cells) b (record_of cells) broken told h eb

  pub to_refused : (x : Bridge) → t ≡ false → x ≡ broken → x ≡ lent cells
  unfolding lent
  to_refused x h e = pick_denied t (is_record cells) x (record_of cells) broken told h e

-- a record's cells stand for it
same_self : (n : ℕ) (c : List ℕ) → same_up_to n c c ≡ true
unfolding same_up_to
same_self zero c = refl
same_self (suc n) c = and_both (same_up_to n c c) (eqb (at c n) (at c n)) (same_self n c) (eq-eqb (at c n) (at c n) refl)

pub image_lent : (cells : List ℕ) (b : Bridge) → Image cells b → lent cells ≡ b
unfolding lent is_record
image_lent cells b im = sym (pick_true (same_up_to 23 cells (cells_of (record_of cells))) b (record_of cells) broken same (sym im.back))
  where
    same : same_up_to 23 cells (cells_of (record_of cells)) ≡ true
    same = rw (im.back, ← im.is) (same_self 23 cells)
