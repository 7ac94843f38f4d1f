-- A record comes back from its cells: part by part, from what the cells give. Assumes nothing.
use mathlib.Core.Path.{◌≡◌, refl, sym, ◌∙◌, ap}
use mathlib.Core.List.{List, [], ◌∷◌}
use Prim.Native.Nat.{ℕ, zero, suc}
use lib.ListN.{length, get_or}
use Rattle.registers.specs.declared.Control.{Control}
use Rattle.state.specs.Queue.{place_at, no_place}
use Rattle.state.specs.declared.Bridge.{Bridge}
use Rattle.state.specs.declared.Clock.{Clock}
use Rattle.state.specs.declared.Frame.{Frame}
use Rattle.state.specs.declared.Place.{Place}
use Rattle.state.specs.declared.Queue.{Queue}
use Rattle.state.specs.declared.Reader.{Reader}
use Rattle.state.specs.declared.Sender.{Sender}
use Rattle.parts.specs.Numbers.{Four}
use Rattle.parts.specs.Variants.{mode_number, layout_number, piece_parts, ear_parts, phase_parts, open_parts}
use Rattle.parts.proofs.Laws.{first_mark, second_mark, third_mark, fourth_mark, fifth_mark, mode_back, layout_back, piece_back, ear_back, phase_back}
use Rattle.cells.specs.Cells.{mark, state_marks, host_marks, store_marks, line_marks, frame_marks, place_marks, held_at, flags_of, control_of, place_of, sender_of, reader_of, clock_of, phase_at, held_of, frame_of, queue_of, record_of, cells_of}
use Rattle.cells.specs.Lent.{Image}

pub control_back : {n0 n1 n2 : ℕ} (c : Control)
    → Four n0 mark (mode_number c.mode) (layout_number c.regs.layout) (state_marks c)
    → Four n1 (host_marks c.flags) (store_marks c.flags) c.flags.bad_word c.regs.spictrl
    → Four n2 c.regs.ccsictrl c.regs.txfflvl c.regs.rxfflvl c.regs.diagmask
    → control_of n0 n1 n2 ≡ c
unfolding control_of flags_of
control_back c f g h =
    simp (f.gives_second, f.gives_third, f.gives_fourth, g.gives_first, g.gives_second, g.gives_third, g.gives_fourth, h.gives_first, h.gives_second, h.gives_third, h.gives_fourth, mode_back, layout_back, first_mark, second_mark, third_mark, fourth_mark, fifth_mark)

pub place_back : {n marks : ℕ} (p : Place) → Four n p.words p.ends p.crc_sent p.crc_read → marks ≡ place_marks p → place_of n marks ≡ p
unfolding place_of
place_back p f e = rw (f.gives_first, f.gives_second, f.gives_third, f.gives_fourth, e, first_mark, second_mark, third_mark, fourth_mark, fifth_mark)

pub sender_back : {n4 n5 u v marks : ℕ} (s : Sender) → Four n4 u v s.gone s.left → Four n5 s.ends (piece_parts s.piece).kind (piece_parts s.piece).a marks
    → sender_of n4 n5 ≡ s
unfolding sender_of
sender_back s f g = rw (f.gives_third, f.gives_fourth, g.gives_first, g.gives_second, g.gives_third, piece_back)

pub reader_back : {n5 n6 n7 a b c d e f : ℕ} (g : Reader) (k : Clock) → Four n5 a b c (line_marks g k)
    → Four n6 (ear_parts g.ear).kind (ear_parts g.ear).a (ear_parts g.ear).b (ear_parts g.ear).c → Four n7 (ear_parts g.ear).d d e f
    → reader_of n5 n6 n7 ≡ g
unfolding reader_of
reader_back g k f h i = simp (f.gives_fourth, h.gives_first, h.gives_second, h.gives_third, h.gives_fourth, i.gives_first, ear_back, first_mark, second_mark, third_mark)

pub clock_back : {n5 n7 a b c d : ℕ} (g : Reader) (k : Clock) → Four n5 a b c (line_marks g k) → Four n7 d k.reading k.mark k.watch_mark
    → clock_of n5 n7 ≡ k
unfolding clock_of
clock_back g k f h = simp (f.gives_fourth, h.gives_second, h.gives_third, h.gives_fourth, fourth_mark, fifth_mark)

pub phase_at_back : {n8 n9 : ℕ} (f : Frame)
    → Four n8 (phase_parts f.phase).kind (phase_parts f.phase).a (phase_parts f.phase).b (phase_parts f.phase).c
    → Four n9 (open_parts f.phase).kind (open_parts f.phase).a (open_parts f.phase).b (frame_marks f)
    → phase_at n8 n9 ≡ f.phase
unfolding phase_at
phase_at_back f g h =
    simp (g.gives_first, g.gives_second, g.gives_third, g.gives_fourth, h.gives_first, h.gives_second, h.gives_third, h.gives_fourth, first_mark, second_mark, third_mark, fourth_mark, phase_back)

-- a list by its elements
module _ {A : Type 0} (d : A) where
  abbrev from : ℕ → ℕ → List A → List A
  from zero i l = []
  from (suc n) i l = get_or l i d ∷ from n (suc i) l

  from_next : (n i : ℕ) (x : A) (l : List A) → from n (suc i) (x ∷ l) ≡ from n i l
  from_next zero i x l = refl
  from_next (suc n) i x l = ap (λ (t : List A). get_or l i d ∷ t) (from_next n (suc i) x l)

  from_all : (l : List A) → from (length l) 0 l ≡ l
  from_all [] = refl
  from_all (x ∷ l) = ap (λ (t : List A). x ∷ t) (from_next (length l) 0 x l ∙ from_all l)

  listed : (n : ℕ) (l : List A) → length l ≡ n → from n 0 l ≡ l
  listed n l h = rw (← h) (from_all l)

pub frame_back : {n8 n9 n10 n11 n12 : ℕ} (f : Frame)
    → Four n8 (phase_parts f.phase).kind (phase_parts f.phase).a (phase_parts f.phase).b (phase_parts f.phase).c
    → Four n9 (open_parts f.phase).kind (open_parts f.phase).a (open_parts f.phase).b (frame_marks f)
    → Four n10 (held_at f 0) (held_at f 1) (held_at f 2) (held_at f 3)
    → Four n11 (held_at f 4) (held_at f 5) (held_at f 6) (held_at f 7)
    → Four n12 (held_at f 8) (held_at f 9) (held_at f 10) (held_at f 11)
    → length f.held ≡ 12
    → frame_of n8 n9 n10 n11 n12 ≡ f
unfolding frame_of held_of
frame_back f g h i j k l =
    simp (phase_at_back f g h, i.gives_first, i.gives_second, i.gives_third, i.gives_fourth, j.gives_first, j.gives_second, j.gives_third, j.gives_fourth, k.gives_first, k.gives_second, k.gives_third, k.gives_fourth, h.gives_fourth, fifth_mark)
    (ap (λ (w : List ℕ). record { phase = f.phase; held = w; xmodem = f.xmodem }) (listed 0 12 f.held l))

-- the whole record
module _ {n0 n1 n2 n3 n4 n5 n6 n7 n8 n9 n10 n11 n12 n13 n14 n15 n16 n17 n18 n19 n20 n21 n22 : ℕ} {p0 p1 p2 p3 p4 p5 p6 p7 : Place} (b : Bridge)
    (eight : length b.sending.queue.places ≡ 8) (twelve : length b.frame.held ≡ 12)
    (e0 : p0 ≡ place_at b.sending.queue 0)
    (e1 : p1 ≡ place_at b.sending.queue 1)
    (e2 : p2 ≡ place_at b.sending.queue 2)
    (e3 : p3 ≡ place_at b.sending.queue 3)
    (e4 : p4 ≡ place_at b.sending.queue 4)
    (e5 : p5 ≡ place_at b.sending.queue 5)
    (e6 : p6 ≡ place_at b.sending.queue 6)
    (e7 : p7 ≡ place_at b.sending.queue 7)
    (f0 : Four n0 mark (mode_number b.control.mode) (layout_number b.control.regs.layout) (state_marks b.control))
    (f1 : Four n1 (host_marks b.control.flags) (store_marks b.control.flags) b.control.flags.bad_word b.control.regs.spictrl)
    (f2 : Four n2 b.control.regs.ccsictrl b.control.regs.txfflvl b.control.regs.rxfflvl b.control.regs.diagmask)
    (f3 : Four n3 b.sending.tx.head b.sending.tx.count b.receiving.rx.head b.receiving.rx.count)
    (f4 : Four n4 b.sending.queue.used b.sending.queue.begun b.sending.sender.gone b.sending.sender.left)
    (f5 : Four n5 b.sending.sender.ends (piece_parts b.sending.sender.piece).kind (piece_parts b.sending.sender.piece).a (line_marks b.receiving.reader b.clock))
    (f6 : Four n6 (ear_parts b.receiving.reader.ear).kind (ear_parts b.receiving.reader.ear).a (ear_parts b.receiving.reader.ear).b (ear_parts b.receiving.reader.ear).c)
    (f7 : Four n7 (ear_parts b.receiving.reader.ear).d b.clock.reading b.clock.mark b.clock.watch_mark)
    (f8 : Four n8 (phase_parts b.frame.phase).kind (phase_parts b.frame.phase).a (phase_parts b.frame.phase).b (phase_parts b.frame.phase).c)
    (f9 : Four n9 (open_parts b.frame.phase).kind (open_parts b.frame.phase).a (open_parts b.frame.phase).b (frame_marks b.frame))
    (f10 : Four n10 (held_at b.frame 0) (held_at b.frame 1) (held_at b.frame 2) (held_at b.frame 3))
    (f11 : Four n11 (held_at b.frame 4) (held_at b.frame 5) (held_at b.frame 6) (held_at b.frame 7))
    (f12 : Four n12 (held_at b.frame 8) (held_at b.frame 9) (held_at b.frame 10) (held_at b.frame 11))
    (f13 : Four n13 p0.words p0.ends p0.crc_sent p0.crc_read)
    (f14 : Four n14 p1.words p1.ends p1.crc_sent p1.crc_read)
    (f15 : Four n15 p2.words p2.ends p2.crc_sent p2.crc_read)
    (f16 : Four n16 p3.words p3.ends p3.crc_sent p3.crc_read)
    (f17 : Four n17 p4.words p4.ends p4.crc_sent p4.crc_read)
    (f18 : Four n18 p5.words p5.ends p5.crc_sent p5.crc_read)
    (f19 : Four n19 p6.words p6.ends p6.crc_sent p6.crc_read)
    (f20 : Four n20 p7.words p7.ends p7.crc_sent p7.crc_read)
    (f21 : Four n21 (place_marks p0) (place_marks p1) (place_marks p2) (place_marks p3))
    (f22 : Four n22 (place_marks p4) (place_marks p5) (place_marks p6) (place_marks p7)) where
  abbrev cells : List ℕ
  cells = n0 ∷ n1 ∷ n2 ∷ n3 ∷ n4 ∷ n5 ∷ n6 ∷ n7 ∷ n8 ∷ n9 ∷ n10 ∷ n11 ∷ n12 ∷ n13 ∷ n14 ∷ n15 ∷ n16 ∷ n17 ∷ n18 ∷ n19 ∷ n20 ∷ n21 ∷ n22 ∷ []

  queue_back : queue_of cells ≡ b.sending.queue
  unfolding queue_of
  queue_back =
      simp (f4.gives_first, f4.gives_second)
      (ap (λ (l : List Place). record { places = l; used = b.sending.queue.used; begun = b.sending.queue.begun })
      (rw (place_back p0 f13 f21.gives_first, place_back p1 f14 f21.gives_second, place_back p2 f15 f21.gives_third, place_back p3 f16 f21.gives_fourth, place_back p4 f17 f22.gives_first, place_back p5 f18 f22.gives_second, place_back p6 f19 f22.gives_third, place_back p7 f20 f22.gives_fourth, e0, e1, e2, e3, e4, e5, e6, e7) (listed no_place 8 b.sending.queue.places eight)))

  pub image : Image cells b
  unfolding cells_of record_of
  image = record {
    is = rw (f0.is, f1.is, f2.is, f3.is, f4.is, f5.is, f6.is, f7.is, f8.is, f9.is, f10.is, f11.is, f12.is, f13.is, f14.is, f15.is, f16.is, f17.is, f18.is, f19.is, f20.is, f21.is, f22.is, e0, e1, e2, e3, e4, e5, e6, e7);
    back =
        simp (
          control_back b.control f0 f1 f2,
          queue_back,
          sender_back b.sending.sender f4 f5,
          reader_back b.receiving.reader b.clock f5 f6 f7,
          frame_back b.frame f8 f9 f10 f11 f12 twelve,
          clock_back b.receiving.reader b.clock f5 f7,
          f3.gives_first,
          f3.gives_second,
          f3.gives_third,
          f3.gives_fourth,
        );
  }
