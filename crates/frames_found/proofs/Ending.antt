-- The end of an order's frame: the CRC word leaves the answer that the order asks for (01 Frames, "FWD, REG_WR and reset answer STATUS and its CRC").
use mathlib.Core.Path.{◌≡◌, refl, sym, ◌∙◌, ap}
use mathlib.Core.Bool.{Bool, true}
use mathlib.Core.List.{List, [], ◌∷◌, ◌++◌, append_assoc}
use Prim.Native.Nat.{ℕ, suc, ◌+◌}
use native.Mathlib.Omega.{arith}
use lib.ListN.{length, length-append}
use lib.Seq.{take_at, get_or_at}
use Rattle.crc16.specs.Crc.{crc_word, crc_from}
use Rattle.command.specs.Layout.{decode_by}
use Rattle.command.specs.Layouts.{layouts}
use Rattle.command.specs.declared.Command.{Command}
use Rattle.registers.specs.Spictrl.{is_xmodem}
use Rattle.registers.specs.declared.Regs.{Regs}
use Rattle.state.specs.Frame.{data_words}
use Rattle.kept.proofs.Fits.{layouts_fit}
use Rattle.events.specs.declared.Event.{Event}
use Rattle.events.specs.declared.Event.TheVariants.{Word}
use Rattle.bridge.specs.Runs.{Config, next, end_of}
use Rattle.bridge.proofs.Reached.{Obeys, run_obeys}
use Rattle.order.specs.Framed.{word_of, host_words}
use Rattle.frames.specs.Orders.{within, command_word, meant}
use Rattle.frames.specs.declared.Order.{Order}
use Rattle.frames_found.specs.Frames.{is_command}
use Rattle.frames_found.specs.Found.{unbroken, start_in, frame_in, Awaits}
use Rattle.frames_found.proofs.Decoding.{decodes, brings_words, opens_frame}
use Rattle.frames_found.proofs.Turns.{phase_of, view_of, plan_at, awaits_obeys, obeys_on}
use Rattle.frames_found.proofs.Coming.{Tale, comes, silent}
use Rattle.frames_found.proofs.Collecting.{Gathers, GoesOn, gathers_blocked, Rests, rests_blocked, after_frame}
use Rattle.frames_found.proofs.Meeting.{plan_opens, plan_brings, plan_closes, opens_on, goes_on, ends_phase}

-- a run with one event more
end_snoc : (es : List Event) (c : Config) (e : Event) → end_of layouts c (es ++ (e ∷ [])) ≡ next layouts (end_of layouts c es) e
unfolding end_of
end_snoc [] c e = refl
end_snoc (x ∷ es) c e = end_snoc es (next layouts c x) e

words_snoc : (es : List Event) (w : ℕ) → host_words (es ++ (Word w ∷ [])) ≡ host_words es ++ (w ∷ [])
unfolding host_words word_of
words_snoc [] w = refl
words_snoc (x ∷ es) w = rw (words_snoc es w) (sym (append_assoc (word_of x) (host_words es) (w ∷ [])))

-- two lists that end in one word each
module _ (xs ys : List ℕ) (x y : ℕ) (e : xs ++ (x ∷ []) ≡ ys ++ (y ∷ [])) where
  long : length xs ≡ length ys
  long = omega (arith, length-append xs (x ∷ []), length-append ys (y ∷ []), ap (λ (l : List ℕ). length l) e)

  same_front : xs ≡ ys
  same_front = sym (take_at xs (x ∷ []) (length xs) refl) ∙ rw e (take_at ys (y ∷ []) (length xs) (sym long))

  same_last : x ≡ y
  same_last = sym (get_or_at xs x [] 0 (length xs) refl) ∙ rw e (get_or_at ys y [] 0 (length xs) (sym long))

module _ (command : Command) (is : is_command command ≡ true) where
  -- all data words came, and the CRC word is due
  collects_end : (words : List ℕ) (es : List Event) (c : Config) (got sum : ℕ) (x : Bool) → Obeys c → Gathers command got sum x (view_of c)
      → unbroken es ≡ true → got + length words ≡ data_words command → host_words es ≡ words
      → Gathers command (data_words command) (crc_from sum words) x (view_of (end_of layouts c es))
  unfolding crc_from
  collects_end [] es c got sum x o h u n e =
      let z : data_words command ≡ got = omega arith in
      rw z (silent (Gathers command got sum x) (gathers_blocked command got sum x) es c o h u e).view
  collects_end (w ∷ words) es c got sum x o h u n e =
      let m = comes (Gathers command got sum x) (gathers_blocked command got sum x) es c w words o h u e in
      let g : GoesOn command (suc got) (crc_word sum w) (plan_at m.at w) =
      plan_brings m.at w command is got sum m.view.collects (omega arith) in
      rw (ap (λ (t : Tale). t.end) m.tale_is)
      (collects_end words m.rest _ (suc got) (crc_word sum w) x (obeys_on m.at _ m.obeys)
      (goes_on m.at w m.obeys command _ _ g got sum x m.view) m.on (omega arith) m.words_are)

  idle_end : (es : List Event) (c : Config) (r : Regs) (w : ℕ) (words : List ℕ) → Obeys c → Rests r (view_of c) → unbroken es ≡ true
      → decode_by r.layout w ≡ command → length words ≡ data_words command → host_words es ≡ w ∷ words
      → Gathers command (data_words command) (crc_from (crc_word (start_in r) w) words) (is_xmodem r) (view_of (end_of layouts c es))
  idle_end es c r w words o h u d n e =
      let m = comes (Rests r) (rests_blocked r) es c w words o h u e in
      let g : GoesOn command 0 (crc_word (start_in r) w) (plan_at m.at w) = plan_opens m.at w command is r m.view d in
      rw (ap (λ (t : Tale). t.end) m.tale_is)
      (collects_end words m.rest _ 0 (crc_word (start_in r) w) (is_xmodem r) (obeys_on m.at _ m.obeys)
      (opens_on m.at w m.obeys command _ _ g r m.view) m.on (omega arith) m.words_are)

-- the bridge as the frame's CRC word left it: its answer's CRC is the frame's
pub record Answers (xmodem : Bool) (command : Command) (c : Config) : Type 0 where
  pub obeys : Obeys c
  pub answer_is : phase_of c ≡ after_frame xmodem command c.bridge.control

pub frame_ends : (o : Order) (words : List ℕ) (c : Config) (es : List Event) (w : ℕ) → within o (length words) ≡ true → Awaits c → unbroken es ≡ true
    → host_words (es ++ (Word w ∷ [])) ≡ frame_in c.bridge.control.regs o words
    → Answers (is_xmodem c.bridge.control.regs) (meant o (length words)) (end_of layouts c (es ++ (Word w ∷ [])))
unfolding crc_from
frame_ends o words c es w h a u e =
    let n : ℕ = length words in
    let r : Regs = c.bridge.control.regs in
    let head : ℕ = command_word r.layout o n in
    let f = sym (words_snoc es w) ∙ e in
    let b : Obeys (end_of layouts c es) = run_obeys layouts layouts_fit c es (awaits_obeys c a) in
    let k =
    idle_end (meant o n) (opens_frame o n) es c r head words (awaits_obeys c a) (record { idle = a.idle; regs_are = refl }) u
    (decodes r.layout o n h) (sym (brings_words o n h))
    (same_front (host_words es) (head ∷ words) w (crc_from (start_in r) (head ∷ words)) f) in
    let last = same_last (host_words es) (head ∷ words) w (crc_from (start_in r) (head ∷ words)) f in
    rw (end_snoc es c (Word w))
    (record {
      obeys = obeys_on _ _ b;
      answer_is =
          ends_phase (end_of layouts c es) w b _
          (plan_closes (end_of layouts c es) w (meant o n) (opens_frame o n) _ _ k.collects (omega arith) last)
          ∙ ap (λ (x : Bool). after_frame x (meant o n) (next layouts (end_of layouts c es) (Word w)).bridge.control) k.latched;
    })
