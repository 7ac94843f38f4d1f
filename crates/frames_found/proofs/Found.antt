-- What the writer writes the bridge finds (02 item 1, "the bridge's reader finds that same command"; "open that command, bring exactly those words and close
-- with a right CRC word"), whatever ticks and clock readings come between the words.
use mathlib.Core.Path.{◌≡◌, refl, sym, ◌∙◌, ap}
use mathlib.Core.Bool.{Bool, true}
use mathlib.Core.List.{List, [], ◌∷◌, ◌++◌}
use Prim.Native.Nat.{ℕ, suc, ◌+◌}
use native.Mathlib.Omega.{arith}
use lib.ListN.{length}
use Rattle.base.specs.Pick.{and_both}
use Rattle.crc16.specs.Crc.{crc_word, crc_from}
use Rattle.command.specs.Layout.{decode_by}
use Rattle.command.specs.Layouts.{layouts}
use Rattle.command.specs.declared.Command.{Command}
use Rattle.registers.specs.Spictrl.{is_xmodem}
use Rattle.registers.specs.declared.Regs.{Regs}
use Rattle.state.specs.Frame.{data_words}
use Rattle.events.specs.declared.Event.{Event}
use Rattle.events.specs.declared.Event.TheVariants.{Word}
use Rattle.bridge.specs.Runs.{Config, next}
use Rattle.bridge.proofs.Reached.{Obeys}
use Rattle.order.specs.Framed.{host_words}
use Rattle.frames.specs.Orders.{within, command_word, meant}
use Rattle.frames.specs.declared.Order.{Order}
use Rattle.frames_found.specs.Frames.{is_command}
use Rattle.frames_found.specs.Found.{Part, opens, part_of, parts_in, notes_in, is_of_state, all_of_state, parts_from, parts_for, unbroken, start_in, frame_in, Awaits, Found}
use Rattle.frames_found.proofs.Decoding.{decodes, brings_words, opens_frame}
use Rattle.frames_found.proofs.Turns.{View, view_of, phase_of, plan_at, awaits_obeys, obeys_on, word_note}
use Rattle.frames_found.proofs.Coming.{Tale, Comes, Silent, comes, silent}
use Rattle.frames_found.proofs.Collecting.{Gathers, GoesOn, gathers_blocked, Rests, rests_blocked}
use Rattle.frames_found.proofs.Meeting.{part_opens, plan_opens, part_brings, plan_brings, part_closes, plan_closes, opens_on, goes_on}

-- the parts of a run, with notes of the state
record Finds (c : Config) (es : List Event) (parts : List Part) : Type 0 where
  are : parts_in layouts c es ≡ parts
  of_state : all_of_state (notes_in layouts c es) ≡ true

-- a word's part, and then the others
finds_word : (P : View → Type 0) (c : Config) (es : List Event) (w : ℕ) (ws : List ℕ) (m : Comes P c es w ws) (part : Part) (parts : List Part)
    → part_of layouts m.at.bridge.control.regs.layout (phase_of m.at) w ≡ part → is_of_state (plan_at m.at w).note ≡ true
    → Finds (next layouts m.at (Word w)) m.rest parts
    → Finds c es (part ∷ parts)
unfolding all_of_state
finds_word P c es w ws m part parts p n f = record {
  are = ap (λ (t : Tale). t.parts) m.tale_is ∙ rw (p, f.are);
  of_state =
      rw (ap (λ (t : Tale). t.notes) m.tale_is, word_note m.at m.obeys w)
      (and_both (is_of_state (plan_at m.at w).note) _ n f.of_state);
}

-- nothing is asked once the frame is over
abbrev Any : View → Type 0
Any v = Unit {0}

nothing_more : (c : Config) (es : List Event) → Obeys c → unbroken es ≡ true → host_words es ≡ [] → Finds c es []
unfolding all_of_state
nothing_more c es o u e =
    let s : Silent Any c es = silent Any (λ v h. tt) es c o tt u e in record { are = s.parts_are; of_state = rw s.notes_are }

module _ (command : Command) (is : is_command command ≡ true) where
  -- Words are due, then the CRC word: `sum` is the CRC so far.
  collects_run : (words : List ℕ) (es : List Event) (c : Config) (got sum : ℕ) (x : Bool) → Obeys c → Gathers command got sum x (view_of c)
      → unbroken es ≡ true → got + length words ≡ data_words command → host_words es ≡ words ++ (crc_from sum words ∷ [])
      → Finds c es (parts_from command got words)
  unfolding crc_from parts_from
  collects_run [] es c got sum x o h u n e =
      let m = comes (Gathers command got sum x) (gathers_blocked command got sum x) es c sum [] o h u e in
      finds_word _ c es sum [] m _ _ (part_closes m.at sum command is got sum m.view.collects (omega arith) refl)
      (plan_closes m.at sum command is got sum m.view.collects (omega arith) refl).of_state
      (nothing_more _ m.rest (obeys_on m.at _ m.obeys) m.on m.words_are)
  collects_run (w ∷ words) es c got sum x o h u n e =
      let m = comes (Gathers command got sum x) (gathers_blocked command got sum x) es c w _ o h u e in
      let g : GoesOn command (suc got) (crc_word sum w) (plan_at m.at w) =
      plan_brings m.at w command is got sum m.view.collects (omega arith) in
      finds_word _ c es w _ m _ _ (part_brings m.at w command is got sum m.view.collects (omega arith)) g.of_state
      (collects_run words m.rest _ (suc got) (crc_word sum w) x (obeys_on m.at _ m.obeys)
      (goes_on m.at w m.obeys command _ _ g got sum x m.view) m.on (omega arith) m.words_are)

  -- The command word is due.
  idle_run : (es : List Event) (c : Config) (r : Regs) (w : ℕ) (words : List ℕ) → Obeys c → Rests r (view_of c) → unbroken es ≡ true
      → decode_by r.layout w ≡ command → length words ≡ data_words command
      → host_words es ≡ w ∷ (words ++ (crc_from (crc_word (start_in r) w) words ∷ [])) → Finds c es (opens command ∷ parts_from command 0 words)
  idle_run es c r w words o h u d n e =
      let m = comes (Rests r) (rests_blocked r) es c w _ o h u e in
      let g : GoesOn command 0 (crc_word (start_in r) w) (plan_at m.at w) = plan_opens m.at w command is r m.view d in
      finds_word _ c es w _ m _ _ (part_opens m.at w command is r m.view d) g.of_state
      (collects_run words m.rest _ 0 (crc_word (start_in r) w) (is_xmodem r) (obeys_on m.at _ m.obeys)
      (opens_on m.at w m.obeys command _ _ g r m.view) m.on (omega arith) m.words_are)

pub found : (o : Order) (words : List ℕ) (c : Config) (es : List Event) → within o (length words) ≡ true → Awaits c → unbroken es ≡ true
    → host_words es ≡ frame_in c.bridge.control.regs o words → Found o words c es
unfolding crc_from parts_for
found o words c es h a u e =
    let r : Regs = c.bridge.control.regs in
    let n : ℕ = length words in
    let f : Finds c es (parts_for o words) =
    idle_run (meant o n) (opens_frame o n) es c r (command_word r.layout o n) words (awaits_obeys c a) (record { idle = a.idle; regs_are = refl }) u
    (decodes r.layout o n h) (sym (brings_words o n h)) e in
    record { parts_are = f.are; notes_are = f.of_state }
