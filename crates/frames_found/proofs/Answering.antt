-- The answer, word by word (01 Frames, "Reads answer the words, each read as it is answered, then their CRC"): what is on SDO at each host word, and the phase
-- that the word leaves.
use mathlib.Core.Path.{◌≡◌, refl, sym, ◌∙◌, ap}
use mathlib.Core.Bool.{Bool, true, false}
use mathlib.Core.List.{List, [], ◌∷◌, ◌++◌}
use Prim.Native.Nat.{ℕ, zero, suc, ◌+◌, ◌-◌, ◌≤◌}
use native.Mathlib.Omega.{arith}
use lib.Dec.{leb}
use lib.ListN.{length, take}
use borrow.Author.Tests.{lt-leb}
use Rattle.base.specs.Pick.{pick, pick_keeps}
use Rattle.crc16.specs.Crc.{crc_word, crc_from}
use Rattle.command.specs.Layouts.{layouts}
use Rattle.state.specs.Rings.{oldest}
use Rattle.state.specs.declared.Phase.{Phase}
use Rattle.state.specs.declared.Phase.TheVariants.{Idle, Answering}
use Rattle.state.specs.declared.Reply.{Reply}
use Rattle.state.specs.declared.Reply.TheVariants.{Status, Data, Registers, Check}
use Rattle.plan.specs.Plan.{concluded}
use Rattle.plan.specs.declared.Plan.{Plan}
use Rattle.answers.specs.Answers.{answer_with, data_answered, register_answered, answered}
use Rattle.host.specs.Frames.{planned_in}
use Rattle.ticks.specs.Ticks.{blocked_in}
use Rattle.events.specs.declared.Event.{Event}
use Rattle.events.specs.declared.Event.TheVariants.{Word}
use Rattle.bridge.specs.Runs.{Config, out_of, next}
use Rattle.bridge.proofs.Reached.{Obeys}
use Rattle.order.specs.Framed.{host_words}
use Rattle.frames_found.specs.Found.{unbroken}
use Rattle.frames_found.specs.Answered.{sdo_in, rx_word, register, found_by, handed_at, registers_at}
use Rattle.frames_found.proofs.Turns.{phase_of, View, blocked_view, OfPhase, plan_at, plan_in, obeys_on, word_sdo, word_phase}
use Rattle.frames_found.proofs.Coming.{Tale, Comes, comes, silent}
use Rattle.frames_found.proofs.Collecting.{IsIdle, idle_blocked}

-- 1. One word.

-- a host word that is answered v, and leaves this phase
pub record Gives (c : Config) (w v : ℕ) (ph : Phase) : Type 0 where
  pub sdo_is : (plan_at c w).sdo ≡ v
  pub phase_is : (plan_at c w).phase ≡ ph
  pub no_status : (plan_at c w).status ≡ false

-- what follows a word of a read: the next one, or the CRC
abbrev pub following : (ℕ → ℕ → Reply) → ℕ → ℕ → Reply
following reply a left = pick (leb left 1) Check (reply (a + 1) (left - 1))

abbrev pub of_data : ℕ → ℕ → Reply
of_data a left = Data left

abbrev pub of_registers : ℕ → ℕ → Reply
of_registers a left = Registers a left

abbrev pub of_rx : Config → ℕ → ℕ
of_rx c a = rx_word c

pick_ap : {A B : Type 0} (f : A → B) (t : Bool) (x y : A) → f (pick t x y) ≡ pick t (f x) (f y)
unfolding pick
pick_ap f true x y = refl
pick_ap f false x y = refl

module _ (c : Config) (w : ℕ) where
  -- by the plan of the phase
  gives_in : (ph after : Phase) (v : ℕ) → phase_of c ≡ ph → (p : Plan) → planned_in layouts c.bridge ph w (oldest c.rx c.bridge.receiving.rx) ≡ p
      → p.sdo ≡ v → p.phase ≡ after → p.status ≡ false → Gives c w v after
  gives_in ph after v h p e d f s =
      let q : plan_at c w ≡ p = plan_in c w ph h ∙ e in record { sdo_is = rw q d; phase_is = rw q f; no_status = rw q s }

  module _ (sum : ℕ) where
    gives_status : (s : ℕ) → phase_of c ≡ Answering (Status s) sum → Gives c w s (Answering Check (crc_word sum s))
    unfolding planned_in answered answer_with
    gives_status s h = gives_in _ _ _ h _ refl refl refl refl

    gives_check : phase_of c ≡ Answering Check sum → Gives c w sum Idle
    unfolding planned_in answered answer_with
    gives_check h = gives_in _ _ _ h _ refl refl refl refl

    pub gives_register : (a left : ℕ) → phase_of c ≡ Answering (of_registers a left) sum
        → Gives c w (register c a) (Answering (following of_registers a left) (crc_word sum (register c a)))
    unfolding planned_in answered register_answered answer_with
    gives_register a left h = gives_in _ _ _ h _ refl refl refl refl

    -- note 15 where RX is empty
    pub gives_data : (a left : ℕ) → phase_of c ≡ Answering (of_data a left) sum
        → Gives c w (of_rx c a) (Answering (following of_data a left) (crc_word sum (of_rx c a)))
    unfolding planned_in answered data_answered answer_with
    gives_data a left h =
        gives_in _ _ _ h _ refl (pick_ap (λ (p : Plan). p.sdo) _ _ _)
        (pick_ap (λ (p : Plan). p.phase) _ _ _ ∙ sym (pick_ap (λ (v : ℕ). Answering (following of_data a left) (crc_word sum v)) _ _ _))
        (pick_keeps (λ (p : Plan). p.status ≡ false) _ _ _ (λ t. refl) (λ t. refl))

-- 2. A run.

-- the phase of an answer, which ticks and clock readings leave alone
abbrev pub IsAnswering : Reply → ℕ → View → Type 0
IsAnswering reply sum v = v.phase ≡ Answering reply sum

answering_blocked : (reply : Reply) (sum : ℕ) (v : View) → IsAnswering reply sum v → IsAnswering reply sum (blocked_view v)
unfolding blocked_in
answering_blocked reply sum v h = rw h

module _ (c : Config) (w v : ℕ) (ph : Phase) (o : Obeys c) (g : Gives c w v ph) where
  gives_sdo : (out_of layouts c (Word w)).answer.sdo ≡ v
  gives_sdo = word_sdo c o w ∙ g.sdo_is

  gives_phase : phase_of (next layouts c (Word w)) ≡ ph
  unfolding concluded pick
  gives_phase = rw (word_phase c o w, g.no_status) g.phase_is

-- the next word of an answer
answer_comes : (reply : Reply) (es : List Event) (c : Config) (sum w : ℕ) (ws : List ℕ) → Obeys c → phase_of c ≡ Answering reply sum → unbroken es ≡ true
    → host_words es ≡ w ∷ ws → Comes (IsAnswering reply sum) c es w ws
answer_comes reply es c sum w ws o h u e = comes (IsAnswering reply sum) (answering_blocked reply sum) es c w ws o h u e

-- words of a run's SDO, and then their CRC
pub record Given (count sum : ℕ) (vs sdo : List ℕ) : Type 0 where
  pub so_many : length vs ≡ count
  pub sdo_is : sdo ≡ vs ++ (crc_from sum vs ∷ [])

-- the CRC, and nothing more
check_run : (ws : List ℕ) (es : List Event) (c : Config) (sum : ℕ) → Obeys c → phase_of c ≡ Answering Check sum → unbroken es ≡ true → host_words es ≡ ws
    → length ws ≡ 1 → sdo_in layouts c es ≡ sum ∷ []
check_run [] es c sum o h u e n = absurd (omega arith)
check_run (w ∷ (x ∷ ws)) es c sum o h u e n = absurd (omega arith)
check_run (w ∷ []) es c sum o h u e n =
    let m = answer_comes Check es c sum w [] o h u e in
    let g = gives_check m.at w sum m.view in
    let s =
    silent (OfPhase IsIdle) (λ v i. idle_blocked v.phase i) m.rest _ (obeys_on m.at _ m.obeys) (gives_phase m.at w sum _ m.obeys g) m.on m.words_are in
    ap (λ (t : Tale). t.sdo) m.tale_is ∙ rw (gives_sdo m.at w sum _ m.obeys g, s.sdo_are)

pub status_run : (ws : List ℕ) (es : List Event) (c : Config) (s sum : ℕ) → Obeys c → phase_of c ≡ Answering (Status s) sum → unbroken es ≡ true
    → host_words es ≡ ws → length ws ≡ 2 → Given 1 sum (s ∷ []) (sdo_in layouts c es)
unfolding crc_from
status_run [] es c s sum o h u e n = absurd (omega arith)
status_run (w ∷ ws) es c s sum o h u e n =
    let m = answer_comes (Status s) es c sum w ws o h u e in
    let g = gives_status m.at w sum s m.view in
    let k =
    check_run ws m.rest _ (crc_word sum s) (obeys_on m.at _ m.obeys) (gives_phase m.at w s _ m.obeys g) m.on m.words_are
    (omega arith) in
    record { so_many = refl; sdo_is = ap (λ (t : Tale). t.sdo) m.tale_is ∙ rw (gives_sdo m.at w s _ m.obeys g, k) }

-- a read's values, one at each moment, from an address on
unfoldable pub values_at : (Config → ℕ → ℕ) → ℕ → List Config → List ℕ
values_at value a [] = []
values_at value a (c ∷ cs) = value c a ∷ values_at value (a + 1) cs

-- a read, by what it answers and what each word is
module _ (reply : ℕ → ℕ → Reply) (value : Config → ℕ → ℕ)
    (gives : (c : Config) (w sum a left : ℕ) → phase_of c ≡ Answering (reply a left) sum
    → Gives c w (value c a) (Answering (following reply a left) (crc_word sum (value c a)))) where
  gives_last : (c : Config) (w sum a : ℕ) → phase_of c ≡ Answering (reply a 1) sum → Gives c w (value c a) (Answering Check (crc_word sum (value c a)))
  unfolding pick
  gives_last c w sum a h = gives c w sum a 1 h

  gives_more : (c : Config) (w sum a l : ℕ) → phase_of c ≡ Answering (reply a (suc (suc l))) sum
      → Gives c w (value c a) (Answering (reply (a + 1) (suc l)) (crc_word sum (value c a)))
  unfolding pick
  gives_more c w sum a l h =
      let z : suc (suc l) - 1 ≡ suc l = omega arith in rw (lt-leb (suc (suc l)) 1 (omega arith), z) at (gives c w sum a (suc (suc l)) h)

  read_run : (l : ℕ) (ws : List ℕ) (es : List Event) (c : Config) (sum a : ℕ) → Obeys c → phase_of c ≡ Answering (reply a (suc l)) sum
      → unbroken es ≡ true → host_words es ≡ ws → length ws ≡ suc l + 1
      → Given (suc l) sum (values_at value a (take (suc l) (found_by layouts c es))) (sdo_in layouts c es)
  unfolding crc_from values_at
  read_run l [] es c sum a o h u e n = absurd (omega arith)
  read_run zero (w ∷ ws) es c sum a o h u e n =
      let m = answer_comes (reply a 1) es c sum w ws o h u e in
      let g = gives_last m.at w sum a m.view in
      let k =
      check_run ws m.rest _ _ (obeys_on m.at _ m.obeys) (gives_phase m.at w _ _ m.obeys g) m.on m.words_are (omega arith) in
      rw (ap (λ (t : Tale). t.moments) m.tale_is, ap (λ (t : Tale). t.sdo) m.tale_is)
      (record { so_many = refl; sdo_is = rw (gives_sdo m.at w _ _ m.obeys g, k) })
  read_run (suc l) (w ∷ ws) es c sum a o h u e n =
      let m = answer_comes (reply a (suc (suc l))) es c sum w ws o h u e in
      let g = gives_more m.at w sum a l m.view in
      let k =
      read_run l ws m.rest _ _ (a + 1) (obeys_on m.at _ m.obeys) (gives_phase m.at w _ _ m.obeys g) m.on m.words_are (omega arith) in
      rw (ap (λ (t : Tale). t.moments) m.tale_is, ap (λ (t : Tale). t.sdo) m.tale_is)
      (record { so_many = omega (arith, k.so_many); sdo_is = rw (gives_sdo m.at w _ _ m.obeys g, k.sdo_is) })

  pub reads : (count : ℕ) (es : List Event) (c : Config) (sum a : ℕ) → 1 ≤ count → Obeys c → phase_of c ≡ Answering (reply a count) sum
      → unbroken es ≡ true → length (host_words es) ≡ count + 1
      → Given count sum (values_at value a (take count (found_by layouts c es))) (sdo_in layouts c es)
  reads zero es c sum a k o h u n = absurd (omega arith)
  reads (suc l) es c sum a k o h u n = read_run l (host_words es) es c sum a o h u refl n

-- what the two reads give
handed_are : (a : ℕ) (cs : List Config) → values_at of_rx a cs ≡ handed_at cs
unfolding values_at handed_at
handed_are a [] = refl
handed_are a (c ∷ cs) = rw (handed_are (a + 1) cs)

registers_are : (a : ℕ) (cs : List Config) → values_at register a cs ≡ registers_at a cs
unfolding values_at registers_at
registers_are a [] = refl
registers_are a (c ∷ cs) = rw (registers_are (a + 1) cs)

module _ (count : ℕ) (es : List Event) (c : Config) (sum : ℕ) (k : 1 ≤ count) (o : Obeys c) (u : unbroken es ≡ true) (n : length (host_words es) ≡ count + 1) where
  pub data_run : phase_of c ≡ Answering (Data count) sum → Given count sum (handed_at (take count (found_by layouts c es))) (sdo_in layouts c es)
  data_run h =
      rw (← (handed_are 0 (take count (found_by layouts c es)))) (reads of_data of_rx (λ d w s a l. gives_data d w s a l) count es c sum 0 k o h u n)

  pub register_run : (a : ℕ) → phase_of c ≡ Answering (Registers a count) sum
      → Given count sum (registers_at a (take count (found_by layouts c es))) (sdo_in layouts c es)
  register_run a h =
      rw (← (registers_are a (take count (found_by layouts c es)))) (reads of_registers register (λ d w s b l. gives_register d w s b l) count es c sum a k o h u n)
