-- What the bridge answers to an order reads back as such (02 item 1, "read the answer back as STATUS or data").
use Rattle.std.specs.Prelude.{Some}
use mathlib.Core.Path.{◌≡◌, refl, sym, ◌∙◌, ap}
use mathlib.Core.Bool.{Bool, true, false}
use mathlib.Core.List.{List, [], ◌∷◌, ◌++◌}
use Prim.Native.Nat.{ℕ, ◌+◌}
use native.Mathlib.Omega.{arith}
use lib.ListN.{length, take, length-append}
use lib.Seq.{take_at, get_or_at}
use borrow.Author.Tests.{eq-eqb}
use Rattle.base.specs.Bits.{bit}
use Rattle.base.specs.Pick.{pick, pick_true, and_l, and_both}
use Rattle.base.specs.Truth.{never}
use Rattle.crc16.specs.Crc.{crc_from}
use Rattle.command.specs.Layouts.{start_by, layouts}
use Rattle.registers.specs.Registers.{status_of}
use Rattle.registers.specs.Spictrl.{is_xmodem}
use Rattle.registers.specs.declared.Control.{Control}
use Rattle.state.specs.declared.Phase.TheVariants.{Idle, Answering}
use Rattle.state.specs.declared.Reply.TheVariants.{Status as StatusReply}
use Rattle.plan.specs.Plan.{concluded}
use Rattle.events.specs.declared.Event.{Event}
use Rattle.events.specs.declared.Event.TheVariants.{Word}
use Rattle.bridge.specs.Runs.{Config, end_of}
use Rattle.order.specs.Framed.{host_words}
use Rattle.frames.specs.Answers.{answer_of, due_of, is_answer, told_of}
use Rattle.frames.specs.Orders.{fields_within, words_within, within, meant}
use Rattle.frames.specs.declared.Due.{Due}
use Rattle.frames.specs.declared.Due.TheVariants.{StatusDue, DataDue}
use Rattle.frames.specs.declared.Order.{Order}
use Rattle.frames.specs.declared.Order.TheVariants.{FwdWrCrc, FwdWr, FwdWrEndCrc, FwdWrEnd, FwdRdEndCrc, FwdRdEnd, DataRdCrc, DataRd, RegWrCrc, RegWr, RegRdCrc, RegRd, SoftResetCrc}
use Rattle.frames.specs.declared.Told.TheVariants.{Status, Data}
use Rattle.frames.proofs.Reading.{tells_status, tells_data}
use Rattle.frames_found.specs.Found.{unbroken, start_in, frame_in, Awaits}
use Rattle.frames_found.specs.Answered.{sdo_in, found_by, data_at, ReadsBack}
use Rattle.frames_found.proofs.Decoding.{bounds}
use Rattle.frames_found.proofs.Turns.{phase_of}
use Rattle.frames_found.proofs.Collecting.{after_frame}
use Rattle.frames_found.proofs.Ending.{Answers, frame_ends}
use Rattle.frames_found.proofs.Answering.{Given, status_run, data_run, register_run}

-- words and then their CRC are an answer of so many
is_answer_lem : (s count : ℕ) (vs sdo : List ℕ) → Given count s vs sdo → is_answer s count sdo ≡ true
unfolding is_answer
is_answer_lem s count vs sdo g =
    rw (g.sdo_is, take_at vs (crc_from s vs ∷ []) count g.so_many, get_or_at vs (crc_from s vs) [] 0 count g.so_many)
    (and_both _ _ (eq-eqb _ _ (length-append vs (crc_from s vs ∷ []) ∙ omega (arith, g.so_many))) (eq-eqb (crc_from s vs) (crc_from s vs) refl))

-- an order within its limits has its answer
due : (o : Order) (n : ℕ) → within o n ≡ true → Some (answer_of o) ≡ due_of o
unfolding due_of
due o n h = pick_true _ _ _ _ (and_l (fields_within o) (words_within o n) h) refl

-- the two kinds of answers are two
abbrev is_status : Due → Bool
is_status StatusDue = true
is_status (DataDue count) = false

abbrev count_of : Due → ℕ
count_of StatusDue = 0
count_of (DataDue count) = count

not_status : {A : Type 0} (count : ℕ) → DataDue count ≡ StatusDue → A
not_status count e = never (is_status (DataDue count)) (ap (λ (d : Due). is_status d) e) refl

not_data : {A : Type 0} (count : ℕ) → StatusDue ≡ DataDue count → A
not_data count e = not_status count (sym e)

same_count : (count k : ℕ) → DataDue k ≡ DataDue count → count ≡ k
same_count count k e = sym (ap (λ (d : Due). count_of d) e)

-- the frame's end, where STATUS is due
status_due : (x : Bool) (o : Order) (n : ℕ) (control : Control) → answer_of o ≡ StatusDue
    → after_frame x (meant o n) control ≡ concluded layouts x true control Idle
status_due x FwdWrCrc n control e = refl
status_due x FwdWr n control e = refl
status_due x (FwdWrEndCrc ends) n control e = refl
status_due x (FwdWrEnd ends) n control e = refl
status_due x (FwdRdEndCrc ends) n control e = refl
status_due x (FwdRdEnd ends) n control e = refl
status_due x (DataRdCrc count) n control e = not_status count e
status_due x (DataRd count) n control e = not_status count e
status_due x (RegWrCrc address) n control e = refl
status_due x (RegWr address) n control e = refl
status_due x (RegRdCrc address count) n control e = not_status count e
status_due x (RegRd address count) n control e = not_status count e
status_due x SoftResetCrc n control e = refl

module _ (x : Bool) (n : ℕ) (c : Config) (es : List Event) (u : unbroken es ≡ true) where
  status_back : (o : Order) → within o n ≡ true → Answers x (meant o n) c → answer_of o ≡ StatusDue → bit 0 c.bridge.control.regs.spictrl ≡ false
      → length (host_words es) ≡ 2 → told_of (start_by x) o (sdo_in layouts c es) ≡ Some (Status (status_of c.bridge.control))
  unfolding concluded pick
  status_back o h a e b l =
      let ph : phase_of c ≡ Answering (StatusReply (status_of c.bridge.control)) (start_by x) =
      a.answer_is ∙ status_due x o n c.bridge.control e ∙ rw b refl in
      let g = status_run (host_words es) es c _ (start_by x) a.obeys ph u refl l in
      sym (tells_status (start_by x) o (sdo_in layouts c es) (due_of o) refl true (sym (due o n h) ∙ ap (λ (d : Due). Some d) e) (sym (is_answer_lem (start_by x) 1 _ _ g)) refl) ∙ rw g.sdo_is refl

  no_status_back : (o : Order) → Answers x (meant o n) c → answer_of o ≡ StatusDue → bit 0 c.bridge.control.regs.spictrl ≡ true
      → phase_of c ≡ Idle
  unfolding concluded pick
  no_status_back o a e b = a.answer_is ∙ status_due x o n c.bridge.control e ∙ rw b refl

  -- the words that a read gives
  module _ (count : ℕ) (l : length (host_words es) ≡ count + 1) where
    data_given : (o : Order) → within o n ≡ true → Answers x (meant o n) c → answer_of o ≡ DataDue count
        → Given count (start_by x) (data_at o (found_by layouts c es)) (sdo_in layouts c es)
    unfolding data_at
    data_given FwdWrCrc h a e = not_data count e
    data_given FwdWr h a e = not_data count e
    data_given (FwdWrEndCrc ends) h a e = not_data count e
    data_given (FwdWrEnd ends) h a e = not_data count e
    data_given (FwdRdEndCrc ends) h a e = not_data count e
    data_given (FwdRdEnd ends) h a e = not_data count e
    data_given (DataRdCrc k) h a e =
        let same : count ≡ k = same_count count k e in
        rw same (data_run k es c (start_by x) (bounds (DataRdCrc k) n h).0.0 a.obeys u (rw same at l) a.answer_is)
    data_given (DataRd k) h a e =
        let same : count ≡ k = same_count count k e in
        rw same (data_run k es c (start_by x) (bounds (DataRd k) n h).0.0 a.obeys u (rw same at l) a.answer_is)
    data_given (RegWrCrc address) h a e = not_data count e
    data_given (RegWr address) h a e = not_data count e
    data_given (RegRdCrc address k) h a e =
        let same : count ≡ k = same_count count k e in
        rw same (register_run k es c (start_by x) (bounds (RegRdCrc address k) n h).0.0 a.obeys u (rw same at l) address a.answer_is)
    data_given (RegRd address k) h a e =
        let same : count ≡ k = same_count count k e in
        rw same (register_run k es c (start_by x) (bounds (RegRd address k) n h).0.0 a.obeys u (rw same at l) address a.answer_is)
    data_given SoftResetCrc h a e = not_data count e

    module _ (o : Order) (h : within o n ≡ true) (a : Answers x (meant o n) c) (e : answer_of o ≡ DataDue count) where
      told_back : told_of (start_by x) o (sdo_in layouts c es) ≡ Some (Data count)
      told_back =
          sym (tells_data (start_by x) o (sdo_in layouts c es) (due_of o) refl true count (sym (due o n h) ∙ ap (λ (d : Due). Some d) e) (sym (is_answer_lem (start_by x) count _ _ (data_given o h a e))) refl)

      data_back : take count (sdo_in layouts c es) ≡ data_at o (found_by layouts c es)
      data_back = let g = data_given o h a e in rw g.sdo_is (take_at (data_at o (found_by layouts c es)) _ count g.so_many)

pub reads_back : (o : Order) (words : List ℕ) (c : Config) (es : List Event) (w : ℕ) (after : List Event) → within o (length words) ≡ true → Awaits c
    → unbroken es ≡ true → host_words (es ++ (Word w ∷ [])) ≡ frame_in c.bridge.control.regs o words → unbroken after ≡ true
    → ReadsBack (start_in c.bridge.control.regs) o (end_of layouts c (es ++ (Word w ∷ []))) after
reads_back o words c es w after h a u f v =
    let x : Bool = is_xmodem c.bridge.control.regs in
    let k = frame_ends o words c es w h a u f in
    record {
      status = λ e b l. status_back x (length words) _ after v o h k e b l;
      no_status = λ e b. no_status_back x (length words) _ after v o k e b;
      data_told = λ count e l. told_back x (length words) _ after v count l o h k e;
      data_is = λ count e l. data_back x (length words) _ after v count l o h k e;
    }
