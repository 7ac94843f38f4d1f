-- A host word as the frame meets it in a run: which part of the frame it is, and the phase that it leaves.
use mathlib.Core.Path.{◌≡◌, refl, ◌∙◌, ap, subst}
use mathlib.Core.Bool.{Bool, true}
use Prim.Native.Nat.{ℕ, suc, ◌+◌, ◌<◌, ◌≤◌}
use native.Mathlib.Omega.{arith}
use borrow.Author.Tests.{lt-ltb, le-ltb, eq-eqb}
use Rattle.base.specs.Pick.{pick}
use Rattle.crc16.specs.Crc.{crc_word}
use Rattle.command.specs.Layout.{decode_by}
use Rattle.command.specs.Layouts.{layouts}
use Rattle.command.specs.declared.Command.{Command}
use Rattle.registers.specs.Spictrl.{is_xmodem}
use Rattle.registers.specs.declared.Regs.{Regs}
use Rattle.state.specs.Frame.{data_words}
use Rattle.state.specs.declared.Phase.TheVariants.{Idle}
use Rattle.host.specs.Frames.{planned_in}
use Rattle.plan.specs.Plan.{concluded}
use Rattle.events.specs.declared.Event.TheVariants.{Word}
use Rattle.bridge.specs.Runs.{Config, next}
use Rattle.bridge.proofs.Reached.{Obeys}
use Rattle.frames_found.specs.Frames.{is_command}
use Rattle.frames_found.specs.Found.{Part, opens, brings, closes, part_of, start_in}
use Rattle.frames_found.proofs.Turns.{phase_of, view_of, plan_at, plan_in, word_phase, word_xmodem}
use Rattle.frames_found.proofs.Collecting.{Collects, Gathers, Rests, GoesOn, Ends, after_frame, opened_goes, data_goes, crc_ends}

module _ (c : Config) (w : ℕ) where
  abbrev part_at : Part
  part_at = part_of layouts c.bridge.control.regs.layout (phase_of c) w

  module _ (command : Command) (is : is_command command ≡ true) where
    -- the command word
    module _ (r : Regs) (h : Rests r (view_of c)) (d : decode_by r.layout w ≡ command) where
      pub part_opens : part_at ≡ opens command
      unfolding part_of
      part_opens = rw (h.idle, h.regs_are, d)

      plan_there : decode_by c.bridge.control.regs.layout w ≡ command
          → GoesOn command 0 (crc_word (start_in c.bridge.control.regs) w) (plan_at c w)
      unfolding planned_in
      plan_there t = rw (plan_in c w Idle h.idle, t) (opened_goes c.bridge command _ is)

      pub plan_opens : GoesOn command 0 (crc_word (start_in r) w) (plan_at c w)
      plan_opens =
          subst (λ (q : Regs). GoesOn command 0 (crc_word (start_in q) w) (plan_at c w)) h.regs_are
          (plan_there (ap (λ (q : Regs). decode_by q.layout w) h.regs_are ∙ d))

    module _ (got sum : ℕ) (h : Collects command got sum (phase_of c)) where
      -- a data word
      module _ (due : got < data_words command) where
        pub part_brings : part_at ≡ brings command got w
        unfolding part_of pick
        part_brings = rw (h.is, lt-ltb got (data_words command) due)

        pub plan_brings : GoesOn command (suc got) (crc_word sum w) (plan_at c w)
        unfolding planned_in pick
        plan_brings =
            let z : suc got ≡ got + 1 = omega arith in
            rw (z, plan_in c w _ h.is, lt-ltb got (data_words command) due) (data_goes c.bridge command _ w due)

      -- the CRC word
      module _ (all : data_words command ≤ got) (right : w ≡ sum) where
        pub part_closes : part_at ≡ closes command true
        unfolding part_of pick
        part_closes = rw (h.is, le-ltb got (data_words command) all, eq-eqb w sum right)

        pub plan_closes : Ends c.bridge.frame.xmodem command (plan_at c w)
        unfolding planned_in pick
        plan_closes = rw (plan_in c w _ h.is, le-ltb got (data_words command) all, eq-eqb w sum right) (crc_ends c.bridge command _ _ is)

  module _ (o : Obeys c) (command : Command) where
    module _ (got sum : ℕ) (g : GoesOn command got sum (plan_at c w)) where
      goes_phase : Collects command got sum (phase_of (next layouts c (Word w)))
      unfolding concluded pick
      goes_phase = rw (word_phase c o w, g.no_status) g.collects

      -- "the next SPI command uses the new algorithm" (001 7.5.3): the command word latches the CRC in force, the words behind it leave it
      pub opens_on : (r : Regs) → Rests r (view_of c) → Gathers command got sum (is_xmodem r) (view_of (next layouts c (Word w)))
      unfolding pick
      opens_on r h = record { collects = goes_phase; latched = word_xmodem c o w ∙ rw (g.collects.is, h.idle, h.regs_are) refl }

      pub goes_on : (have so_far : ℕ) (xmodem : Bool) → Gathers command have so_far xmodem (view_of c)
          → Gathers command got sum xmodem (view_of (next layouts c (Word w)))
      unfolding pick
      goes_on have so_far xmodem h = record { collects = goes_phase; latched = word_xmodem c o w ∙ rw (g.collects.is, h.collects.is) h.latched }

    pub ends_phase : Ends c.bridge.frame.xmodem command (plan_at c w)
        → phase_of (next layouts c (Word w)) ≡ after_frame c.bridge.frame.xmodem command (next layouts c (Word w)).bridge.control
    ends_phase e = rw (word_phase c o w) (e.answer_is _)
