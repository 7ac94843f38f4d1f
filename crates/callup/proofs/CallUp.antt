-- A call-up that finds its conditions is taken: every note is 0, and both its commands are accepted (02 item 13, "any call-up that finds
-- these, with no refusal below before it, is taken"). Assumes nothing.
use mathlib.Core.Path.{◌≡◌, refl, ap, sym, ◌∙◌, subst}
use mathlib.Core.Bool.{Bool, true, false}
use mathlib.Core.List.{List, [], ◌∷◌, ◌++◌, append_assoc}
use Prim.Native.Nat.{ℕ, ◌+◌, ◌≤◌, ◌<◌}
use native.Mathlib.Omega.{arith}
use lib.ListN.{length}
use borrow.Author.Tests.{le-leb}
use Rattle.base.specs.Bits.{word_end}
use Rattle.base.specs.Pick.{pick}
use Rattle.layout.specs.declared.Layout.{Layout}
use Rattle.crc16.specs.Crc.{crc_word, crc_from}
use Rattle.crc16.proofs.Laws.{crc_lt}
use Rattle.command.specs.Layout.{decode_by}
use Rattle.command.specs.Layouts.{Layouts, start_by, layouts}
use Rattle.command.specs.declared.Command.TheVariants.{Forward}
use Rattle.registers.specs.declared.Regs.{Regs}
use Rattle.state.specs.Queue.{new_place, queued, in_use}
use Rattle.state.specs.declared.Queue.{Queue}
use Rattle.frames.specs.Frames.{frame_of}
use Rattle.frames.specs.Orders.{command_word}
use Rattle.frames.specs.declared.Order.TheVariants.{FwdWrCrc}
use Rattle.events.specs.declared.Event.{Event}
use Rattle.kept.proofs.Fits.{LayoutFit}
use Rattle.bridge.specs.Runs.{Config, next, end_of}
use Rattle.bridge.proofs.Reached.{Obeys}
use Rattle.order.specs.Accepted.{Log, plan_of, logged, log_by}
use Rattle.verdict.specs.Verdicts.{call_up_most}
use Rattle.order.specs.Premises.{Premises}
use Rattle.frames_found.specs.Found.{frame_in}
use Rattle.frames_found.proofs.HostFrames.{host_frames}
use Rattle.callup.specs.CallUp.{vsync, given, call_up, sum_by, Speaks}
use Rattle.callup.specs.Taken.{Takes, AllDone}
use Rattle.callup.proofs.Taken.{AllWrite, Taken}
use Rattle.callup.proofs.Frame.{log_of, Ran, same_then, ran_frame, one_more}

-- A run of two parts.
pub end_append : (l : Layouts) (c : Config) (a b : List Event) → end_of l c (a ++ b) ≡ end_of l (end_of l c a) b
unfolding end_of
end_append l c [] b = refl
end_append l c (e ∷ a) b = end_append l (next l c e) a b

pub log_append : (l : Layouts) (g : Log) (c : Config) (a b : List Event) → log_by l g c (a ++ b) ≡ log_by l (log_by l g c a) (end_of l c a) b
unfolding log_by end_of
log_append l g c [] b = refl
log_append l g c (e ∷ a) b = log_append l (logged g (plan_of l c e)) (next l c e) a b

pub premises_append : (l : Layouts) (c : Config) (a b : List Event) → Premises l c a → Premises l (end_of l c a) b → Premises l c (a ++ b)
unfolding end_of
premises_append l c [] b p q = q
premises_append l c (e ∷ a) b p q = (p.0, premises_append l (next l c e) a b p.1 q)

pub done_append : (l : Layouts) (c : Config) (a b : List Event) → AllDone l c a → AllDone l (end_of l c a) b → AllDone l c (a ++ b)
unfolding end_of
done_append l c [] b p q = q
done_append l c (e ∷ a) b p q = (p.0, done_append l (next l c e) a b p.1 q)

pub write_append : (l : Layouts) (c : Config) (a b : List Event) → AllWrite l c a → AllWrite l (end_of l c a) b → AllWrite l c (a ++ b)
unfolding end_of
write_append l c [] b p q = q
write_append l c (e ∷ a) b p q = (p.0, write_append l (next l c e) a b p.1 q)

-- Ours and the maker's speak so.
sum_layouts : (c : ℕ) (ws : List ℕ) → crc_from c ws ≡ sum_by layouts c ws
unfolding crc_from sum_by
sum_layouts c [] = refl
sum_layouts c (w ∷ ws) = sum_layouts (crc_word c w) ws

frames_layouts : (k : Layout) (xmodem : Bool) (ws : List ℕ)
    → frame_of k (start_by xmodem) FwdWrCrc ws
    ≡ command_word k FwdWrCrc (length ws) ∷ (ws ++ (sum_by layouts (crc_word (start_by xmodem) (command_word k FwdWrCrc (length ws))) ws ∷ []))
unfolding crc_from
frames_layouts k xmodem ws = ap (λ (s : ℕ). command_word k FwdWrCrc (length ws) ∷ (ws ++ (s ∷ []))) (sum_layouts _ ws)

forwards_layouts : (k : Layout) (n : ℕ) → 1 ≤ n → n ≤ call_up_most → decode_by k (command_word k FwdWrCrc n) ≡ Forward true n 0 false
forwards_layouts k n a b = host_frames.decodes k FwdWrCrc n (rw (le-leb 1 n a, le-leb n 512 (omega arith)) refl)

starts_lt : (xmodem : Bool) → start_by xmodem < word_end
unfolding start_by pick
starts_lt true = omega arith
starts_lt false = omega arith

pub layouts_speak : Speaks layouts
layouts_speak = record { forward = forwards_layouts; frame = frames_layouts; start_lt = starts_lt; step_lt = crc_lt }

module _ (l : Layouts) (fits : LayoutFit l) (speaks : Speaks l) where
  pub taken : (c : Config) (D : List (List ℕ)) (ws : List ℕ) → Obeys c → Takes c ws → Taken l c (log_of D []) ws
  unfolding call_up
  taken c D ws s t =
      let r : Regs = c.bridge.control.regs in
      let x : List Event = given (frame_in r FwdWrCrc ws) in
      let y : List Event = given (frame_in r FwdWrCrc (vsync ∷ [])) in
      let a : Ran l c D [] ws (length ws) x
      = ran_frame l fits speaks ws c D s t.ready.unblocked t.ready.idle_frame t.some t.most (omega (arith, t.two_places))
      (omega (arith, t.room)) t.sixteen in
      let d : Config = end_of l c x in
      let u : in_use d.bridge.sending.queue ≡ in_use c.bridge.sending.queue + 1
      = ap (λ (q : Queue). in_use q) a.queue ∙ one_more c.bridge.sending.queue (length ws) (omega (arith, t.two_places)) s.rules.sending.eight in
      let b : Ran l d (D ++ (ws ∷ [])) [] (vsync ∷ []) 1 y
      = subst (λ (k : Regs). Ran l d (D ++ (ws ∷ [])) [] (vsync ∷ []) 1 (given (frame_in k FwdWrCrc (vsync ∷ [])))) a.same.regs
      (ran_frame l fits speaks (vsync ∷ []) d (D ++ (ws ∷ [])) a.obeys (rw a.same.flags t.ready.unblocked) a.idle_frame (omega arith)
      (omega arith) (omega (arith, t.two_places)) (omega (arith, t.room, a.count)) (omega arith, tt)) in
      let e : end_of l c (x ++ y) ≡ end_of l d y = end_append l c x y in
      record {
        notes = done_append l c x y a.notes b.notes;
        premises = premises_append l c x y a.premises b.premises;
        writes = write_append l c x y a.writes b.writes;
        log = rw (log_append l (log_of D []) c x y, a.log, b.log, append_assoc) refl;
        same = rw e (same_then c d _ a.same b.same);
        obeys = rw e b.obeys;
        idle_frame = rw e b.idle_frame;
        queue = rw e (b.queue ∙ ap (λ (q : Queue). queued q (new_place 1 0 false)) a.queue);
        count = rw e (omega (arith, a.count, b.count));
        cells = λ f. rw e (b.cells (a.cells f));
      }
