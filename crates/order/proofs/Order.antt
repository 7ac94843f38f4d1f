-- Demand 3: from power-up, under the premises, the line shows the accepted commands that carry words, in order, every word unchanged; once
-- all are sent it shows them all; and its bits are exactly theirs.
use mathlib.Core.Path.{◌≡◌}
use mathlib.Core.Bool.{Bool}
use mathlib.Core.List.{List, [], ◌∷◌, ◌++◌, append_assoc, append-nil}
use Prim.Native.Nat.{ℕ}
use Rattle.layout.specs.declared.Layout.{Layout}
use Rattle.command.specs.Layouts.{Layouts}
use Rattle.line.specs.Reader.{read_line, Sent}
use Rattle.events.specs.declared.Event.{Event}
use Rattle.kept.proofs.Fits.{LayoutFit}
use Rattle.bridge.specs.Runs.{Config, RightStores, out_of, next, end_of, line_bit, sout_of, power_on, AllSent}
use Rattle.bridge.proofs.Reached.{Obeys, obeyed_turn, step_obeys, power_obeys}
use Rattle.order.specs.Accepted.{plan_of, Log, no_log, joined, logged, log_by, listed, accepted_in}
use Rattle.order.specs.Premises.{Fair, Premises}
use Rattle.order.specs.Exactly.{Exactly, Whole}
use Rattle.order.proofs.Account.{concat, lengths}
use Rattle.order.proofs.Exact.{exact_power, exact_sent, exact_exactly, exact_whole, whole_read}
use Rattle.order.proofs.Sending.{in_tx, none_counted, at_rest}
use Rattle.order.proofs.Frames.{listed_kept}
use Rattle.order.proofs.Steps.{Between, between_fresh, between_turn}

module _ (l : Layouts) (fits : LayoutFit l) where
  pub between_step : (c : Config) (bits : List Bool) (g : Log) (e : Event) → Between c bits g → Obeys c → Fair l c e
      → Between (next l c e) (bits ++ line_bit e (out_of l c e).answer.sout) (logged g (plan_of l c e))
  unfolding next
  between_step c bits g e i o f =
      between_turn l c bits g i e _ (obeyed_turn l fits c e o) f.typed f.no_fault f.no_loss

  pub between_run : (c : Config) (bits : List Bool) (g : Log) (es : List Event) → Between c bits g → Obeys c → Premises l c es
      → Between (end_of l c es) (bits ++ sout_of l c es) (log_by l g c es)
  unfolding end_of sout_of log_by
  between_run c bits g [] i o p = rw append-nil i
  between_run c bits g (e ∷ es) i o p =
      rw (← (append_assoc bits (line_bit e (out_of l c e).answer.sout) (sout_of l (next l c e) es)))
      (between_run (next l c e) _ _ es (between_step c bits g e i o p.0) (step_obeys l fits c e o) p.1)

pub between_power : (good : Bool) (layout : Layout) (tx rx : List ℕ) → RightStores tx rx → Between (power_on good layout tx rx) [] no_log
unfolding power_on concat lengths joined
between_power good layout tx rx r = between_fresh good layout tx rx [] [] r exact_power

-- What the end of a run says of its line.
in_order_between : (c : Config) (bits : List Bool) (g : Log) → Between c bits g → Sent (read_line bits) (listed g)
in_order_between c bits g i = rw (listed_kept c.bridge.frame.phase g _ _ i.kept) (exact_sent _ _ _ bits _ _ i.holds.exact)

exactly_between : (c : Config) (bits : List Bool) (g : Log) → Between c bits g → Exactly bits c.bridge.sending.sender (listed g)
exactly_between c bits g i = rw (listed_kept c.bridge.frame.phase g _ _ i.kept) (exact_exactly _ _ _ bits _ _ i.holds.exact)

whole_between : (c : Config) (bits : List Bool) (g : Log) → Between c bits g → AllSent c.bridge.sending → Whole bits (listed g)
whole_between c bits g i d =
    let s = c.bridge.sending in
    let r = at_rest s.sender d.idle_sender in
    rw (listed_kept c.bridge.frame.phase g _ _ i.kept)
    (exact_whole s.sender (in_tx s c.tx) bits _ _ (rw (none_counted s d) at i.holds.exact) r.0 r.1 r.2)

-- What begins a run under the premises is one: the theorems below speak of every moment of a run.
pub premises_before : (l : Layouts) (c : Config) (es rest : List Event) → Premises l c (es ++ rest) → Premises l c es
premises_before l c [] rest p = tt
premises_before l c (e ∷ es) rest p = (p.0, premises_before l (next l c e) es rest p.1)

-- Every run from power-up, by a layout whose commands are within the ranges of the record rules.
module _ (l : Layouts) (fits : LayoutFit l) (good : Bool) (layout : Layout) (tx rx : List ℕ) (stores : RightStores tx rx) (es : List Event)
    (p : Premises l (power_on good layout tx rx) es) where
  at_end_lem : Between (end_of l (power_on good layout tx rx) es) (sout_of l (power_on good layout tx rx) es) (log_by l no_log (power_on good layout tx rx) es)
  at_end_lem = between_run l fits (power_on good layout tx rx) [] no_log es (between_power good layout tx rx stores) (power_obeys l fits good layout tx rx stores) p

  -- The commands finished on the line are the first so many accepted, in order, every word unchanged; the one under way shows the first words
  -- of the next.
  pub in_order : Sent (read_line (sout_of l (power_on good layout tx rx) es)) (accepted_in l (power_on good layout tx rx) es)
  unfolding accepted_in
  in_order = in_order_between _ _ _ at_end_lem

  -- The line's bits, at every moment, and once all are sent.
  pub exactly :
      Exactly (sout_of l (power_on good layout tx rx) es) (end_of l (power_on good layout tx rx) es).bridge.sending.sender
      (accepted_in l (power_on good layout tx rx) es)
  unfolding accepted_in
  exactly = exactly_between _ _ _ at_end_lem

  pub exactly_all : AllSent (end_of l (power_on good layout tx rx) es).bridge.sending
      → Whole (sout_of l (power_on good layout tx rx) es) (accepted_in l (power_on good layout tx rx) es)
  unfolding accepted_in
  exactly_all d = whole_between _ _ _ at_end_lem d

  -- Once all are sent the line shows them all.
  pub all_sent : AllSent (end_of l (power_on good layout tx rx) es).bridge.sending
      → (read_line (sout_of l (power_on good layout tx rx) es)).finished ≡ accepted_in l (power_on good layout tx rx) es
  all_sent d = whole_read _ _ (exactly_all d)
