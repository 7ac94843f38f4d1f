-- Demand 3 of a run, as one statement: what the line shows are the accepted commands that carry words, in order, every word unchanged.
-- Assumes nothing.
use Rattle.std.specs.Prelude.{◌≡◌, List}
use Rattle.command.specs.Layouts.{Layouts}
use Rattle.line.specs.Reader.{read_line, Sent}
use Rattle.events.specs.declared.Event.{Event}
use Rattle.bridge.specs.Runs.{Config, end_of, sout_of, AllSent}
use Rattle.order.specs.Accepted.{accepted_in}
use Rattle.order.specs.Exactly.{Exactly, Whole}

pub record Faithful (l : Layouts) (c : Config) (es : List Event) : Type 0 where
  -- at every moment, as a reader of the line sees it and as the bits are
  pub in_order : Sent (read_line (sout_of l c es)) (accepted_in l c es)
  pub exactly : Exactly (sout_of l c es) (end_of l c es).bridge.sending.sender (accepted_in l c es)
  -- "once all are sent"
  pub all_sent : AllSent (end_of l c es).bridge.sending → (read_line (sout_of l c es)).finished ≡ accepted_in l c es
  pub exactly_all : AllSent (end_of l c es).bridge.sending → Whole (sout_of l c es) (accepted_in l c es)
