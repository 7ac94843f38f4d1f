use borrow.Author.Rules.{rules}
use mathlib.Core.Path.{◌≡◌}
use lib.ListN.{length}
use Rattle.ticks.proofs.Laws.{tick_fit, to_ticked}
use Rattle.ticks.proofs.ticked.Goals as goal

pub tick_reader-taken-requires : goal.tick_reader-taken-requires
tick_reader-taken-requires c = let l : length c.args.bridge.sending.queue.places ≡ 8 = c.well_formed.0.1.1.1.0.1.1.1.0.1.1.0.1.0.1 in search (rules, tick_fit)

pub returns : goal.returns
returns c = search (rules, to_ticked)
