use borrow.Author.Rules.{rules}
use Rattle.ticks.specs.Ticks.{control_ticked}
use Rattle.ticks.proofs.control_after.Goals as goal

pub returns : goal.returns
unfolding control_ticked
returns c = cc
