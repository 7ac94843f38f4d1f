use borrow.Author.Rules.{rules}
use Rattle.clock.specs.Clock.{control_at}
use Rattle.clock.proofs.control_at.Goals as goal

pub returns : goal.returns
unfolding control_at
returns c = cc
