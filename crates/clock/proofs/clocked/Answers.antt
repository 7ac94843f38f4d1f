use borrow.Author.Rules.{rules}
use Rattle.clock.specs.Clock.{clocked}
use Rattle.clock.proofs.clocked.Goals as goal

pub returns : goal.returns
unfolding clocked
returns c = cc
