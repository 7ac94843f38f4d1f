use borrow.Author.Rules.{rules}
use Rattle.ticks.specs.Ticks.{watched}
use Rattle.ticks.proofs.watched.Goals as goal

pub returns : goal.returns
unfolding watched
returns c = cc
