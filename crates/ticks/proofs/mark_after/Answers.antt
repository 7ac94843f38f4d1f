use borrow.Author.Rules.{rules}
use Rattle.ticks.specs.Ticks.{mark_after}
use Rattle.base.specs.Pick.{picks}
use Rattle.ticks.proofs.mark_after.Goals as goal

pub returns-then-started-clock : goal.returns-then-started-clock
unfolding mark_after
returns-then-started-clock c = search (rules, picks)

pub returns : goal.returns
unfolding mark_after
returns c = search (rules, picks)
