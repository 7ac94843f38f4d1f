use borrow.Author.Rules.{rules}
use Rattle.ticks.specs.Ticks.{phase_after}
use Rattle.base.specs.Pick.{picks}
use Rattle.ticks.proofs.phase_after.Goals as goal

pub returns-then-starved : goal.returns-then-starved
unfolding phase_after
returns-then-starved c = search (rules, picks)

pub returns-else-starved : goal.returns-else-starved
unfolding phase_after
returns-else-starved c = search (rules, picks)
