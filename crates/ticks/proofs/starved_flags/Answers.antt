use borrow.Author.Rules.{rules}
use Rattle.ticks.specs.Ticks.{starved_flags}
use Rattle.base.specs.Pick.{picks}
use Rattle.ticks.proofs.starved_flags.Goals as goal

pub returns-then-starved : goal.returns-then-starved
unfolding starved_flags
returns-then-starved c = search (rules, picks)

pub returns-else-starved : goal.returns-else-starved
unfolding starved_flags
returns-else-starved c = search (rules, picks)
