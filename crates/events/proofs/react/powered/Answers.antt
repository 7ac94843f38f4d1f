use borrow.Author.Rules.{rules}
use Rattle.events.specs.Events.{powered}
use Rattle.base.specs.Pick.{picks}
use Rattle.events.proofs.react.powered.Goals as goal

pub returns-then-good : goal.returns-then-good
unfolding powered
returns-then-good c = search (rules, picks)

pub returns-else-good : goal.returns-else-good
unfolding powered
returns-else-good c = search (rules, picks)
