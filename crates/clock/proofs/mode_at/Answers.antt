use borrow.Author.Rules.{rules}
use Rattle.clock.specs.Clock.{mode_at}
use Rattle.base.specs.Pick.{picks}
use Rattle.clock.proofs.mode_at.Goals as goal

pub returns-then-fires : goal.returns-then-fires
unfolding mode_at
returns-then-fires c = search (rules, picks)

pub returns-else-fires : goal.returns-else-fires
unfolding mode_at
returns-else-fires c = search (rules, picks)
