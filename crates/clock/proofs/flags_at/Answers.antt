use borrow.Author.Rules.{rules}
use Rattle.clock.specs.Clock.{flags_at}
use Rattle.base.specs.Pick.{picks}
use Rattle.clock.proofs.flags_at.Goals as goal

pub returns-then-fires : goal.returns-then-fires
unfolding flags_at
returns-then-fires c = search (rules, picks)

pub returns-else-fires : goal.returns-else-fires
unfolding flags_at
returns-else-fires c = search (rules, picks)
