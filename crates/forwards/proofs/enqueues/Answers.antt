use borrow.Author.Rules.{rules}
use Rattle.forwards.specs.Forward.{enqueues}
use Rattle.plan.proofs.Cases.{at_case}
use Rattle.forwards.proofs.enqueues.Goals as goal

pub returns-in-Enqueue : goal.returns-in-Enqueue
unfolding enqueues
returns-in-Enqueue c = search (rules, at_case enqueues)

pub returns-in_default : goal.returns-in_default
unfolding enqueues
returns-in_default c = search rules
