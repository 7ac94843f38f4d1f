use borrow.Author.Rules.{rules}
use Rattle.plan.specs.Plan.{concluded}
use Rattle.base.specs.Pick.{picks}
use Rattle.plan.proofs.concluded.Goals as goal

pub returns-then-not-status : goal.returns-then-not-status
unfolding concluded
returns-then-not-status c = search (rules, picks)

pub returns-then-is_silent : goal.returns-then-is_silent
unfolding concluded
returns-then-is_silent c = search (rules, picks)

pub returns : goal.returns
unfolding concluded
returns c = search (rules, picks)
