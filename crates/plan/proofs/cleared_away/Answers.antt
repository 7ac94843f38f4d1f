use borrow.Author.Rules.{rules}
use Rattle.plan.specs.Plan.{cleared_away}
use Rattle.plan.proofs.Cases.{at_second}
use Rattle.plan.proofs.cleared_away.Goals as goal

pub returns-in-ClearAll : goal.returns-in-ClearAll
unfolding cleared_away
returns-in-ClearAll c = search (rules, at_second cleared_away)

pub returns-in-Leave : goal.returns-in-Leave
unfolding cleared_away
returns-in-Leave c = search (rules, at_second cleared_away)
