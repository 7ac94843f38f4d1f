use borrow.Author.Rules.{rules}
use Rattle.forwards.specs.Forward.{clears}
use Rattle.plan.proofs.Cases.{at_case}
use Rattle.forwards.proofs.clears.Goals as goal

pub returns-in-ClearAll : goal.returns-in-ClearAll
unfolding clears
returns-in-ClearAll c = search (rules, at_case clears)

pub returns-in_default : goal.returns-in_default
unfolding clears
returns-in_default c = search rules
