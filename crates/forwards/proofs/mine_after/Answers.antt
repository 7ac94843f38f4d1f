use borrow.Author.Rules.{rules}
use Rattle.forwards.specs.Forward.{mine_after}
use Rattle.forwards.proofs.Laws.{at_case_4, told_and}
use Rattle.forwards.proofs.mine_after.Goals as goal

pub returns-in-Leave : goal.returns-in-Leave
unfolding mine_after
returns-in-Leave c = search (rules, at_case_4 mine_after, told_and)

pub returns-in-Enqueue : goal.returns-in-Enqueue
unfolding mine_after
returns-in-Enqueue c = search (rules, at_case_4 mine_after)
