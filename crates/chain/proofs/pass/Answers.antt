use Rattle.std.proofs.Common.{rules}
use Rattle.chain.proofs.Laws.{straight_back, straight_onward, straight_filled, chained_back, chained_onward, chained_filled}
use Rattle.chain.proofs.pass.Goals as goal

pub returns-then-n-eq0-clause-sin : goal.returns-then-n-eq0-clause-sin
returns-then-n-eq0-clause-sin c = search (rules, straight_back)

pub returns-then-n-eq0-clause-oldest : goal.returns-then-n-eq0-clause-oldest
returns-then-n-eq0-clause-oldest c = search (rules, straight_onward)

pub returns-then-n-eq0-clause-cells : goal.returns-then-n-eq0-clause-cells
returns-then-n-eq0-clause-cells c = search (rules, straight_filled)

pub returns-clause-sin : goal.returns-clause-sin
returns-clause-sin c = search (rules, chained_back)

pub returns-clause-oldest : goal.returns-clause-oldest
returns-clause-oldest c = search (rules, chained_onward)

pub returns-clause-cells : goal.returns-clause-cells
returns-clause-cells c = search (rules, chained_filled)
