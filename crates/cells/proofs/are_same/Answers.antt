use Rattle.std.proofs.Common.{rules}
use Rattle.cells.proofs.Laws.{same_none, same_more, same_all}
use Rattle.cells.proofs.are_same.Goals as goal

pub loop-i-init : goal.loop-i-init
loop-i-init c = search (rules, same_none)

pub loop-i-preserved : goal.loop-i-preserved
loop-i-preserved c = search (rules, same_more)

pub returns : goal.returns
returns c = search (rules, same_all)
