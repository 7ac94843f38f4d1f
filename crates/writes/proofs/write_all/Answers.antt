use borrow.Author.Rules.{rules}
use Rattle.writes.proofs.Laws.{to_first, to_last, to_next}
use Rattle.writes.proofs.write_all.Goals as goal

pub loop-i-init : goal.loop-i-init
loop-i-init c = search (rules, to_first)

pub loop-i-preserved : goal.loop-i-preserved
loop-i-preserved c = search (rules, to_next)

pub returns : goal.returns
returns c = search (rules, to_last)
