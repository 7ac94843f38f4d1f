use borrow.Author.Rules.{rules}
use Rattle.plan.proofs.Laws.{drdy_by}
use Rattle.plan.proofs.drdy_after.Goals as goal

pub returns : goal.returns
returns c = search (rules, drdy_by)
