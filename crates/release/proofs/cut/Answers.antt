use borrow.Author.Rules.{rules}
use Rattle.release.proofs.Laws.{to_cut}
use Rattle.release.proofs.cut.Goals as goal

pub returns : goal.returns
returns c = search (rules, to_cut)
