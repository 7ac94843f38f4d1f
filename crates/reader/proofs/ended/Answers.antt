use Rattle.std.proofs.Common.{rules}
use Rattle.reader.proofs.Laws.{to_differs, to_same}
use Rattle.reader.proofs.ended.Goals as goal

pub returns-then-back : goal.returns-then-back
returns-then-back c = search (rules, to_differs)

pub returns : goal.returns
returns c = search (rules, to_same)
