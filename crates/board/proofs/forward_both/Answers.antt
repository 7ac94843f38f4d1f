use Rattle.std.proofs.Common.{rules}
use Rattle.board.proofs.Laws.{to_both}
use Rattle.board.proofs.forward_both.Goals as goal

pub returns : goal.returns
returns c = search (rules, to_both)
