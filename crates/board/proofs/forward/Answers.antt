use Rattle.std.proofs.Common.{rules}
use Rattle.board.proofs.Laws.{to_forward}
use Rattle.board.proofs.forward.Goals as goal

pub returns : goal.returns
returns c = search (rules, to_forward)
