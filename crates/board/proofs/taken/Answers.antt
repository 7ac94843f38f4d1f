use Rattle.std.proofs.Common.{rules}
use Rattle.board.proofs.Laws.{to_taken}
use Rattle.board.proofs.taken.Goals as goal

pub returns : goal.returns
returns c = search (rules, to_taken)
