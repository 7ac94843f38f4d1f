use Rattle.board.proofs.Laws.{to_empty}
use Rattle.board.proofs.empty.Goals as goal

pub returns : goal.returns
returns c = to_empty
