use Rattle.plan.proofs.Laws.{low_bit}
use Rattle.plan.proofs.is_silent.Goals as goal

pub returns : goal.returns
returns c = low_bit _
