use Rattle.std.proofs.Common.{rules}
use Rattle.reading.proofs.Laws.{to_status}
use Rattle.reading.proofs.status.Goals as goal

pub returns : goal.returns
returns c = search (rules, to_status)
