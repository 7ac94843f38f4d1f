use Rattle.std.proofs.Common.{rules}
use Rattle.reader.proofs.Laws.{to_tick}
use Rattle.reader.proofs.tick_reader.Goals as goal

pub returns : goal.returns
returns c = search (rules, to_tick)
