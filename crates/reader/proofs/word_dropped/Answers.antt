use Rattle.std.proofs.Common.{rules}
use Rattle.reader.proofs.Laws.{to_dropped}
use Rattle.reader.proofs.word_dropped.Goals as goal

pub returns : goal.returns
returns c = search (rules, to_dropped)
