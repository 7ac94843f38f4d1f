use Rattle.std.proofs.Common.{rules}
use Rattle.crc16.proofs.Laws.{first, next, last}
use Rattle.crc16.proofs.Table.words.Goals as goal

pub loop-word-init : goal.loop-word-init
loop-word-init g c = search (rules, first)

pub loop-word-preserved : goal.loop-word-preserved
loop-word-preserved g c = search (rules, next)

pub returns : goal.returns
returns g c = search (rules, last)
