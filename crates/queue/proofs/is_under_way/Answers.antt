use Rattle.std.proofs.Common.{rules}
use Rattle.queue.proofs.Laws.{no_youngest, is_youngest, to_none_sends, to_sending}
use Rattle.queue.proofs.is_under_way.Goals as goal

pub returns-in_default : goal.returns-in_default
returns-in_default c = search (rules, to_none_sends, no_youngest)

pub returns : goal.returns
returns c = search (rules, to_sending, is_youngest)
