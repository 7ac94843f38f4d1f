use Rattle.std.proofs.Common.{rules}
use Rattle.reader.proofs.Laws.{to_stored}
use Rattle.reader.proofs.word_stored.Goals as goal

pub returns : goal.returns
returns c = search (rules, to_stored)
