-- Each turn takes one word off the list that is left.
use Rattle.crc16.proofs.Laws.{Inv}
use Rattle.crc16.proofs.Table.words.Given as goal

abbrev pub invariant-loop-word : goal.invariant-loop-word
invariant-loop-word g l = Inv l.start l.words l.crc l.word-index
