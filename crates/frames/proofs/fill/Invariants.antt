-- So many data words stand behind the command word.
use Rattle.std.proofs.Common.{set}
use Rattle.frames.proofs.Writing.{Filled}
use Rattle.frames.proofs.fill.Given as goal

abbrev pub invariant-loop-i : goal.invariant-loop-i
invariant-loop-i l = Filled l.start l.word l.words (set l.fn.buffer 0 l.word) l.i l.buffer l.crc
