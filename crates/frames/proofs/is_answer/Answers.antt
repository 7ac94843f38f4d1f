-- The length is told before the CRC.
use Rattle.std.proofs.Common.{rules}
use Rattle.frames.proofs.Reading.{other_length, by_crc}
use Rattle.frames.proofs.is_answer.Goals as goal

pub returns-then-answer-n : goal.returns-then-answer-n
returns-then-answer-n c = search (rules, by_crc)

pub returns-else-answer-n : goal.returns-else-answer-n
returns-else-answer-n c = search (rules, other_length)
