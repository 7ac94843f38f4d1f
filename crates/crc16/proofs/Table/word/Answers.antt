-- A word is its two bytes, the high byte first.
use Rattle.std.proofs.Common.{rules}
use Rattle.crc16.proofs.Bytes.{to_word}
use Rattle.crc16.proofs.Table.word.Goals as goal

pub returns : goal.returns
returns g c = search (rules, to_word)
