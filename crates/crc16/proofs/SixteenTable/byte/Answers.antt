-- A byte is its two nibbles, the high one first.
use Rattle.std.proofs.Common.{rules}
use Rattle.crc16.proofs.Nibbles.{to_byte}
use Rattle.crc16.proofs.SixteenTable.byte.Goals as goal

pub returns : goal.returns
returns c = search (rules, to_byte)
