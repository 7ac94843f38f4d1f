-- The step of the top byte, and the low byte moved up.
use Rattle.std.proofs.Common.{rules}
use Rattle.crc16_wide.proofs.Bytes.{byte_in}
use Rattle.crc16_wide.proofs.WideTable.byte.Goals as goal

pub returns : goal.returns
returns c = search (rules, byte_in)
