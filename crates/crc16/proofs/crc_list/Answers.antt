use Rattle.std.proofs.Common.{rules}
use Rattle.crc16.specs.Crc.{crc_of}
use Rattle.crc16.proofs.crc_list.Goals as goal

pub returns : goal.returns
unfolding crc_of
returns c = search rules
