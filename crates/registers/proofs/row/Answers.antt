use Rattle.std.proofs.Common.{rules}
use Rattle.registers.proofs.Arms.{no_row}
use Rattle.registers.proofs.row.Goals as goal

pub returns-else-address-lt12 : goal.returns-else-address-lt12
returns-else-address-lt12 c = search (rules, no_row)
