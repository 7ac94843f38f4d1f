use Rattle.std.proofs.Common.{rules}
use Rattle.registers.specs.Registers.{table_of}
use Rattle.registers.proofs.Arms.{to_rows}
use Rattle.registers.proofs.rows.Goals as goal

pub returns-in-Ours : goal.returns-in-Ours
unfolding table_of
returns-in-Ours c = search (rules, to_rows)

pub returns-in-Makers : goal.returns-in-Makers
unfolding table_of
returns-in-Makers c = search (rules, to_rows)
