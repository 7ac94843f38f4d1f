use Rattle.std.proofs.Common.{rules}
use Rattle.registers.specs.Registers.{table_of, reset_regs}
use Rattle.registers.proofs.Arms.{to_reset}
use Rattle.registers.proofs.reset_regs.Goals as goal

pub returns-in-Ours : goal.returns-in-Ours
unfolding reset_regs table_of
returns-in-Ours c = search (rules, to_reset)

pub returns-in-Makers : goal.returns-in-Makers
unfolding reset_regs table_of
returns-in-Makers c = search (rules, to_reset)
