use Rattle.std.proofs.Common.{rules}
use Rattle.registers.specs.Spictrl.{dog_limit_in}
use Rattle.registers.proofs.Arms.{to_limit}
use Rattle.registers.proofs.spictrl.dog_limit.Goals as goal

pub returns-in-Ours : goal.returns-in-Ours
unfolding dog_limit_in
returns-in-Ours c = search (rules, to_limit)

pub returns-in-Makers : goal.returns-in-Makers
unfolding dog_limit_in
returns-in-Makers c = search (rules, to_limit)
