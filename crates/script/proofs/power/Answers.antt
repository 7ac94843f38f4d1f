-- What is left of `script::power`: each arm knows the value.
use Rattle.std.proofs.Common.{rules}
use Rattle.script.specs.Script.{power_record}
use Rattle.script.proofs.Laws.{to_value, to_no_power}
use Rattle.script.proofs.power.Goals as goal

pub returns-in_default : goal.returns-in_default
returns-in_default c = search (rules, to_no_power)

pub returns-in-0 : goal.returns-in-0
unfolding power_record
returns-in-0 c = search (rules, to_value)

pub returns-in-1 : goal.returns-in-1
unfolding power_record
returns-in-1 c = search (rules, to_value)

pub returns-in-2 : goal.returns-in-2
unfolding power_record
returns-in-2 c = search (rules, to_value)

pub returns-in-3 : goal.returns-in-3
unfolding power_record
returns-in-3 c = search (rules, to_value)
