use borrow.Author.Rules.{rules}
use Rattle.forwards.specs.Forward.{faulted}
use Rattle.plan.proofs.Cases.{at_second}
use Rattle.forwards.proofs.faulted.Goals as goal

pub returns-in-TxFull : goal.returns-in-TxFull
unfolding faulted
returns-in-TxFull c = search (rules, at_second faulted)

pub returns-in-QueueFull : goal.returns-in-QueueFull
unfolding faulted
returns-in-QueueFull c = search (rules, at_second faulted)

pub returns-in_default : goal.returns-in_default
unfolding faulted
returns-in_default c = search rules
