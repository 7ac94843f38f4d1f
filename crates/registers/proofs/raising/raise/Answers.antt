-- An arm knows the flag, and so the one field.
use Rattle.std.proofs.Common.{rules}
use Rattle.registers.specs.Raising.{raised}
use Rattle.registers.proofs.Raised.{to_raised}
use Rattle.registers.proofs.raising.raise.Goals as goal

pub returns-in-Srst : goal.returns-in-Srst
unfolding raised
returns-in-Srst c = search (rules, to_raised)

pub returns-in-RegWrite : goal.returns-in-RegWrite
unfolding raised
returns-in-RegWrite c = search (rules, to_raised)

pub returns-in-SpiCrc : goal.returns-in-SpiCrc
unfolding raised
returns-in-SpiCrc c = search (rules, to_raised)

pub returns-in-SpiCs : goal.returns-in-SpiCs
unfolding raised
returns-in-SpiCs c = search (rules, to_raised)

pub returns-in-QueueOvf : goal.returns-in-QueueOvf
unfolding raised
returns-in-QueueOvf c = search (rules, to_raised)

pub returns-in-LineCrc : goal.returns-in-LineCrc
unfolding raised
returns-in-LineCrc c = search (rules, to_raised)

pub returns-in-SinStuck : goal.returns-in-SinStuck
unfolding raised
returns-in-SinStuck c = search (rules, to_raised)

pub returns-in-TxOvf : goal.returns-in-TxOvf
unfolding raised
returns-in-TxOvf c = search (rules, to_raised)

pub returns-in-TxUvf : goal.returns-in-TxUvf
unfolding raised
returns-in-TxUvf c = search (rules, to_raised)

pub returns-in-RxOvf : goal.returns-in-RxOvf
unfolding raised
returns-in-RxOvf c = search (rules, to_raised)

pub returns-in-RxUvf : goal.returns-in-RxUvf
unfolding raised
returns-in-RxUvf c = search (rules, to_raised)
