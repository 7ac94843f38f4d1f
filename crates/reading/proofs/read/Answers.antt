-- An arm knows the address.
use Rattle.std.proofs.Common.{rules}
use Rattle.registers.specs.Registers.{read_of}
use Rattle.reading.proofs.Laws.{to_devid, to_devctrl, to_read, to_none}
use Rattle.reading.proofs.read.Goals as goal

pub returns-in-0 : goal.returns-in-0
unfolding read_of
returns-in-0 c = search (rules, to_devid)

pub returns-in-1 : goal.returns-in-1
unfolding read_of
returns-in-1 c = search (rules, to_read)

pub returns-in-2 : goal.returns-in-2
unfolding read_of
returns-in-2 c = search (rules, to_read)

pub returns-in-3 : goal.returns-in-3
unfolding read_of
returns-in-3 c = search (rules, to_read)

pub returns-in-4 : goal.returns-in-4
unfolding read_of
returns-in-4 c = search (rules, to_read)

pub returns-in-5 : goal.returns-in-5
unfolding read_of
returns-in-5 c = search (rules, to_devctrl)

pub returns-in-6 : goal.returns-in-6
unfolding read_of
returns-in-6 c = search (rules, to_read)

pub returns-in-7 : goal.returns-in-7
unfolding read_of
returns-in-7 c = search (rules, to_read)

pub returns-in-8 : goal.returns-in-8
unfolding read_of
returns-in-8 c = search (rules, to_read)

pub returns-in-9 : goal.returns-in-9
unfolding read_of
returns-in-9 c = search (rules, to_read)

pub returns-in-10 : goal.returns-in-10
unfolding read_of
returns-in-10 c = search (rules, to_read)

pub returns-in-11 : goal.returns-in-11
unfolding read_of
returns-in-11 c = search (rules, to_read)

pub returns-in_default : goal.returns-in_default
unfolding read_of
returns-in_default c = search (rules, to_none)
