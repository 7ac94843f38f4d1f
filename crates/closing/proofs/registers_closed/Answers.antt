use borrow.Author.Rules.{rules}
use Rattle.closing.specs.Closing.{registers_closed}
use Rattle.base.specs.Pick.{picks}
use Rattle.closing.proofs.Laws.{to_registers}
use Rattle.closing.proofs.registers_closed.Goals as goal

pub returns-then-crc : goal.returns-then-crc
returns-then-crc c = search (rules, picks, to_registers)

pub returns : goal.returns
unfolding registers_closed
returns c = search (rules, picks)
