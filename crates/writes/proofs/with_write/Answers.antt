use borrow.Author.Rules.{rules}
use Rattle.writes.specs.Writes.{is_transmit_clear, is_receive_clear, is_refused, with_write}
use Rattle.writes.proofs.Laws.{to_written}
use Rattle.writes.proofs.with_write.Goals as goal

pub returns-in-Nothing : goal.returns-in-Nothing
unfolding with_write is_transmit_clear is_receive_clear is_refused
returns-in-Nothing c = search (rules, to_written)

pub returns-in-TransmitClear : goal.returns-in-TransmitClear
unfolding with_write is_transmit_clear is_receive_clear is_refused
returns-in-TransmitClear c = search (rules, to_written)

pub returns-in-ReceiveClear : goal.returns-in-ReceiveClear
unfolding with_write is_transmit_clear is_receive_clear is_refused
returns-in-ReceiveClear c = search (rules, to_written)

pub returns-in-Refused : goal.returns-in-Refused
unfolding with_write is_transmit_clear is_receive_clear is_refused
returns-in-Refused c = search (rules, to_written)
