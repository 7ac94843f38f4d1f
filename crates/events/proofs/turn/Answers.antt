use borrow.Author.Rules.{rules}
use Rattle.events.proofs.Turns.{ready_fit, ready_tx, ready_rx, tx_head, rx_head, to_turn}
use Rattle.events.proofs.turn.Goals as goal

pub bounds-tx-tx_head : goal.bounds-tx-tx_head
bounds-tx-tx_head c = search (rules, tx_head)

pub bounds-rx-rx_head : goal.bounds-rx-rx_head
bounds-rx-rx_head c = search (rules, rx_head)

pub react-did-requires : goal.react-did-requires
react-did-requires c = search (rules, ready_fit)

pub write_cell-requires : goal.write_cell-requires
write_cell-requires c = search (rules, ready_tx)

pub write_cell-requires-2 : goal.write_cell-requires-2
write_cell-requires-2 c = search (rules, ready_rx)

pub returns : goal.returns
returns c = search (rules, to_turn)
