use Rattle.std.proofs.Common.{rules}
use Rattle.board.proofs.Laws.{taken_slot, taken_some, taken_most, to_called, to_refused}
use Rattle.board.proofs.call_up.Goals as goal

pub taken-requires-clause-slot_bound : goal.taken-requires-clause-slot_bound
taken-requires-clause-slot_bound c = search (rules, taken_slot)

pub taken-requires-clause-in_bounds : goal.taken-requires-clause-in_bounds
taken-requires-clause-in_bounds c = search (rules, taken_some)

pub taken-requires-clause-words_len_bound : goal.taken-requires-clause-words_len_bound
taken-requires-clause-words_len_bound c = search (rules, taken_most)

pub returns-then-is_ok : goal.returns-then-is_ok
returns-then-is_ok c = search (rules, to_called)

pub returns : goal.returns
returns c = search (rules, to_refused)
