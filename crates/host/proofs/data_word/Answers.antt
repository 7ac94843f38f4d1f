use borrow.Author.Rules.{rules}
use Rattle.host.specs.Frames.{data_word}
use Rattle.host.proofs.Words.{to_data}
use Rattle.host.proofs.Sound.{forward_room, register_room}
use Rattle.host.proofs.data_word.Goals as goal

pub forward_word-requires : goal.forward_word-requires
forward_word-requires c = search (rules, forward_room)

pub register_data-requires : goal.register_data-requires
register_data-requires c = search (rules, register_room)

pub returns-in-Forward : goal.returns-in-Forward
unfolding data_word
returns-in-Forward c = search (rules, to_data)

pub returns-in-RegisterWrite : goal.returns-in-RegisterWrite
unfolding data_word
returns-in-RegisterWrite c = search (rules, to_data)

pub returns-in-Filler : goal.returns-in-Filler
unfolding data_word
returns-in-Filler c = search (rules, to_data)
