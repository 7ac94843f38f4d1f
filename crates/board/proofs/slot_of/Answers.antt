use Rattle.board.proofs.Laws.{to_slot}
use Rattle.board.proofs.slot_of.Goals as goal

pub returns : goal.returns
returns c = to_slot c.args.reading c.args.words.now c.copy_from_slice.new.self c.requires c.copy_from_slice.ensures.after
