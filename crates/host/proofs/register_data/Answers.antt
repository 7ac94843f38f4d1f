use borrow.Author.Rules.{rules}
use Rattle.host.specs.Frames.{data_word}
use Rattle.host.proofs.register_data.Goals as goal

pub returns : goal.returns
unfolding data_word
returns c = search rules
