use borrow.Author.Rules.{rules}
use Rattle.writes.specs.Writes.{register_word}
use Rattle.base.specs.Pick.{picks, pick_false}
use Rattle.writes.proofs.register_word.Goals as goal

pub returns-then-crc : goal.returns-then-crc
unfolding register_word
returns-then-crc c = search (rules, picks)

pub returns : goal.returns
unfolding register_word
returns c = pick_false _ _ _ _ (search rules) cc
