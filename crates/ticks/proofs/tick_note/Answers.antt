use borrow.Author.Rules.{rules}
use Rattle.ticks.specs.Ticks.{tick_note}
use Rattle.base.specs.Pick.{picks}
use Rattle.ticks.proofs.tick_note.Goals as goal

pub returns-then-starved : goal.returns-then-starved
unfolding tick_note
returns-then-starved c = search (rules, picks)

pub returns-then-full : goal.returns-then-full
unfolding tick_note
returns-then-full c = search (rules, picks)

pub returns-else-full : goal.returns-else-full
unfolding tick_note
returns-else-full c = search (rules, picks)
