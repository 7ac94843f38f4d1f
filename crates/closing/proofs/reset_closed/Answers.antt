use borrow.Author.Rules.{rules}
use Rattle.closing.specs.Closing.{reset_closed}
use Rattle.base.specs.Pick.{picks}
use Rattle.closing.proofs.Laws.{to_reset}
use Rattle.closing.proofs.reset_closed.Goals as goal

pub returns-then-is_idle : goal.returns-then-is_idle
unfolding reset_closed
returns-then-is_idle c = search (rules, picks)

pub returns : goal.returns
returns c = search (rules, picks, to_reset)
