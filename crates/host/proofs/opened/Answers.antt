use borrow.Author.Rules.{rules}
use Rattle.host.specs.Frames.{opened}
use Rattle.host.proofs.Words.{to_opened, to_collects}
use Rattle.host.proofs.opened.Goals as goal

pub returns-in-Filler : goal.returns-in-Filler
unfolding opened
returns-in-Filler c = search (rules, to_opened)

pub returns-in-Malformed : goal.returns-in-Malformed
unfolding opened
returns-in-Malformed c = search (rules, to_opened)

pub returns-in-Forward : goal.returns-in-Forward
unfolding opened
returns-in-Forward c = search (rules, to_opened)

pub returns-in-DataRead : goal.returns-in-DataRead
unfolding opened
returns-in-DataRead c = search (rules, to_collects)
