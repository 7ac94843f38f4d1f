use borrow.Author.Rules.{rules}
use Rattle.release.specs.Release.{released_in}
use Rattle.plan.proofs.Cases.{at_second}
use Rattle.release.proofs.released.Goals as goal

pub returns-in-Collecting : goal.returns-in-Collecting
unfolding released_in
returns-in-Collecting c = search (rules, at_second released_in)

pub returns-in-Idle : goal.returns-in-Idle
unfolding released_in
returns-in-Idle c = search (rules, at_second released_in)
