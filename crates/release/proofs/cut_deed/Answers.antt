use borrow.Author.Rules.{rules}
use Rattle.release.specs.Release.{cut_deed}
use Rattle.base.specs.Pick.{picks}
use Rattle.release.proofs.cut_deed.Goals as goal

pub returns-then-not-released : goal.returns-then-not-released
unfolding cut_deed
returns-then-not-released c = search (rules, picks)

pub returns-then-is_due : goal.returns-then-is_due
unfolding cut_deed
returns-then-is_due c = search (rules, picks)

pub returns : goal.returns
unfolding cut_deed
returns c = search (rules, picks)
