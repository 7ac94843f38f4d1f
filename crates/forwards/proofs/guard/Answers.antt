use borrow.Author.Rules.{rules}
use Rattle.forwards.specs.Forward.{guard}
use Rattle.base.specs.Pick.{picks}
use Rattle.forwards.proofs.guard.Goals as goal

pub returns-then-is_blocked : goal.returns-then-is_blocked
unfolding guard
returns-then-is_blocked c = search (rules, picks)

pub returns-then-overflows : goal.returns-then-overflows
unfolding guard
returns-then-overflows c = search (rules, picks)

pub returns-then-not-wish : goal.returns-then-not-wish
unfolding guard
returns-then-not-wish c = search (rules, picks)

pub returns-then-lacks : goal.returns-then-lacks
unfolding guard
returns-then-lacks c = search (rules, picks)

pub returns : goal.returns
unfolding guard
returns c = search (rules, picks)
