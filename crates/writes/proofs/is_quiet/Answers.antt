use borrow.Author.Rules.{rules}
use Rattle.writes.specs.Writes.{is_quiet}
use Rattle.plan.proofs.Cases.{at_case}
use Rattle.writes.proofs.is_quiet.Goals as goal

pub returns-in-Quiet : goal.returns-in-Quiet
unfolding is_quiet
returns-in-Quiet c = search (rules, at_case is_quiet)

pub returns-in_default : goal.returns-in_default
unfolding is_quiet
returns-in_default c = search rules
