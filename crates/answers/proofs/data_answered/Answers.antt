use borrow.Author.Rules.{rules}
use borrow.Author.Tests.{eq-eqb, ne_eqb}
use Rattle.answers.specs.Answers.{data_answered}
use Rattle.base.specs.Pick.{pick_true, pick_false}
use Rattle.answers.proofs.data_answered.Goals as goal

pub returns-then-bridge-eq0 : goal.returns-then-bridge-eq0
unfolding data_answered
returns-then-bridge-eq0 c = pick_true _ _ _ _ (search (rules, eq-eqb)) cc

pub returns : goal.returns
unfolding data_answered
returns c = pick_false _ _ _ _ (search (rules, ne_eqb)) cc
