use borrow.Author.Rules.{rules}
use Rattle.answers.specs.Answers.{answered}
use Rattle.answers.proofs.Laws.{to_answer, to_status, to_register, next_fits}
use Rattle.answers.proofs.answered.Goals as goal

pub register_answered-requires : goal.register_answered-requires
register_answered-requires c = search (rules, next_fits)

pub returns-in-Status : goal.returns-in-Status
returns-in-Status c = search (rules, to_status)

pub returns-in-Data : goal.returns-in-Data
unfolding answered
returns-in-Data c = search (rules, to_answer)

pub returns-in-Registers : goal.returns-in-Registers
returns-in-Registers c = search (rules, to_register)

pub returns-in-Check : goal.returns-in-Check
unfolding answered
returns-in-Check c = search (rules, to_answer)
