-- Each arm tells what its answer says.
use Rattle.std.proofs.Common.{rules}
use Rattle.frames.proofs.Reading.{first_word, tells}
use Rattle.frames.proofs.read_answer.Goals as goal

pub bounds-answer-0 : goal.bounds-answer-0
bounds-answer-0 c = search (rules, first_word)

pub returns-in-Some-StatusDue : goal.returns-in-Some-StatusDue
returns-in-Some-StatusDue c = search (rules, tells)

pub returns-in-Some-DataDue : goal.returns-in-Some-DataDue
returns-in-Some-DataDue c = search (rules, tells)

pub returns-in_default : goal.returns-in_default
returns-in_default c = search (rules, tells)

pub returns-in_default-2 : goal.returns-in_default-2
returns-in_default-2 c = search (rules, tells)

pub returns-in_default-3 : goal.returns-in_default-3
returns-in_default-3 c = search (rules, tells)
