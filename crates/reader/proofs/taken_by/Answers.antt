use Rattle.std.proofs.Common.{rules}
use Rattle.reader.specs.Reader.{taken_by}
use Rattle.reader.proofs.Laws.{to_found, to_nothing, to_start, to_ended, to_error}
use Rattle.reader.proofs.taken_by.Goals as goal

pub returns-in-Nothing : goal.returns-in-Nothing
returns-in-Nothing c = search (rules, to_nothing)

pub returns-in-Start : goal.returns-in-Start
returns-in-Start c = search (rules, to_start)

pub returns-in-Word : goal.returns-in-Word
returns-in-Word c = unfold taken_by in search (rules, to_found)

pub returns-in-End : goal.returns-in-End
returns-in-End c = search (rules, to_ended)

pub returns-in-CheckError : goal.returns-in-CheckError
returns-in-CheckError c = search (rules, to_error)
