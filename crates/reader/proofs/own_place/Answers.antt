use Rattle.std.proofs.Common.{rules}
use Rattle.base.specs.Pick.{picks}
use Rattle.reader.proofs.own_place.Goals as goal

pub returns-then-belongs : goal.returns-then-belongs
returns-then-belongs c = search (rules, picks)

pub returns-else-belongs : goal.returns-else-belongs
returns-else-belongs c = search (rules, picks)
