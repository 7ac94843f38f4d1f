-- What is left of `quick::turn`: the record obeys the rules, and the short way is the whole one.
use Rattle.std.proofs.Common.{rules}
use Rattle.events.proofs.Turns.{ready_fit}
use Rattle.quick.proofs.turn.Goals as goal

pub passes-requires : goal.passes-requires
passes-requires c = search (rules, ready_fit)

pub passed-requires-clause-host_fit : goal.passed-requires-clause-host_fit
passed-requires-clause-host_fit c = search (rules, ready_fit)
