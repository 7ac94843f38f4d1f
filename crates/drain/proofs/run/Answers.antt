-- What is left of `drain::run`: what is left of the run is the whole run.
use Rattle.std.proofs.Common.{rules}
use Rattle.drain.proofs.Laws.{to_rest, to_budget, host_now, again, to_note}
use Rattle.drain.proofs.Hushed.{hushed}
use Rattle.drain.proofs.run.Goals as goal

pub run-g-requires-clause-host_fit : goal.run-g-requires-clause-host_fit
run-g-requires-clause-host_fit c = search (rules, host_now)

pub loop-ticks-preserved-then-ticks-g : goal.loop-ticks-preserved-then-ticks-g
loop-ticks-preserved-then-ticks-g c = search (rules, hushed)

pub returns-then-at_rest : goal.returns-then-at_rest
returns-then-at_rest c = search (rules, to_rest)

pub returns-then-number-ne0 : goal.returns-then-number-ne0
returns-then-number-ne0 c = search (rules, to_note)

pub loop-ticks-preserved : goal.loop-ticks-preserved
loop-ticks-preserved c = search (rules, again)

pub returns : goal.returns
returns c = search (rules, to_budget)
