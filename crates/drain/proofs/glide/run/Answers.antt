-- What is left of `drain::glide::run`: what is left of the run is the run that was to be made.
use Rattle.std.proofs.Common.{rules}
use Rattle.drain.proofs.Hushed.{hush_begins, hush_more, hush_end}
use Rattle.drain.proofs.glide.run.Goals as goal

pub loop-ticks-init : goal.loop-ticks-init
loop-ticks-init c = search (rules, hush_begins)

pub loop-ticks-preserved : goal.loop-ticks-preserved
loop-ticks-preserved c = search (rules, hush_more)

pub returns : goal.returns
returns c = hush_end _ _ _ _ _ c.loop-ticks.invariant c.loop-ticks-test.false
