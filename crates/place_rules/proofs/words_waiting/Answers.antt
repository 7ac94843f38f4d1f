use Rattle.std.proofs.Common.{rules, arith, refl}
use Rattle.state.specs.Queue.{no_place}
use Rattle.place_rules.proofs.Laws.{none_counted, one_counted, summed}
use Rattle.place_rules.proofs.words_waiting.Goals as goal

pub loop-i-init : goal.loop-i-init
loop-i-init c = none_counted c.args.queue c.well_formed.0.1.1.0.1.0.1

pub loop-i-preserved : goal.loop-i-preserved
unfolding no_place
loop-i-preserved c = one_counted c.args.queue c.loop-i.words c.loop-i.i c.loop-i.invariant _ refl (search rules) (omega arith)

pub returns : goal.returns
returns c = (summed c.args.queue c.loop-i.words c.loop-i.i c.loop-i.invariant (omega arith), c.loop-i.invariant.small)
