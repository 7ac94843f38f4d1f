use Rattle.std.proofs.Common.{rules}
use Rattle.state.specs.Queue.{no_place}
use Rattle.place_rules.proofs.Laws.{none_slotted, one_slotted, all_slotted}
use Rattle.place_rules.proofs.places_sound.Goals as goal

pub loop-i-init : goal.loop-i-init
loop-i-init c = none_slotted c.args.queue c.well_formed.0.1.1.0.1.0.1

pub loop-i-preserved : goal.loop-i-preserved
unfolding no_place
loop-i-preserved c = search (rules, one_slotted)

pub returns : goal.returns
returns c = search (rules, all_slotted)
