use Rattle.std.proofs.Common.{◌≡◌, length, arith}
use Rattle.state.specs.Queue.{no_place}
use Rattle.queue.proofs.Laws.{to_moved}
use Rattle.queue.proofs.freed.Goals as goal

pub returns : goal.returns
unfolding no_place
returns c =
    let q = c.args.queue in
    let l : length q.places ≡ 8 = c.well_formed.0.1.1.0.1.0.1 in
    to_moved q c.args.i c.copy_within.new.self c.copy_within.ensures.after l (omega (arith, c.requires.0.order, c.requires.0.most))
