use Rattle.std.proofs.Common.{rules, arith}
use Rattle.state.specs.Queue.{no_place}
use Rattle.reader.specs.Reader.{error_read}
use Rattle.reader.proofs.Laws.{Own, foreign, own, to_error_read}
use Rattle.reader.proofs.error_read.Goals as goal

pub bounds-marked-i : goal.bounds-marked-i
bounds-marked-i c =
    let v : Own c.args.belongs c.args.queue c.in-Some.i = own c.args.belongs c.args.queue _ c.own_place.ensures c.in-Some.i c.in-Some.is in
    omega (arith, v.begun, c.requires.order, c.requires.most)

pub returns-in_default : goal.returns-in_default
unfolding error_read
returns-in_default c = search (rules, foreign)

pub returns : goal.returns
unfolding no_place
returns c =
    let v : Own c.args.belongs c.args.queue c.in-Some.i = own c.args.belongs c.args.queue _ c.own_place.ensures c.in-Some.i c.in-Some.is in
    search (rules, to_error_read)
