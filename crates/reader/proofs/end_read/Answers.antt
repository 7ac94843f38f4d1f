use Rattle.std.proofs.Common.{rules, arith}
use Rattle.state.specs.Queue.{no_place}
use Rattle.reader.specs.Reader.{end_read}
use Rattle.reader.proofs.Laws.{Own, foreign, own, to_end_read}
use Rattle.reader.proofs.end_read.Goals as goal

pub bounds-queue-i : goal.bounds-queue-i
bounds-queue-i c =
    let v : Own c.args.belongs c.args.queue c.in-Some.i = own c.args.belongs c.args.queue _ c.own_place.ensures c.in-Some.i c.in-Some.is in
    omega (arith, v.begun, c.requires.order, c.requires.most)

pub give_back-requires : goal.give_back-requires
give_back-requires c =
    let v : Own c.args.belongs c.args.queue c.in-Some.i = own c.args.belongs c.args.queue _ c.own_place.ensures c.in-Some.i c.in-Some.is in
    (c.requires, v.begun)

pub returns-in_default : goal.returns-in_default
unfolding end_read
returns-in_default c = search (rules, foreign)

pub returns : goal.returns
unfolding no_place
returns c =
    let v : Own c.args.belongs c.args.queue c.in-Some.i = own c.args.belongs c.args.queue _ c.own_place.ensures c.in-Some.i c.in-Some.is in
    search (rules, to_end_read)
