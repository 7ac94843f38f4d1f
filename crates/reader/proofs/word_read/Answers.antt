use Rattle.std.proofs.Common.{rules, arith}
use Rattle.state.specs.Queue.{no_place}
use Rattle.reader.specs.Reader.{word_read}
use Rattle.reader.proofs.Laws.{Own, foreign, own, to_word_read}
use Rattle.reader.proofs.word_read.Goals as goal

pub bounds-queue-k : goal.bounds-queue-k
bounds-queue-k c =
    let v : Own c.args.belongs c.args.queue c.in-Some.i = own c.args.belongs c.args.queue _ c.own_place.ensures c.in-Some.i c.in-Some.is in
    omega (arith, v.begun, c.requires.order, c.requires.most)

pub bounds-marked-k : goal.bounds-marked-k
bounds-marked-k c =
    let v : Own c.args.belongs c.args.queue c.in-Some.i = own c.args.belongs c.args.queue _ c.own_place.ensures c.in-Some.i c.in-Some.is in
    omega (arith, v.begun, c.requires.order, c.requires.most)

pub returns-in_default : goal.returns-in_default
unfolding word_read
returns-in_default c = search (rules, foreign)

pub returns : goal.returns
unfolding no_place
returns c =
    let v : Own c.args.belongs c.args.queue c.in-Some.i = own c.args.belongs c.args.queue _ c.own_place.ensures c.in-Some.i c.in-Some.is in
    search (rules, to_word_read)
