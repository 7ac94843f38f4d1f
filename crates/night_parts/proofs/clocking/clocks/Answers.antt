-- What is left of `night_parts::clocking::clocks`: the readings done so far.
use Rattle.std.proofs.Common.{rules, arith}
use Rattle.night_parts.proofs.Single.{apart_begins, apart_end, apart_other, apart_record, apart_room, clock_more}
use Rattle.night_parts.proofs.clocking.clocks.Goals as goal

pub loop-k-init : goal.loop-k-init
loop-k-init c = search (rules, apart_begins)

pub kind_at-requires : goal.kind_at-requires
kind_at-requires c = search (rules, apart_record)

pub returns-then-kind_at-ne4 : goal.returns-then-kind_at-ne4
returns-then-kind_at-ne4 c = search (rules, apart_other)

pub put_quiet-requires : goal.put_quiet-requires
put_quiet-requires c = search (rules, apart_room)

pub value_at-reading-requires : goal.value_at-reading-requires
value_at-reading-requires c = search (rules, apart_record)

pub loop-k-preserved : goal.loop-k-preserved
loop-k-preserved c =
    let v = c.loop-k.invariant in
    let h = c.loop-k-test.true in
    let x = c.kind_at.ensures in
    let i = c.if-kind_at-ne4.false in
    let r = c.value_at-reading.ensures in
    let f = c.watch_fires-fires.ensures in
    let d = c.dog_fires-bites.ensures in
    let o = c.control_at-control.ensures in
    let u = c.put_quiet.ensures in
    search (rules, clock_more)

pub returns : goal.returns
returns c = apart_end _ _ _ _ _ _ _ _ c.loop-k.invariant c.requires.ahead.one c.loop-k-test.false (c.loop-k.auto.k-end (omega (arith, c.requires.ahead.one)))
