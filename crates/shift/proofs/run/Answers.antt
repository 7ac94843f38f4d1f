use Rattle.std.proofs.Common.{rules}
use Rattle.shift.proofs.Laws.{offer_fits, less, begins, one_more, to_all, again, to_stopped}
use Rattle.shift.proofs.run.Goals as goal

pub loop-at-init : goal.loop-at-init
loop-at-init c = begins _ _ _ _ _ _ _ _

pub overflow_sub-left : goal.overflow_sub-left
overflow_sub-left c = c.loop-at.invariant.most

pub overflow_add-ticks : goal.overflow_add-ticks
overflow_add-ticks c =
    let v = c.loop-at.invariant.most in
    let e = c.offer-offered.ensures in
    let b = c.ranges.budget.fits in
    search (rules, offer_fits)

pub overflow_add-taken : goal.overflow_add-taken
overflow_add-taken c = let v = c.loop-at.invariant in search (rules, one_more)

pub loop-at-smaller : goal.loop-at-smaller
loop-at-smaller c = less c.args.cells.now c.loop-at.at c.entry_at-entry.result c.entry_at-entry.ensures

pub loop-at-preserved : goal.loop-at-preserved
loop-at-preserved c =
    let l = c.loop-at in
    let o = c.offer-offered in
    again c.args.cells.now c.args.budget _ l.shown l.b l.tx l.rx l.chain l.place l.taken l.ticks l.at l.invariant c.loop-at-test.true c.entry_at-entry.result
    c.entry_at-entry.ensures o.result o.new.tx o.new.rx o.new.chain o.ensures _ c.is_err.ensures.negation c.if-is_err.false

pub returns-then-is_err : goal.returns-then-is_err
returns-then-is_err c =
    let l = c.loop-at in
    let o = c.offer-offered in
    to_stopped c.args.cells.now c.args.budget _ l.shown l.b l.tx l.rx l.chain l.place l.taken l.ticks l.at l.invariant c.loop-at-test.true
    c.entry_at-entry.result c.entry_at-entry.ensures o.result o.new.tx o.new.rx o.new.chain o.ensures _ c.is_err.ensures.negation c.if-is_err.true

pub send-requires : goal.send-requires
send-requires c = c.loop-at.invariant.most

pub returns : goal.returns
returns c =
    let l = c.loop-at in
    to_all c.args.cells.now c.args.budget _ l.shown l.b l.tx l.rx l.chain l.place l.taken l.ticks l.at l.invariant c.loop-at-test.false c.send.result
    c.send.new.tx c.send.new.rx c.send.new.chain c.send.ensures
