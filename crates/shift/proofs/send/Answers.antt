use Rattle.std.proofs.Common.{rules}
use Rattle.shift.proofs.Laws.{sent_fits, to_sent}
use Rattle.shift.proofs.send.Goals as goal

pub overflow_add-result : goal.overflow_add-result
overflow_add-result c =
    let e = c.wait-sent.ensures in
    let b = c.ranges.budget.fits in
    search (rules, sent_fits)

pub returns : goal.returns
returns c = search (rules, to_sent)
