use Rattle.std.proofs.Common.{refl}
use Rattle.shift.proofs.Laws.{to_short, to_cut, to_whole, words_there}
use Rattle.shift.proofs.entry_at.Goals as goal

pub returns-then-end-at-lt3 : goal.returns-then-end-at-lt3
returns-then-end-at-lt3 c =
    let e = c.cut.ensures in
    to_short c.args.cells.now c.args.at c.requires c.cut.result e.slot e.reading e.words e.next c.if-end-at-lt3.true

pub returns-then-end-from : goal.returns-then-end-from
returns-then-end-from c =
    let e = c.cut-then-end-from.ensures in
    to_cut c.args.cells.now c.args.at c.requires c.cut-then-end-from.result e.slot e.reading e.words e.next c.if-end-at-lt3.false c.if-end-from.true

pub returns : goal.returns
returns c =
    to_whole c.args.cells.now c.args.at c.requires _ refl refl c.if-end-at-lt3.false c.if-end-from.false (words_there c.args.cells.now c.args.at _) refl
