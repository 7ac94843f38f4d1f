use Rattle.board.proofs.Laws.{give_again, give_ends}
use Rattle.board.proofs.give.Goals as goal

pub loop-word-preserved : goal.loop-word-preserved
loop-word-preserved c =
    give_again _ c.args.frame.now c.loop-word.b c.loop-word.tx c.loop-word.rx c.loop-word.word-index c.loop-word.invariant c.step.result c.step.new.tx
    c.step.new.rx c.loop-word-test.true c.step.ensures

pub returns : goal.returns
returns c =
    give_ends _ c.args.frame.now c.loop-word.b c.loop-word.tx c.loop-word.rx c.loop-word.word-index c.loop-word.invariant c.step-2.result c.step-2.new.tx
    c.step-2.new.rx c.loop-word-test.false c.step-2.ensures
