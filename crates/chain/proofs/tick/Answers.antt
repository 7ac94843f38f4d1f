use Rattle.chain.proofs.Laws.{to_ticked}
use Rattle.chain.proofs.tick.Goals as goal

pub returns : goal.returns
returns c =
    to_ticked c.args.bridge c.args.tx.now c.args.rx.now c.args.chain.now c.args.oldest c.sout-sout.result c.pass-sin.result.0 c.pass-sin.result.1
    c.pass-sin.new.chain c.step.result c.step.new.tx c.step.new.rx c.sout-sout.ensures c.pass-sin.ensures.sin c.pass-sin.ensures.oldest
    c.pass-sin.ensures.cells c.step.ensures
