use Rattle.std.proofs.Common.{rules}
use Rattle.chain.specs.Chain.{moment}
use Rattle.chain.proofs.Laws.{begins, to_met, again, to_budget}
use Rattle.chain.proofs.wait.Goals as goal

pub loop-ticks-init : goal.loop-ticks-init
loop-ticks-init c = begins _ _ _

pub returns-then-met : goal.returns-then-met
returns-then-met c =
    let l = c.loop-ticks in
    to_met _ _ _ l.b l.tx l.rx l.chain l.at l.ticks l.sout l.invariant c.loop-ticks-test.true _ c.met.ensures c.if-met.true

pub loop-ticks-preserved : goal.loop-ticks-preserved
loop-ticks-preserved c =
    let l = c.loop-ticks in
    let t = c.tick-went in
    again _ _ _ l.b l.tx l.rx l.chain l.at l.ticks l.sout l.invariant c.loop-ticks-test.true _ c.met.ensures c.if-met.false t.result t.new.tx t.new.rx t.new.chain
    t.ensures

pub returns : goal.returns
returns c =
    let l = c.loop-ticks in
    to_budget _ _ _ l.b l.tx l.rx l.chain l.at l.ticks l.sout l.invariant c.loop-ticks-test.false l.auto.ticks-end
