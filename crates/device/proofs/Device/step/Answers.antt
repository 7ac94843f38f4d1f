-- The answer and what is kept are two parts of one event of a run.
use Rattle.std.proofs.Common.{ap}
use Rattle.events.specs.Turn.{Out}
use Rattle.bridge.specs.Runs.{out_of, next, left_by}
use Rattle.device.proofs.Device.step.Goals as goal

pub returns-clause-answer : goal.returns-clause-answer
unfolding out_of
returns-clause-answer c = ap (λ (o : Out). o.answer) c.step-answer.ensures

pub returns-clause-kept : goal.returns-clause-kept
unfolding next out_of
returns-clause-kept c = ap left_by c.step-answer.ensures
