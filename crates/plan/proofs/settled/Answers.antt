use Rattle.plan.specs.Plan.{settled}
use Rattle.plan.proofs.settled.Goals as goal

pub returns : goal.returns
unfolding settled
returns c = cc
