use Rattle.answers.specs.Answers.{register_answered}
use Rattle.answers.proofs.register_answered.Goals as goal

pub returns : goal.returns
unfolding register_answered
returns c = cc
