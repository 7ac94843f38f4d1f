use Rattle.std.proofs.Common.{rules}
use Rattle.verdict.specs.Verdicts.{is_idle}
use Rattle.verdict.proofs.is_idle.Goals as goal

pub returns-in-Idle : goal.returns-in-Idle
unfolding is_idle
returns-in-Idle c = search rules

pub returns-in_default : goal.returns-in_default
unfolding is_idle
returns-in_default c = search rules
