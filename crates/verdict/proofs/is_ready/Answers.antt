use Rattle.std.proofs.Common.{◌∙◌, sym}
use Rattle.verdict.specs.Verdicts.{is_ready}
use Rattle.verdict.proofs.is_ready.Goals as goal

pub returns-then-may_start : goal.returns-then-may_start
unfolding is_ready
returns-then-may_start c = rw (sym c.may_start.ensures ∙ c.if-may_start.true) c.is_idle.ensures

pub returns-else-may_start : goal.returns-else-may_start
unfolding is_ready
returns-else-may_start c = rw (sym c.may_start.ensures ∙ c.if-may_start.false) c.if-may_start.false
