-- What is left of `script::head`: `starts_with` compares the bytes of the mark.
use Rattle.std.proofs.Common.{◌∙◌}
use Rattle.script.proofs.Laws.{to_head}
use Rattle.script.proofs.head.Goals as goal

pub returns : goal.returns
returns c = c.starts_with.ensures.value ∙ to_head c.args.s.now
