-- What is left of `script::tick`: a value where the test passes.
use Rattle.std.proofs.Common.{rules}
use Rattle.script.specs.Script.{tick_record}
use Rattle.script.proofs.Laws.{to_some}
use Rattle.script.proofs.tick.Goals as goal

pub returns : goal.returns
unfolding tick_record
returns c = search (rules, to_some)
