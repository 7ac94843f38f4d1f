-- What is left of `script::release`: a value where the test passes.
use Rattle.std.proofs.Common.{rules}
use Rattle.script.specs.Script.{release_record}
use Rattle.script.proofs.Laws.{to_some}
use Rattle.script.proofs.release.Goals as goal

pub returns : goal.returns
unfolding release_record
returns c = search (rules, to_some)
