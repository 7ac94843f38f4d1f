-- What is left of `quick::passes`: what was heard is what the reader hears.
use Rattle.std.proofs.Common.{rules}
use Rattle.quick.specs.Passing.{passes}
use Rattle.quick.proofs.Between.{to_heard}
use Rattle.quick.proofs.passes.Goals as goal

pub returns : goal.returns
unfolding passes
returns c = search (rules, to_heard)
