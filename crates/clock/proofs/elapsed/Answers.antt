use borrow.Author.Rules.{rules}
use Rattle.std.proofs.Common.{arith}
use Rattle.clock.specs.Clock.{elapsed}
use Rattle.clock.proofs.elapsed.Goals as goal

pub returns : goal.returns
unfolding elapsed
returns c = omega arith
