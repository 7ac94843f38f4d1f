-- What is left of `quick::passed`: the parts that its calls told are the tick's.
use Rattle.std.proofs.Common.{rules}
use Rattle.quick.proofs.Between.{to_passed}
use Rattle.quick.proofs.passed.Goals as goal

pub returns : goal.returns
returns c = λ tx rx. search (rules, to_passed)
