use Rattle.std.proofs.Common.{rules}
use Rattle.line.specs.Reader.{next_number}
use Rattle.line.proofs.next_number.Goals as goal

pub returns : goal.returns
unfolding next_number
returns c = search rules
