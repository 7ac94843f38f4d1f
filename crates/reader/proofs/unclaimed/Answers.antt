use Rattle.std.proofs.Common.{refl}
use Rattle.reader.specs.Reader.{at_end}
use Rattle.reader.proofs.unclaimed.Goals as goal

pub returns : goal.returns
unfolding at_end
returns c = refl
