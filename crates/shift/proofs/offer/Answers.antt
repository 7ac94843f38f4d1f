use Rattle.std.proofs.Common.{rules}
use Rattle.shift.proofs.Laws.{to_offer}
use Rattle.shift.proofs.offer.Goals as goal

pub returns : goal.returns
returns c = search (rules, to_offer)
