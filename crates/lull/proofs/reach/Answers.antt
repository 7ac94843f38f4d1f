-- What is left of `lull::reach`: each way out says how far quiet ticks may go.
use Rattle.std.proofs.Common.{rules}
use Rattle.lull.proofs.Ticks.{to_length, to_end, to_last}
use Rattle.lull.proofs.reach.Goals as goal
use Rattle.lull.proofs.reach.Goals.{then-sender-gt0+else-length-lt18, else-sender-gt0}

pub returns-then-length-lt18 : goal.returns-then-length-lt18
returns-then-length-lt18 c = search (rules, to_length)

pub returns : goal.returns
returns c =
    elim c.if-sender-gt0.branch [
      | then-sender-gt0+else-length-lt18 w ↦ search (rules, to_end)
      | else-sender-gt0 w ↦ search (rules, to_last)
    ]
