use Rattle.std.proofs.Common.{rules}
use Rattle.base.specs.Pick.{picks}
use Rattle.next.specs.Next.{choose}
use Rattle.next.proofs.Laws.{piece_more, piece_over}
use Rattle.next.proofs.choose.Goals as goal

pub returns-then-sender-piece_length : goal.returns-then-sender-piece_length
unfolding choose
returns-then-sender-piece_length c = search (rules, picks, piece_more, piece_over)

pub returns-then-sending-gt0 : goal.returns-then-sending-gt0
unfolding choose
returns-then-sending-gt0 c = search (rules, picks, piece_more, piece_over)

pub returns-then-sender-gt0 : goal.returns-then-sender-gt0
unfolding choose
returns-then-sender-gt0 c = search (rules, picks, piece_more, piece_over)

pub returns-then-sender-gt0-2 : goal.returns-then-sender-gt0-2
unfolding choose
returns-then-sender-gt0-2 c = search (rules, picks, piece_more, piece_over)

pub returns-then-may : goal.returns-then-may
unfolding choose
returns-then-may c = search (rules, picks, piece_more, piece_over)

pub returns : goal.returns
unfolding choose
returns c = search (rules, picks, piece_more, piece_over)
