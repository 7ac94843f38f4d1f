-- What is left of `quick::bit_sent`: each way out is a choice by `in_piece`.
use Rattle.std.proofs.Common.{rules}
use Rattle.base.specs.Pick.{picks}
use Rattle.next.specs.Next.{bit_sent}
use Rattle.quick.proofs.bit_sent.Goals as goal

pub returns-then-in_piece : goal.returns-then-in_piece
unfolding bit_sent
returns-then-in_piece c = search (rules, picks)

pub returns : goal.returns
unfolding bit_sent
returns c = search (rules, picks)
