-- What is left of `quick::sender_after`: each way out is a choice by `in_piece`.
use Rattle.std.proofs.Common.{rules}
use Rattle.base.specs.Pick.{picks}
use Rattle.sender.specs.Sender.{sender_after}
use Rattle.quick.proofs.sender_after.Goals as goal

pub returns-then-in_piece : goal.returns-then-in_piece
unfolding sender_after
returns-then-in_piece c = search (rules, picks)

pub returns : goal.returns
unfolding sender_after
returns c = search (rules, picks)
