-- What is left of `quick::passes_by`: each way out is a choice by the tests.
use Rattle.std.proofs.Common.{rules}
use Rattle.base.specs.Pick.{picks}
use Rattle.quick.specs.Passing.{passes_by}
use Rattle.quick.proofs.Between.{to_rests}
use Rattle.quick.proofs.passes_by.Goals as goal

pub returns-then-in_piece : goal.returns-then-in_piece
unfolding passes_by
returns-then-in_piece c = search (rules, picks)

pub returns-else-in_piece : goal.returns-else-in_piece
unfolding passes_by
returns-else-in_piece c = search (rules, picks, to_rests)

pub returns-else-is_nothing : goal.returns-else-is_nothing
unfolding passes_by
returns-else-is_nothing c = search (rules, picks)
