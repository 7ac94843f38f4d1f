-- What is left of `frames::fill`: each turn puts one data word behind the command word.
use Rattle.std.proofs.Common.{rules}
use Rattle.frames.proofs.Writing.{fill_begins, fill_again, fill_ends}
use Rattle.frames.proofs.fill.Goals as goal

pub loop-i-init : goal.loop-i-init
loop-i-init c = search (rules, fill_begins)

pub loop-i-preserved : goal.loop-i-preserved
loop-i-preserved c = search (rules, fill_again)

pub returns : goal.returns
returns c = search (rules, fill_ends)
