-- What is left of `lull::laid_sender`: each way out is a choice by rest.
use Rattle.std.proofs.Common.{rules}
use Rattle.base.specs.Pick.{picks}
use Rattle.lull.specs.Lull.{laid_sender}
use Rattle.lull.proofs.laid_sender.Goals as goal

pub returns-then-rests : goal.returns-then-rests
unfolding laid_sender
returns-then-rests c = search (rules, picks)

pub returns : goal.returns
unfolding laid_sender
returns c = search (rules, picks)
