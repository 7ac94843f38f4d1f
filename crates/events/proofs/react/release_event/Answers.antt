use borrow.Author.Rules.{rules}
use Rattle.events.proofs.Laws.{cut_doable, to_plan}
use Rattle.events.proofs.react.release_event.Goals as goal

pub hosted-requires-clause-doable : goal.hosted-requires-clause-doable
hosted-requires-clause-doable c = search (rules, cut_doable)

pub returns : goal.returns
returns c = search (rules, to_plan)
