use borrow.Author.Rules.{rules}
use Rattle.events.proofs.Laws.{to_hosted}
use Rattle.events.proofs.react.hosted.Goals as goal

pub returns : goal.returns
returns c = search (rules, to_hosted)
