use borrow.Author.Rules.{rules}
use Rattle.plan.proofs.Laws.{to_performed, kept_ring}
use Rattle.plan.proofs.performed.Goals as goal

pub received-receiving-requires : goal.received-receiving-requires
received-receiving-requires c = search (rules, kept_ring)

pub returns : goal.returns
returns c = search (rules, to_performed)
