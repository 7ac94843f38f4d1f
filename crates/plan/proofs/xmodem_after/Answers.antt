use borrow.Author.Rules.{rules}
use Rattle.plan.proofs.Laws.{to_opened, to_unopened}
use Rattle.plan.proofs.xmodem_after.Goals as goal

pub returns : goal.returns
returns c = search (rules, to_opened, to_unopened)

pub returns-then-is_collecting-awaits_command : goal.returns-then-is_collecting-awaits_command
returns-then-is_collecting-awaits_command c = search (rules, to_opened, to_unopened)
