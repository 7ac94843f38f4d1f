use borrow.Author.Rules.{rules}
use Rattle.events.specs.Events.{reacted}
use Rattle.events.proofs.Turns.{to_event, to_powered}
use Rattle.events.proofs.react.react.Goals as goal

pub returns-in-Power : goal.returns-in-Power
unfolding reacted
returns-in-Power c = search (rules, to_event, to_powered)

pub returns-in-Word : goal.returns-in-Word
unfolding reacted
returns-in-Word c = search (rules, to_event)

pub returns-in-Release : goal.returns-in-Release
unfolding reacted
returns-in-Release c = search (rules, to_event)

pub returns-in-Tick : goal.returns-in-Tick
unfolding reacted
returns-in-Tick c = search (rules, to_event)

pub returns-in-Clock : goal.returns-in-Clock
unfolding reacted
returns-in-Clock c = search (rules, to_event)
