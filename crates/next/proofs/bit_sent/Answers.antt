use Rattle.std.proofs.Common.{rules}
use Rattle.next.specs.Next.{bit_sent}
use Rattle.next.proofs.Laws.{to_bit}
use Rattle.next.proofs.bit_sent.Goals as goal

pub returns-in-GoOn : goal.returns-in-GoOn
unfolding bit_sent
returns-in-GoOn c = search (rules, to_bit)

pub returns-in-LoadWord : goal.returns-in-LoadWord
unfolding bit_sent
returns-in-LoadWord c = search (rules, to_bit)

pub returns-in-StartWords : goal.returns-in-StartWords
unfolding bit_sent
returns-in-StartWords c = search (rules, to_bit)

pub returns-in-Starve : goal.returns-in-Starve
unfolding bit_sent
returns-in-Starve c = search (rules, to_bit)
