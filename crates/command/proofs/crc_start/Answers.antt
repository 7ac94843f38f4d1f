use Rattle.std.proofs.Common.{rules}
use Rattle.base.specs.Pick.{picks}
use Rattle.command.specs.Layouts.{start_by}
use Rattle.command.proofs.crc_start.Goals as goal

pub returns-then-xmodem : goal.returns-then-xmodem
unfolding start_by
returns-then-xmodem c = search (rules, picks)

pub returns-else-xmodem : goal.returns-else-xmodem
unfolding start_by
returns-else-xmodem c = search (rules, picks)
