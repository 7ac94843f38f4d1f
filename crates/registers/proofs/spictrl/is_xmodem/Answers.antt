use Rattle.std.proofs.Common.{rules}
use Rattle.registers.specs.Spictrl.{is_xmodem_in}
use Rattle.registers.proofs.Arms.{to_xmodem, third_bit}
use Rattle.registers.proofs.spictrl.is_xmodem.Goals as goal

pub returns-in-Ours : goal.returns-in-Ours
unfolding is_xmodem_in
returns-in-Ours c = search (rules, to_xmodem, third_bit)

pub returns-in-Makers : goal.returns-in-Makers
unfolding is_xmodem_in
returns-in-Makers c = search (rules, to_xmodem, third_bit)
