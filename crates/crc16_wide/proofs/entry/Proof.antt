-- `entry` meets its contract: the table's rule.
use Prim.Native.Nat.{◌<◌}
use borrow.Author.Rules.{rules}
use Rattle.base.specs.Pick.{pick}
use Rattle.crc16.specs.Crc.{shift, shifts}
use Rattle.crc16.specs.Tables.{entry_of}
use Rattle.crc16_wide.proofs.Steps.{step_at}
use Rattle.crc16_wide.proofs.entry.Statement.{statement}
use Rattle.crc16_wide.proofs.entry.Tie as tie

pub entry_spec : {M : Type 1} → statement M
unfolding pick entry_of shift shifts
entry_spec = tie.close (tie.spec (λ c. search rules) (λ c. search rules) (λ c. let h : c.args.k < 256 = search rules in rw step_at))
