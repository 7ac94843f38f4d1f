-- A span, or not, and which way it goes, as the rows 10 to 13 have them.
use Rattle.std.proofs.Common.{rules}
use Rattle.command.proofs.Laws.{no_register, to_register_of_read, to_register_of_write}
use Rattle.command.proofs.register.Goals as goal

pub returns-then-not-spans : goal.returns-then-not-spans
returns-then-not-spans c = no_register c.args.crc c.args.reads c.args.f (search rules)

pub returns-then-reads : goal.returns-then-reads
returns-then-reads c = to_register_of_read c.args.crc c.args.reads c.args.f (search rules) c.if-reads.true

pub returns-else-reads : goal.returns-else-reads
returns-else-reads c = to_register_of_write c.args.crc c.args.reads c.args.f (search rules) c.if-reads.false
