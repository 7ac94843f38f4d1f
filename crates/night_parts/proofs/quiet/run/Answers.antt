-- What is left of `night_parts::quiet::run`: the ticks done so far.
use Rattle.std.proofs.Common.{rules}
use Rattle.night_parts.proofs.Hushed.{hush_begins, hush_more, hush_room, hush_record, hush_end}
use Rattle.night_parts.proofs.quiet.run.Goals as goal

pub loop-k-init : goal.loop-k-init
loop-k-init c = search (rules, hush_begins)

pub kind_at-requires : goal.kind_at-requires
kind_at-requires c = search (rules, hush_record)

pub bit_at-sin-requires : goal.bit_at-sin-requires
bit_at-sin-requires c = search (rules, hush_record)

pub put_quiet-requires : goal.put_quiet-requires
put_quiet-requires c = search (rules, hush_room)

pub loop-k-preserved : goal.loop-k-preserved
loop-k-preserved c = search (rules, hush_more)

pub returns : goal.returns
returns c = hush_end _ _ _ _ _ _ _ _ _ c.loop-k.invariant c.loop-k-test.false
