-- What is left of `night_parts::next_part`: each kind's part is lent what the list is.
use Rattle.std.proofs.Common.{rules}
use Rattle.night_parts.proofs.Single.{to_kind, to_power, lent_read, lent_record, lent_ahead, lent_word, from_apart}
use Rattle.night_parts.proofs.next_part.Goals as goal

pub unwrap-power-requires : goal.unwrap-power-requires
unwrap-power-requires c = search (rules, lent_read)

pub kind_at-requires : goal.kind_at-requires
kind_at-requires c = search (rules, lent_record)

pub alone-requires-clause-event_value : goal.alone-requires-clause-event_value
alone-requires-clause-event_value c = to_power _ c.args.records.now c.args.from _ c.record_at.ensures c.unwrap-power.ensures

pub words-requires-clause-from_value : goal.words-requires-clause-from_value
words-requires-clause-from_value c = search (rules, lent_word)

pub returns-in-4 : goal.returns-in-4
returns-in-4 c = search (rules, from_apart)
