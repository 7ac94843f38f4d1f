-- A column's name stands in the text.
use Rattle.std.proofs.Common.{◌≤◌}
use Rattle.table.proofs.Text.put_named.Given as goal

abbrev pub invariant-loop-field : goal.invariant-loop-field
invariant-loop-field l = l.at ≤ 65535
