-- The numbers of what a list is refused for (02 item 6, "Refusals"; 01 Notes, 1 and 2). Assumes nothing.
use Rattle.std.specs.Prelude.{ℕ}
use Rattle.whole_night.specs.declared.Outcome.{Outcome}
use Rattle.whole_night.specs.declared.Outcome.TheVariants.{Done, NoEvent, ShortResults, WrongStores, BrokenRecord}

abbrev pub outcome_number : Outcome → ℕ
outcome_number Done = 0
outcome_number NoEvent = 22
outcome_number ShortResults = 23
outcome_number WrongStores = 1
outcome_number BrokenRecord = 2
