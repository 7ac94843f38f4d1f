-- The notes by 01's numbers (01 Notes).
use Rattle.std.specs.Prelude.{ℕ}
use Rattle.state.specs.declared.Note.{Note}
use Rattle.state.specs.declared.Note.TheVariants.{Done, WrongStores, BrokenRecord, MalformedWord, Discarded, Blocked, CrcRefused, CrcWrong, TxFull, QueueFull, LineBusy, ResetRefused, CutShort, TxEmpty, RxFull, RxEmpty}

abbrev pub note_number : Note → ℕ
note_number Done = 0
note_number WrongStores = 1
note_number BrokenRecord = 2
note_number MalformedWord = 3
note_number Discarded = 4
note_number Blocked = 5
note_number CrcRefused = 6
note_number CrcWrong = 7
note_number TxFull = 8
note_number QueueFull = 9
note_number LineBusy = 10
note_number ResetRefused = 11
note_number CutShort = 12
note_number TxEmpty = 13
note_number RxFull = 14
note_number RxEmpty = 15
