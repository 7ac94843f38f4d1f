-- Forwards (01 Frames, "Forwards store data words as they come"; notes 5, 8 and 9, which are one guard). Assumes nothing.
use Rattle.std.specs.Prelude.{Bool, true, false, not, ◌&&◌, ◌||◌, ℕ, ◌+◌, ltb, leb, eqb, Option, None, Some}
use Rattle.base.specs.Pick.{pick}
use Rattle.command.specs.declared.Command.TheVariants.{Forward}
use Rattle.registers.specs.Raising.{raised_in}
use Rattle.registers.specs.declared.Control.{Control}
use Rattle.registers.specs.declared.Flag.TheVariants.{QueueOvf, TxOvf}
use Rattle.state.specs.Rings.{tx_size}
use Rattle.state.specs.Queue.{new_place, lacks}
use Rattle.state.specs.declared.Bridge.{Bridge}
use Rattle.state.specs.declared.Deed.{Deed}
use Rattle.state.specs.declared.Deed.TheVariants.{Leave, Enqueue, TakeBack, ClearAll, ResetAll}
use Rattle.state.specs.declared.Fwd.{Fwd}
use Rattle.state.specs.declared.Note.{Note}
use Rattle.state.specs.declared.Note.TheVariants.{Done, WrongStores, BrokenRecord, MalformedWord, Discarded, Blocked, CrcRefused, CrcWrong, TxFull, QueueFull, LineBusy, ResetRefused, CutShort, TxEmpty, RxFull, RxEmpty}
use Rattle.state.specs.declared.Phase.TheVariants.{Collecting}
use Rattle.state.specs.declared.Place.{Place}
use Rattle.state.specs.declared.Progress.{Progress}
use Rattle.state.specs.declared.Queue.{Queue}
use Rattle.plan.specs.Plan.{no_answer}
use Rattle.plan.specs.declared.Plan.{Plan}
use Rattle.plan.specs.declared.Receive.TheVariants.{LeaveRx}
use Rattle.forwards.specs.declared.Wish.{Wish}
use Rattle.forwards.specs.declared.Granted.{Granted}

abbrev pub wish : Option ℕ → Bool → Place → Wish
wish st release p = record { store = st; release = release; place = p }

abbrev pub granted : Option ℕ → Deed → Note → Granted
granted st d n = record { store = st; deed = d; note = n }

-- just after the command word, which the CRC begins with (01 Frames, "over command and data words")
abbrev pub just_begun : ℕ → Bool → Progress
just_begun sum blocked = record { got = 0; crc = sum; mine = 0; released = false; blocked = blocked }

-- "word counted", dropped or not (01 Notes, 5 and 8)
abbrev pub word_counted : Progress → Progress
word_counted at = record { got = at.got + 1; crc = at.crc; mine = at.mine; released = at.released; blocked = at.blocked }

unfoldable pub asks_store : Option ℕ → Bool
asks_store None = false
asks_store (Some w) = true

-- Notes 5, 8 and 9: a blocked forward's word or release is dropped; a word with TX full, or a release with fewer places free than it needs (02
-- item 3), is a transmit clear, and "a data word that releases is stored first". `count` words are in TX.
unfoldable pub guard : Bool → ℕ → Queue → Wish → Granted
guard blocked count q w =
    pick (blocked && (asks_store w.store || w.release)) (granted None Leave Blocked)
    (pick (asks_store w.store && leb tx_size count) (granted None ClearAll TxFull)
    (pick w.release
    (pick (lacks q w.place) (granted w.store ClearAll QueueFull) (granted w.store (Enqueue w.place) Done))
    (granted w.store Leave Done)))

-- the flag that a refusal raises
unfoldable pub faulted : Control → Note → Control
faulted c Done = c
faulted c WrongStores = c
faulted c BrokenRecord = c
faulted c MalformedWord = c
faulted c Discarded = c
faulted c Blocked = c
faulted c CrcRefused = c
faulted c CrcWrong = c
faulted c TxFull = raised_in c TxOvf
faulted c QueueFull = raised_in c QueueOvf
faulted c LineBusy = c
faulted c ResetRefused = c
faulted c CutShort = c
faulted c TxEmpty = c
faulted c RxFull = c
faulted c RxEmpty = c

-- the frame's unreleased words in TX
unfoldable pub mine_after : Deed → Option ℕ → ℕ → Bool → ℕ
mine_after Leave st mine released = pick (asks_store st && not released) (mine + 1) mine
mine_after (Enqueue p) st mine released = 0
mine_after (TakeBack n) st mine released = 0
mine_after ClearAll st mine released = 0
mine_after ResetAll st mine released = 0

unfoldable pub enqueues : Deed → Bool
enqueues Leave = false
enqueues (Enqueue p) = true
enqueues (TakeBack n) = false
enqueues ClearAll = false
enqueues ResetAll = false

-- "a forward still being received is blocked"
unfoldable pub clears : Deed → Bool
clears Leave = false
clears (Enqueue p) = false
clears (TakeBack n) = false
clears ClearAll = true
clears ResetAll = true

-- a forward that goes on collecting, after what was granted of its word
unfoldable pub forwarded : Bridge → Fwd → Progress → Granted → Plan
forwarded b f at g = record {
  phase =
      Collecting (Forward f.crc f.words f.ends f.reads) at.got at.crc
      (mine_after g.deed g.store at.mine at.released) (enqueues g.deed || at.released) (clears g.deed || at.blocked);
  held = b.frame.held;
  control = faulted b.control g.note;
  store = g.store;
  deed = g.deed;
  receive = LeaveRx;
  note = g.note;
  sdo = no_answer;
  status = false;
}

-- "Release: .. when TX holds at least TXFFLVL + 1 words just after one of this frame's is stored, or when all data words have come"; once a frame
abbrev pub releases : Fwd → Progress → ℕ → ℕ → Bool
releases f at level count = not f.crc && not at.released && (leb (level + 1) count || eqb at.got f.words)

-- a data word, with which TX would hold one word more; `at` is before it, but for the CRC
unfoldable pub forward_word : Bridge → Fwd → Progress → ℕ → Plan
forward_word b f at w =
    forwarded b f (word_counted at)
    (guard at.blocked b.sending.tx.count b.sending.queue
    (wish (Some w) (releases f (word_counted at) b.control.regs.txfflvl (b.sending.tx.count + 1)) (new_place f.words f.ends f.reads)))

-- the command word: released at once where there are no data words and it is not named _CRC. "A command of no words and no ENDs queues nothing"
unfoldable pub forward_begun : Bridge → Fwd → ℕ → Bool → Plan
forward_begun b f sum blocked =
    forwarded b f (just_begun sum blocked)
    (guard blocked b.sending.tx.count b.sending.queue
    (wish None (not f.crc && eqb f.words 0 && ltb 0 f.ends) (new_place f.words f.ends f.reads)))
