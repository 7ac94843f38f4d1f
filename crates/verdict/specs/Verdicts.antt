-- Whether a call-up is taken, and why not (02 item 13, "Refusals: 32 .., 33 .., 34 .., 35 .., in that order and after notes 1 and 2"). Assumes nothing.
use Rattle.std.specs.Prelude.{Bool, true, false, ◌&&◌, ℕ, ◌+◌, ltb, leb, eqb, Result, Ok, Err, is_ok, ⊤}
use Rattle.base.specs.Pick.{pick}
use Rattle.state.specs.Queue.{places, in_use}
use Rattle.state.specs.Rings.{tx_size, rx_size}
use Rattle.state.specs.declared.Bridge.{Bridge}
use Rattle.state.specs.declared.Phase.{Phase}
use Rattle.state.specs.declared.Phase.TheVariants.{Idle, Collecting, Answering, Discarding}
use Rattle.rules.specs.Sound.{sound}
use Rattle.next.specs.Next.{may_start}
use Rattle.verdict.specs.declared.Refusal.{Refusal}
use Rattle.verdict.specs.declared.Refusal.TheVariants.{WrongStores, BrokenRecord, NoSlot, WrongLength, NotReady, NoRoom}

-- what is told of a call-up: it is taken, or its refusal
abbrev pub Verdict : Type 0
Verdict = Result ⊤ Refusal

abbrev pub Taken : Verdict
Taken = Ok tt

-- 02's numbers; 1 and 2 are the bridge's notes (01 Notes); 0 is none
abbrev pub verdict_number : Verdict → ℕ
verdict_number (Ok tt) = 0
verdict_number (Err WrongStores) = 1
verdict_number (Err BrokenRecord) = 2
verdict_number (Err NoSlot) = 32
verdict_number (Err WrongLength) = 33
verdict_number (Err NotReady) = 34
verdict_number (Err NoRoom) = 35

abbrev pub is_taken : Verdict → Bool
is_taken v = is_ok v

-- 35: what waiting can mend
abbrev pub is_no_room : Verdict → Bool
is_no_room (Ok tt) = false
is_no_room (Err WrongStores) = false
is_no_room (Err BrokenRecord) = false
is_no_room (Err NoSlot) = false
is_no_room (Err WrongLength) = false
is_no_room (Err NotReady) = false
is_no_room (Err NoRoom) = true

-- 1 and 2: nothing can be done with these stores or this record
abbrev pub is_broken : Verdict → Bool
is_broken (Ok tt) = false
is_broken (Err WrongStores) = true
is_broken (Err BrokenRecord) = true
is_broken (Err NoSlot) = false
is_broken (Err WrongLength) = false
is_broken (Err NotReady) = false
is_broken (Err NoRoom) = false

-- "holds forty slots", "32 slot over 39"
abbrev pub slot_count : ℕ
slot_count = 40

abbrev pub last_slot : ℕ
last_slot = 39

-- "1 to 30 words", "33 no words or over 30"
abbrev pub call_up_most : ℕ
call_up_most = 30

-- "a host frame open or discarding" is any phase but idle
unfoldable pub is_idle : Phase → Bool
is_idle Idle = true
is_idle (Collecting command got crc mine released blocked) = false
is_idle (Answering reply crc) = false
is_idle Discarding = false

-- "34 bridge not in NORMAL, POR set, a blocking flag up, a host frame open or discarding": whatever else is to hold a call-up back joins here
unfoldable pub is_ready : Bridge → Bool
is_ready b = may_start b.control && is_idle b.frame.phase

-- "two places free and room in TX for its words and the VSYNC"
unfoldable pub has_room : Bridge → ℕ → Bool
has_room b n = leb (in_use b.sending.queue + 2) places && leb (b.sending.tx.count + n + 1) tx_size

-- 34, 35
unfoldable pub room_verdict : Bridge → ℕ → Verdict
room_verdict b n = pick (is_ready b) (pick (has_room b n) Taken (Err NoRoom)) (Err NotReady)

-- a call-up for this slot, of n words, on stores of these lengths: 1, 2, 32, 33, 34, 35
unfoldable pub verdict_by : ℕ → ℕ → Bridge → ℕ → ℕ → Verdict
verdict_by tx rx b slot n =
    pick (eqb tx tx_size)
    (pick (eqb rx rx_size)
    (pick (sound b)
    (pick (ltb last_slot slot) (Err NoSlot) (pick (eqb n 0) (Err WrongLength) (pick (ltb call_up_most n) (Err WrongLength) (room_verdict b n))))
    (Err BrokenRecord))
    (Err WrongStores))
    (Err WrongStores)
