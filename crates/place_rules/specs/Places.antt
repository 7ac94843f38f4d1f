-- The record rules of the queue (01 Notes, note 2): each place by where it stands. docs/RECORD-RULES.md says what each is for. Assumes nothing.
use Rattle.std.specs.Prelude.{Bool, true, not, ◌&&◌, ℕ, zero, suc, ◌+◌, ltb, leb, eqb}
use Rattle.base.specs.Pick.{pick}
use Rattle.crc16.specs.Crc.{start}
use Rattle.command.specs.Layout.{most_words, most_ends}
use Rattle.state.specs.Queue.{places, place_at, in_use, is_done}
use Rattle.state.specs.declared.Place.{Place}
use Rattle.state.specs.declared.Queue.{Queue}

-- a place is one that some command word makes
abbrev pub place_sound : Place → Bool
place_sound p = leb p.words most_words && leb p.ends most_ends

-- as it was queued: nothing sent, nothing read
abbrev pub is_fresh : Place → Bool
is_fresh p =
    not p.compare && not p.damaged && not p.sent && not p.read && eqb p.crc_sent start && eqb p.crc_read start

-- "A command of no words and no ENDs queues nothing": what waits has something to send
abbrev pub waits : Place → Bool
waits p = ltb 0 (p.words + p.ends) && is_fresh p

-- "it is freed when sent and read back, or when sent if it has no words": an older command that has begun is sent and its words' place awaits its
-- reading; "the END place is freed when sent" (02 item 3)
abbrev pub awaits : Place → Bool
awaits p = p.sent && not p.read && ltb 0 p.words && eqb p.ends 0

-- Command i by where it stands: waiting, older than the youngest that has begun, or that one. ENDs whose words' place is freed can only be that one: an END
-- place of a pair stands with its words, or alone while it is under way (02 item 3, docs/RECORD-RULES.md)
unfoldable pub role_sound : ℕ → ℕ → Place → Bool
role_sound begun i p = pick (leb begun i) (waits p) (pick (ltb (i + 1) begun) (awaits p) (not (is_done p)))

-- nothing is asked of a place that is not in use
unfoldable pub slot_sound : Queue → ℕ → Bool
slot_sound q i = pick (leb q.used i) true (place_sound (place_at q i) && role_sound q.begun i (place_at q i))

-- the first n places
unfoldable pub slots_below : Queue → ℕ → Bool
slots_below q zero = true
slots_below q (suc n) = slots_below q n && slot_sound q n

abbrev pub places_sound : Queue → Bool
places_sound q = slots_below q places

abbrev pub queue_sound : Queue → Bool
queue_sound q = leb q.begun q.used && leb q.used places && leb (in_use q) places && places_sound q
