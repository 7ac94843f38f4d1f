-- The record rules (01 Notes, note 2: "ranges and sums"): what makes each step well defined, and what every state reached from power-up
-- means. docs/RECORD-RULES.md says what each is for, and what is left free.
use Rattle.std.specs.Prelude.{Bool, ◌&&◌, ℕ, ◌+◌, ◌-◌, ltb, leb, eqb}
use Rattle.base.specs.Pick.{pick}
use Rattle.state.specs.Queue.{place_at, waiting, words_of}
use Rattle.state.specs.Rings.{tx_size, rx_size}
use Rattle.state.specs.Frame.{mine_of, to_come, phase_sound}
use Rattle.state.specs.declared.Ring.{Ring}
use Rattle.state.specs.declared.Sending.{Sending}
use Rattle.state.specs.declared.Phase.{Phase}
use Rattle.state.specs.declared.Bridge.{Bridge}
use Rattle.place_rules.specs.Places.{queue_sound}
use Rattle.line_rules.specs.Line.{sender_sound, reader_sound}
use Rattle.frame_rules.specs.Frames.{control_sound, flags_sound, algorithm_sound}

-- a ring of so many cells
abbrev pub ring_sound : ℕ → Ring → Bool
ring_sound size r = ltb r.head size && leb r.count size

-- what the youngest command has still to take from TX
abbrev pub last_left : Sending → ℕ
last_left s = pick (ltb s.queue.begun s.queue.used) (place_at s.queue (s.queue.used - 1)).words s.sender.left

-- The sum that keeps every word with its command: what TX holds, with what an open forward has still to bring for the command it queued, is
-- what the commands have still to take, with the open forward's own words. What is still to come is for the youngest command.
abbrev pub ledger : Sending → Phase → Bool
ledger s p =
    eqb (s.tx.count + to_come p) (s.sender.left + words_of (waiting s.queue) + mine_of p) && leb (to_come p) (last_left s)

abbrev pub sound : Bridge → Bool
sound b =
    ring_sound tx_size b.sending.tx && ring_sound rx_size b.receiving.rx && control_sound b.control b.receiving.rx.count
    && queue_sound b.sending.queue && sender_sound b.sending.sender b.sending.queue
    && reader_sound b.receiving.reader b.sending.queue b.control.flags && phase_sound b.frame.phase
    && flags_sound b.control.flags b.frame.phase && ledger b.sending b.frame.phase
    && algorithm_sound b.control.regs.layout b.frame.xmodem
