-- The record rules as facts (`sound` is their test): what every event keeps, proved on these.
use Rattle.std.specs.Prelude.{◌≡◌, Bool, true, false, ◌&&◌, List, [], ◌∷◌, ℕ, suc, ◌+◌, ◌≤◌, ◌<◌, ltb, leb}
use Rattle.registers.specs.Registers.{regs_sound, blocking}
use Rattle.registers.specs.declared.Control.{Control}
use Rattle.line.specs.Format.{end_length}
use Rattle.state.specs.Rings.{tx_size, rx_size}
use Rattle.state.specs.Queue.{places, place_at, in_use, last_begun, speaking, under_way, waiting, words_of, is_done}
use Rattle.state.specs.Frame.{mine_of, to_come, phase_sound}
use Rattle.state.specs.Facts.{RingFit, QueueFit}
use Rattle.state.specs.Sending.{idle}
use Rattle.state.specs.declared.Place.{Place}
use Rattle.state.specs.declared.Queue.{Queue}
use Rattle.state.specs.declared.Sender.{Sender}
use Rattle.state.specs.declared.Sending.{Sending}
use Rattle.state.specs.declared.Phase.{Phase}
use Rattle.state.specs.declared.Bridge.{Bridge}
use Rattle.place_rules.specs.Places.{waits, awaits}
use Rattle.line_rules.specs.Line.{piece_sound, ear_sound, marks_sound}
use Rattle.frame_rules.specs.Frames.{otp_sound, drdy_sound, bad_word_sound, algorithm_sound, is_unmarked}
use Rattle.rules.specs.Sound.{last_left}

-- the places in use are at most eight; each command older than the youngest that has begun is sent and not yet read, its ENDs gone, that one is not done, and
-- the others wait
pub record Standing (q : Queue) : Type 0 where
  pub older : (i : ℕ) → suc i < q.begun → awaits (place_at q i) ≡ true
  pub youngest : 0 < q.begun → is_done (last_begun q) ≡ false
  pub fresh : (i : ℕ) → q.begun ≤ i → i < q.used → waits (place_at q i) ≡ true
  pub eight : in_use q ≤ places

pub record SenderFit (s : Sender) (q : Queue) : Type 0 where
  pub piece : piece_sound s.piece s (under_way q) (last_begun q) ≡ true
  pub rest : (idle s && under_way q) ≡ false
  pub over : (leb end_length s.gone && speaking q) ≡ false

-- the rules of registers, flags and frame; `count` words are in RX
pub record ControlRules (c : Control) (count : ℕ) (p : Phase) : Type 0 where
  pub otp : otp_sound c.mode c.flags.otp ≡ true
  pub drdy : drdy_sound c.drdy c.regs.rxfflvl count ≡ true
  pub word : bad_word_sound c.flags ≡ true
  pub marked : (blocking c.flags && is_unmarked p) ≡ false

-- the sum that keeps every word with its command, and what is still to come is for the youngest one
pub record Balanced (s : Sending) (p : Phase) : Type 0 where
  pub sum : s.tx.count + to_come p ≡ s.sender.left + words_of (waiting s.queue) + mine_of p
  pub last : to_come p ≤ last_left s

pub record Sound (b : Bridge) : Type 0 where
  pub tx : RingFit tx_size b.sending.tx
  pub rx : RingFit rx_size b.receiving.rx
  pub regs : regs_sound b.control.regs ≡ true
  pub control : ControlRules b.control b.receiving.rx.count b.frame.phase
  pub queue : QueueFit b.sending.queue
  pub standing : Standing b.sending.queue
  pub sender : SenderFit b.sending.sender b.sending.queue
  pub ear : ear_sound b.receiving.reader.ear ≡ true
  pub marks : marks_sound b.receiving.reader.ear b.receiving.reader b.sending.queue b.control.flags ≡ true
  pub phase : phase_sound b.frame.phase ≡ true
  pub ledger : Balanced b.sending b.frame.phase
  pub algorithm : algorithm_sound b.control.regs.layout b.frame.xmodem ≡ true

-- what waits has something to send: so 01's sum of ticks holds
unfoldable pub all_some : List Place → Bool
all_some [] = true
all_some (p ∷ ps) = ltb 0 (p.words + p.ends) && all_some ps
