-- The record rules of the sending side and of the whole, as facts: `sound` of `rules` tests them (01 Notes, note 2). Assumes nothing.
use Rattle.std.specs.Prelude.{◌≡◌, true, ℕ, ◌+◌, ◌≤◌, ◌<◌, length}
use Rattle.command.specs.Layout.{most_words, most_ends}
use Rattle.line.specs.Format.{piece_length}
use Rattle.registers.specs.Registers.{regs_sound}
use Rattle.rules.specs.Facts.{Standing, SenderFit, ControlRules, all_some}
use Rattle.line_rules.specs.Line.{ear_sound, marks_sound}
use Rattle.rules.specs.Sound.{last_left}
use Rattle.frame_rules.specs.Frames.{algorithm_sound}
use Rattle.state.specs.Facts.{RingFit, QueueFit}
use Rattle.state.specs.Frame.{mine_of, to_come, phase_sound}
use Rattle.state.specs.Queue.{places, waiting, words_of}
use Rattle.state.specs.Rings.{tx_size, rx_size}
use Rattle.state.specs.declared.Bridge.{Bridge}
use Rattle.state.specs.declared.Sending.{Sending}

-- `to_come` and `mine` are the open frame's: the words that it has still to bring for the place it queued, and its own in TX.
pub record SendRules (s : Sending) (to_come mine : ℕ) : Type 0 where
  pub tx : RingFit tx_size s.tx
  pub queue : QueueFit s.queue
  pub eight : length s.queue.places ≡ places
  pub gone : s.sender.gone ≤ piece_length s.sender.piece
  pub left : s.sender.left ≤ most_words
  pub ends : s.sender.ends ≤ most_ends + 1
  pub sum : s.tx.count + to_come ≡ s.sender.left + words_of (waiting s.queue) + mine
  pub room : to_come ≤ last_left s
  pub some : all_some (waiting s.queue) ≡ true
  pub apart : 0 < to_come → mine ≡ 0

-- what places and sender mean together
pub record Stands (s : Sending) : Type 0 where
  pub standing : Standing s.queue
  pub sender : SenderFit s.sender s.queue

pub record BridgeRules (b : Bridge) : Type 0 where
  pub sending : SendRules b.sending (to_come b.frame.phase) (mine_of b.frame.phase)
  pub stands : Stands b.sending
  pub phase : phase_sound b.frame.phase ≡ true
  pub rx : RingFit rx_size b.receiving.rx
  pub ear : ear_sound b.receiving.reader.ear ≡ true
  pub marks : marks_sound b.receiving.reader.ear b.receiving.reader b.sending.queue b.control.flags ≡ true
  pub control : ControlRules b.control b.receiving.rx.count b.frame.phase
  pub regs : regs_sound b.control.regs ≡ true
  pub algorithm : algorithm_sound b.control.regs.layout b.frame.xmodem ≡ true
